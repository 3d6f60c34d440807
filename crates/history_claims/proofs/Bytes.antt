-- An accepted command stands behind the others. Assumes nothing.
use Prim.Native.Nat.{ℕ, zero, suc, ◌+◌, ◌≤◌, ◌<◌}
use native.Mathlib.Omega.{arith}
use mathlib.Core.Path.{◌≡◌, refl, sym, ap, subst, ◌∙◌}
use mathlib.Core.Logic.{◌⊎◌, inl, inr}
use mathlib.Core.List.{List, [], ◌∷◌, ◌++◌, reverse, reverse-append, append-nil, append_assoc}
use mathlib.Core.Bool.{true, false}
use borrow.Author.Tests.{ltb-true, ltb-false, not-false}
use lib.Dec.{ltb}
use lib.ListN.{length, take, drop, get_or, length-append, length-take, get_or-append}
use lib.Seq.{length-take-le, take-append_seam, get_or-append_seam}
use Rattle.formats.specs.Format.{V1}
use Rattle.lists.specs.Parts.{concat_map, splice}
use Rattle.lists.specs.Table.{Row}
use Rattle.lists.proofs.Parts.{length_splice}
use Rattle.lists.proofs.ConcatMap.{concat_map_append}
use Rattle.lists.proofs.Table.{unapplied, none_applies}
use Rattle.lists.proofs.Tests.{cases}
use Rattle.commands.specs.Bytes.{fields_of, formed}
use Rattle.commands.proofs.CommandBytes.{formedness}
use Rattle.stream.specs.Stream.{OneCommand, commands, end_of, end_to_end}
use Rattle.stream.proofs.Place.{cut_short}
use Rattle.stream.proofs.Commands.{end_length}
use Rattle.stream.proofs.Walks as walk
use Rattle.guard.specs.Replies.{replied}
use Rattle.history.specs.Engine.{over_limits, engine_rows, deduced_by, deduced}
use Rattle.history.specs.Lent.{history_size, kept_in, bytes_by, used_by, history_serve}
use Rattle.history.proofs.Extents.{measured, over_is, fits_behind_lem}
use Rattle.history_claims.specs.Lent.{BytesKeep, BytesKept}
use Rattle.numbers.specs.Numbers.{HISTORY_FULL}

-- Where neither limit is passed, the command fits behind the others.
fits : (s command : List ℕ) → formed V1 command ≡ true → over_limits (command ∷ reverse (commands V1 s)) ≡ false → end_of V1 s + length command ≤ history_size
fits s command f h =
    let behind = fits_behind_lem s _ _ _ (fields_of V1 command).length (measured s) (sym (over_is command (reverse (commands V1 s)) f) ∙ h) in
    let long = (formedness V1 command f).whole in
    omega (arith, behind, long)

-- ---- one more command

one_command : (command : List ℕ) → formed V1 command ≡ true → OneCommand V1 command
unfolding fields_of
one_command command f = let whole = (formedness V1 command f).whole in (omega (arith, whole), whole)

one_more : (l : List (List ℕ)) (command : List ℕ) → ((i : ℕ) → i < length l → OneCommand V1 (get_or l i [])) → OneCommand V1 command
    → (i : ℕ) → i < length (l ++ (command ∷ [])) → OneCommand V1 (get_or (l ++ (command ∷ [])) i [])
one_more l command each own i h = go (cases (ltb i (length l)))
  where
    go : (ltb i (length l) ≡ true) ⊎ (ltb i (length l) ≡ false) → OneCommand V1 (get_or (l ++ (command ∷ [])) i [])
    go (inl t) =
        let less = ltb-true i (length l) t in
        subst (OneCommand V1) (sym (get_or-append l (command ∷ []) [] i less)) (each i less)
    go (inr f) =
        let more = ltb-false i (length l) f in
        let long = length-append l (command ∷ []) in
        let last : length l ≡ i = omega (arith, more, long, h) in
        subst (λ (j : ℕ). OneCommand V1 (get_or (l ++ (command ∷ [])) j [])) last (subst (OneCommand V1) (sym (get_or-append_seam l command [] [])) own)

front : (s : List ℕ) → take (end_of V1 s) s ≡ end_to_end (commands V1 s)
front s =
    ap (λ (n : ℕ). take n s) (end_length V1 s)
    ∙ ap (take (length (end_to_end (commands V1 s)))) (sym (walk.joined V1 s))
    ∙ take-append_seam (end_to_end (commands V1 s)) (drop (end_of V1 s) s)

concat_map_one : (command : List ℕ) → end_to_end (command ∷ []) ≡ command
unfolding concat_map
concat_map_one command = append-nil command

commands_more : (s command : List ℕ) → OneCommand V1 command → commands V1 (take (end_of V1 s) s ++ command) ≡ commands V1 s ++ (command ∷ [])
commands_more s command own =
    ap (λ (l : List ℕ). commands V1 (l ++ command)) (front s)
    ∙ ap (λ (l : List ℕ). commands V1 (end_to_end (commands V1 s) ++ l)) (sym (concat_map_one command))
    ∙ ap (commands V1) (sym (concat_map_append (λ (c : List ℕ). c) (commands V1 s) (command ∷ [])) ∙ sym (append-nil (end_to_end (commands V1 s ++ (command ∷ [])))))
    ∙ walk.back V1 (commands V1 s ++ (command ∷ [])) [] (one_more (commands V1 s) command (walk.each V1 s) own) (cut_short V1 [] (omega arith))

-- ---- the bytes

module _ (bytes : List ℕ) (used : ℕ) (command : List ℕ) (long : length bytes ≡ history_size) (f : formed V1 command ≡ true)
    (h : over_limits (command ∷ kept_in bytes used) ≡ false) where
  abbrev s : List ℕ
  s = take used bytes

  room : end_of V1 s + length command ≤ length bytes
  unfolding kept_in
  room = let low = fits s command f h in omega (arith, low, long)

  -- What stands before the place.
  take-take : take (end_of V1 s) bytes ≡ take (end_of V1 s) s
  take-take =
      let within = walk.within V1 s in
      let short = length-take used bytes in
      sym (lib.Seq.take-take (end_of V1 s) used bytes (omega (arith, within, short)))

  after : take (end_of V1 s + length command) (splice (end_of V1 s) command bytes) ≡ take (end_of V1 s) s ++ command
  unfolding splice
  after =
      let n : ℕ = end_of V1 s in
      let front_long : length (take n bytes) ≡ n = length-take-le n bytes (omega (arith, room)) in
      ap (λ (l : List ℕ). take (n + length command) l) (sym (append_assoc (take n bytes) command (drop (n + length command) bytes)))
      ∙ ap (λ (m : ℕ). take m ((take n bytes ++ command) ++ drop (n + length command) bytes))
      (sym (length-append (take n bytes) command ∙ ap (λ (k : ℕ). k + length command) front_long))
      ∙ take-append_seam (take n bytes ++ command) (drop (n + length command) bytes)
      ∙ ap (λ (l : List ℕ). l ++ command) take-take

  pub kept_more : kept_in (splice (end_of V1 s) command bytes) (end_of V1 s + length command) ≡ command ∷ kept_in bytes used
  unfolding kept_in
  kept_more =
      ap (λ (l : List ℕ). reverse (commands V1 l)) after
      ∙ ap reverse (commands_more s command (one_command command f))
      ∙ reverse-append (commands V1 s) (command ∷ [])

  pub long_more : length (splice (end_of V1 s) command bytes) ≡ history_size
  long_more = length_splice (end_of V1 s) command bytes room ∙ long

-- ---- by the number

refused : (n c : ℕ) (bytes : List ℕ) (used : ℕ) (command reply : List ℕ) → length bytes ≡ history_size
    → (j : ℕ) → (deduced n c (kept_in bytes used) command reply).answer.number ≡ suc j → BytesKeep n c bytes used command reply
unfolding history_serve bytes_by used_by deduced deduced_by replied
refused n c bytes used command reply long j e = record { holds = rw e; long = rw e long }

accepted : (n c : ℕ) (bytes : List ℕ) (used : ℕ) (command reply : List ℕ) → length bytes ≡ history_size
    → (deduced n c (kept_in bytes used) command reply).answer.number ≡ 0 → BytesKeep n c bytes used command reply
unfolding history_serve bytes_by used_by deduced deduced_by replied
accepted n c bytes used command reply long e =
    let rows : List Row = engine_rows n c (kept_in bytes used) command (length reply) in
    let never = none_applies rows ((unapplied rows tt).0 e) in
    let f : formed V1 command ≡ true = not-false (formed V1 command) (never 1) in
    let h : over_limits (command ∷ kept_in bytes used) ≡ false = never HISTORY_FULL in
    record { holds = rw e (kept_more bytes used command long f h); long = rw e (long_more bytes used command long f h) }

pub bytes_kept : BytesKept
bytes_kept n c bytes used command reply long = go (deduced n c (kept_in bytes used) command reply).answer.number refl
  where
    kept : List (List ℕ)
    kept = kept_in bytes used

    go : (m : ℕ) → (deduced n c kept command reply).answer.number ≡ m → BytesKeep n c bytes used command reply
    go (suc j) e = refused n c bytes used command reply long j e
    go zero e = accepted n c bytes used command reply long e
