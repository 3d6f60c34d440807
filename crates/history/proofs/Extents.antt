-- How far kept commands go, and how long they are. Assumes nothing.
use Prim.Native.Nat.{ℕ, ◌+◌, ◌*◌, ◌≤◌}
use native.Mathlib.Omega.{arith}
use mathlib.Core.Path.{◌≡◌, refl, sym, ap, subst, ◌∙◌}
use mathlib.Core.List.{List, [], ◌∷◌, ◌++◌, reverse, reverse_aux}
use mathlib.Core.Bool.{Bool, true, false, cond, ◌||◌}
use borrow.Author.Tests.{ltb-false}
use lib.Dec.{ltb}
use lib.ListN.{length, take, length-append, length-drop, length-reverse}
use lib.Seq.{length-take-le}
use Rattle.formats.specs.Format.{V1, fixed}
use Rattle.lists.specs.Parts.{concat_map}
use Rattle.lists.specs.Search.{last}
use Rattle.lists.proofs.Tests.{or_fails}
use Rattle.commands.specs.Bytes.{fields_of, payload, extent, formed}
use Rattle.commands.proofs.CommandBytes.{length_payload}
use Rattle.stream.specs.Stream.{whole, commands, end_of}
use Rattle.stream.proofs.Place.{extent_fixed, extent_take, whole_out}
use Rattle.stream.proofs.Commands.{along, commands_whole, commands_cut, end_whole, end_cut}
use Rattle.stream.proofs.Walks as walk
use Rattle.history.specs.Engine.{most_kept, most_payload, over_limits}
use Rattle.history.specs.Lent.{history_size}
use Rattle.history.specs.inner.Steps.{Measured, over_with}

-- A whole command in front: its payload is what its extent leaves.
payload_first : (s : List ℕ) → whole V1 s ≡ true → length (payload V1 (take (extent V1 s) s)) + fixed V1 ≡ extent V1 s
unfolding payload
payload_first s h =
    let long = length-take-le (extent V1 s) s (whole_out V1 s h) in
    let rest = length-drop (fixed V1) (take (extent V1 s) s) in
    omega (arith, long, rest, extent_fixed V1 s)

-- ---- the kept commands are as long as they say

abbrev pub Sized : List (List ℕ) → Type 0
Sized [] = Unit {0}
Sized (b ∷ l) = (length (payload V1 b) ≡ (fields_of V1 b).length) × Sized l

sized_reverse : (l kept : List (List ℕ)) → Sized l → Sized kept → Sized (reverse_aux l kept)
sized_reverse [] kept h k = k
sized_reverse (b ∷ l) kept h k = sized_reverse l (b ∷ kept) h.1 (h.0, k)

sized_first : (s : List ℕ) → whole V1 s ≡ true → length (payload V1 (take (extent V1 s) s)) ≡ (fields_of V1 (take (extent V1 s) s)).length
unfolding fields_of
sized_first s h =
    let front = payload_first s h in
    let named = extent_take V1 (extent V1 s) s (extent_fixed V1 s) in
    omega (arith, front, named)

pub sized_commands : (s : List ℕ) → Sized (reverse (commands V1 s))
sized_commands s = sized_reverse (commands V1 s) [] (forwards s) tt
  where
    forwards : (s : List ℕ) → Sized (commands V1 s)
    forwards =
        along V1 (λ (s : List ℕ). Sized (commands V1 s)) (λ s h. subst Sized (sym (commands_cut V1 s h)) tt)
        (λ s h rest. subst Sized (sym (commands_whole V1 s h)) (sized_first s h, rest))

pub sized_last : (p : List ℕ → Bool) (kept : List (List ℕ)) → Sized kept → length (last p (payload V1) [] kept) ≡ last p (λ (b : List ℕ). (fields_of V1 b).length) 0 kept
sized_last p [] h = refl
sized_last p (b ∷ kept) h = go (p b) (sized_last p kept h.1)
  where
    go : (q : Bool) → length (last p (payload V1) [] kept) ≡ last p (λ (b : List ℕ). (fields_of V1 b).length) 0 kept
        → length (cond q (payload V1 b) (last p (payload V1) [] kept)) ≡ cond q (fields_of V1 b).length (last p (λ (b : List ℕ). (fields_of V1 b).length) 0 kept)
    go true rest = h.0
    go false rest = rest

-- ---- how far they go

abbrev paid : List (List ℕ) → ℕ
paid l = length (concat_map (payload V1) l)

paid_reverse : (l kept : List (List ℕ)) → paid (reverse_aux l kept) ≡ paid l + paid kept
unfolding concat_map
paid_reverse [] kept = omega arith
paid_reverse (b ∷ l) kept =
    paid_reverse l (b ∷ kept)
    ∙ (let one = length-append (payload V1 b) (concat_map (payload V1) kept) in
    let other = length-append (payload V1 b) (concat_map (payload V1) l) in
    omega (arith, one, other))

sum : (s : List ℕ) → end_of V1 s ≡ length (commands V1 s) * fixed V1 + paid (commands V1 s)
unfolding concat_map
sum =
    along V1 (λ (s : List ℕ). end_of V1 s ≡ length (commands V1 s) * fixed V1 + paid (commands V1 s))
    (λ s h. rw (end_cut V1 s h, commands_cut V1 s h))
    (λ s h rest.
    let front = payload_first s h in
    rw (end_whole V1 s h, commands_whole V1 s h, length-append) (omega (arith, front, rest)))

pub measured : (s : List ℕ) → Measured s (end_of V1 s) (length (reverse (commands V1 s))) (paid (reverse (commands V1 s)))
unfolding concat_map
measured s =
    let count = length-reverse (commands V1 s) in
    let all = paid_reverse (commands V1 s) [] in
    record { ends = refl; counts = refl; pays = refl; sum = omega (arith, sum s, count, all); within = walk.within V1 s }

-- The limits, by the command's own length.
pub over_is : (command : List ℕ) (kept : List (List ℕ)) → formed V1 command ≡ true → over_limits (command ∷ kept) ≡ over_with kept (fields_of V1 command)
unfolding concat_map
over_is command kept h =
    let more : length (command ∷ kept) ≡ length kept + 1 = omega arith in
    let all : length (payload V1 command ++ concat_map (payload V1) kept) ≡ (fields_of V1 command).length + paid kept =
    length-append (payload V1 command) (concat_map (payload V1) kept) ∙ ap (λ (m : ℕ). m + paid kept) (length_payload V1 command h) in
    rw (more, all)

-- Where neither limit is passed, the command fits behind the others.
pub fits_behind_lem : (bytes : List ℕ) (end count payloads len : ℕ) → Measured bytes end count payloads
    → ltb most_kept (count + 1) || ltb most_payload (len + payloads) ≡ false
    → end + fixed V1 + len ≤ history_size
fits_behind_lem bytes end count payloads len x h =
    let both = or_fails (ltb most_kept (count + 1)) (ltb most_payload (len + payloads)) h in
    let few = ltb-false most_kept (count + 1) both.0 in
    let low = ltb-false most_payload (len + payloads) both.1 in
    omega (arith, few, low, x.sum)
