-- The walk of a stream: its commands end to end, what stands at a place, and where each command begins. Assumes nothing.
use Prim.Native.Nat.{ℕ, zero, suc, ◌+◌, ◌-◌, ◌*◌, ◌/◌, ◌≤◌, ◌<◌, zero-le, suc-le-suc}
use native.Mathlib.Omega.{arith}
use native.Mathlib.Nat.{not-suc-le-zero, le_of_suc-le-suc}
use mathlib.Core.Path.{◌≡◌, refl, sym, ap, ◌∙◌}
use mathlib.Core.List.{List, [], ◌∷◌, ◌++◌, append_assoc}
use mathlib.Core.Bool.{Bool, true, false}
use lib.ListN.{length, take, drop, get_or, length-drop, length-append, take-append-drop}
use lib.Seq.{length-take-le, drop-drop, take_at, drop_at, take-suc, take-length, drop-cons}
use Rattle.std.specs.Prelude.{Some, None}
use Rattle.formats.proofs.Numbers.{numbers}
use Rattle.formats.specs.Format.{Format, V1, V2, fixed}
use Rattle.lists.specs.Parts.{part, concat_map}
use Rattle.lists.proofs.ConcatMap.{concat_map_append}
use Rattle.commands.specs.Bytes.{extent}
use Rattle.stream.specs.Stream.{whole, OneCommand, next_at, commands, end_of, end_to_end, place_of}
use Rattle.stream.proofs.Place.{extent_fixed, extent_take, extent_append, whole_in, whole_out, says_whole, says_cut}
use Rattle.stream.proofs.Commands.{commands_whole, commands_cut, end_length, end_whole, end_cut, along}

-- As many times as a fixed part fits.
quotient : (v : Format) {a c : ℕ} → a * fixed v ≤ c → a ≤ c / fixed v
quotient V1 h = omega arith
quotient V2 h = omega arith

module _ (v : Format) where
  -- ---- the parts of a stream

  pub joined : (s : List ℕ) → end_to_end (commands v s) ++ drop (end_of v s) s ≡ s
  unfolding concat_map
  joined = along v (λ (s : List ℕ). end_to_end (commands v s) ++ drop (end_of v s) s ≡ s) stop more
    where
      stop : (s : List ℕ) → whole v s ≡ false → end_to_end (commands v s) ++ drop (end_of v s) s ≡ s
      stop s e = rw (commands_cut v s e, end_cut v s e)

      more : (s : List ℕ) → whole v s ≡ true →
          end_to_end (commands v (drop (extent v s) s)) ++ drop (end_of v (drop (extent v s) s)) (drop (extent v s) s) ≡ drop (extent v s) s →
          end_to_end (commands v s) ++ drop (end_of v s) s ≡ s
      more s e rest =
          rw (commands_whole v s e, end_whole v s e, append_assoc, ← drop-drop (end_of v (drop (extent v s) s)) (extent v s) s, rest)
          (take-append-drop (extent v s) s)

  pub each : (s : List ℕ) (i : ℕ) → i < length (commands v s) → OneCommand v (get_or (commands v s) i [])
  each = along v (λ (s : List ℕ). (i : ℕ) → i < length (commands v s) → OneCommand v (get_or (commands v s) i [])) stop more
    where
      stop : (s : List ℕ) → whole v s ≡ false → (i : ℕ) → i < length (commands v s) → OneCommand v (get_or (commands v s) i [])
      stop s e i h = absurd (not-suc-le-zero (rw (commands_cut v s e) at h))

      front : (s : List ℕ) → whole v s ≡ true → OneCommand v (take (extent v s) s)
      front s e =
          let long = length-take-le (extent v s) s (whole_out v s e) in
          (rw long (extent_fixed v s), long ∙ sym (extent_take v (extent v s) s (extent_fixed v s)))

      nth : (c : List ℕ) (cs : List (List ℕ)) → OneCommand v c → ((i : ℕ) → i < length cs → OneCommand v (get_or cs i [])) →
          (i : ℕ) → i < length (c ∷ cs) → OneCommand v (get_or (c ∷ cs) i [])
      nth c cs one rest zero h = one
      nth c cs one rest (suc i) h = rest i (le_of_suc-le-suc h)

      more : (s : List ℕ) → whole v s ≡ true → ((i : ℕ) → i < length (commands v (drop (extent v s) s)) → OneCommand v (get_or (commands v (drop (extent v s) s)) i [])) →
          (i : ℕ) → i < length (commands v s) → OneCommand v (get_or (commands v s) i [])
      more s e rest = rw (commands_whole v s e) (nth (take (extent v s) s) (commands v (drop (extent v s) s)) (front s e) rest)

  -- What comes first is one command.
  pub given : (s : List ℕ) {c : List ℕ} {cs : List (List ℕ)} → commands v s ≡ c ∷ cs → OneCommand v c
  given s e = (rw e at (each s 0)) (suc-le-suc zero-le)

  pub stopped : (s : List ℕ) → whole v (drop (end_of v s) s) ≡ false
  stopped =
      along v
      (λ (s : List ℕ). whole v (drop (end_of v s) s) ≡ false)
      (λ s e. rw (end_cut v s e) e)
      (λ s e rest. rw (end_whole v s e, ← drop-drop (end_of v (drop (extent v s) s)) (extent v s) s) rest)

  pub within : (s : List ℕ) → end_of v s ≤ length s
  within =
      along v
      (λ (s : List ℕ). end_of v s ≤ length s)
      (λ s e. rw (end_cut v s e) (omega (arith, numbers v)))
      (λ s e rest. rw (end_whole v s e) (omega (arith, numbers v, rw length-drop at rest, whole_out v s e)))

  -- Each command takes at least its fixed part.
  room : (s : List ℕ) → length (commands v s) * fixed v ≤ end_of v s
  room =
      along v
      (λ (s : List ℕ). length (commands v s) * fixed v ≤ end_of v s)
      (λ s e. rw (commands_cut v s e) (omega (arith, numbers v)))
      (λ s e rest. rw (commands_whole v s e, end_whole v s e) (omega (arith, numbers v, rest, extent_fixed v s)))

  pub few : (s : List ℕ) → length (commands v s) ≤ length s / fixed v
  few s = quotient v (omega (arith, room s, within s))

  -- ---- a command in front

  pub first : (c s : List ℕ) → OneCommand v c → commands v (c ++ s) ≡ c ∷ commands v s
  first c s one =
      let begins : extent v (c ++ s) ≡ extent v c = extent_append v c s one.0 in
      let long : length c ≡ extent v (c ++ s) = one.1 ∙ sym begins in
      let full : whole v (c ++ s) ≡ true = whole_in v (c ++ s) (rw (← long, length-append) (omega (arith, numbers v))) in
      commands_whole v (c ++ s) full ∙ rw (take_at c s (extent v (c ++ s)) long, drop_at c s (extent v (c ++ s)) long)

  pub back : (cs : List (List ℕ)) (rest : List ℕ) → ((i : ℕ) → i < length cs → OneCommand v (get_or cs i [])) → whole v rest ≡ false → commands v (end_to_end cs ++ rest) ≡ cs
  unfolding concat_map
  back [] rest h e = commands_cut v rest e
  back (c ∷ cs) rest h e =
      ap (commands v) (append_assoc c (end_to_end cs) rest)
      ∙ first c (end_to_end cs ++ rest) (h 0 (suc-le-suc zero-le))
      ∙ ap (λ (ds : List (List ℕ)). c ∷ ds) (back cs rest (λ i k. h (suc i) (suc-le-suc k)) e)

  -- ---- stepping

  -- What stands at a place is whole: the first of the commands from there on, and the others begin behind it.
  pub passes : (s : List ℕ) (at end : ℕ) → next_at v s at ≡ Some end →
      (at + fixed v ≤ end) × (end ≤ length s) × (commands v (drop at s) ≡ part at (end - at) s ∷ commands v (drop end s))
  unfolding part
  passes s at end e =
      let stands = says_whole v s at end e in
      let some = extent_fixed v (drop at s) in
      let fits : extent v (drop at s) ≤ length s - at = rw (← length-drop at s) (whole_out v (drop at s) stands.begins) in
      let long : end - at ≡ extent v (drop at s) = omega (arith, numbers v, stands.ends) in (
        omega (arith, numbers v, stands.ends),
        omega (arith, numbers v, stands.ends),
        commands_whole v (drop at s) stands.begins ∙ rw (drop-drop (extent v (drop at s)) at s, ← stands.ends, long),
      )

  -- It is not: no command is left.
  pub stops : (s : List ℕ) (at : ℕ) → next_at v s at ≡ None → commands v (drop at s) ≡ []
  stops s at e = commands_cut v (drop at s) (says_cut v s at e)

  -- What the commands of some bytes say of the bytes.
  pub record Opened (t c : List ℕ) (cs : List (List ℕ)) : Type 0 where
    pub begins : whole v t ≡ true
    pub first : c ≡ take (extent v t) t
    pub rest : cs ≡ commands v (drop (extent v t) t)

  opened : (t c : List ℕ) (cs : List (List ℕ)) → commands v t ≡ c ∷ cs → Opened t c cs
  opened t c cs e = go (whole v t) refl
    where
      go : (b : Bool) → whole v t ≡ b → Opened t c cs
      go true q = let same = sym e ∙ commands_whole v t q in record { begins = q; first = cc; rest = cc }
      go false q = let never = sym e ∙ commands_cut v t q in let z : ◌≡◌ {A = ℕ} 0 1 = cc in absurd (omega (arith, numbers v))

  module _ (s : List ℕ) where
    -- One more command.
    further : (i : ℕ) → i < length (commands v s) → place_of v s (suc i) ≡ place_of v s i + length (get_or (commands v s) i [])
    unfolding place_of concat_map
    further i h = rw (take-suc (commands v s) i [] h, concat_map_append, length-append) (simp (length-append) (omega (arith, numbers v)))

    -- The commands from a command's place on are those from that command on.
    open_at : (i : ℕ) → i < length (commands v s) → commands v (drop (place_of v s i) s) ≡ drop i (commands v s) →
        Opened (drop (place_of v s i) s) (get_or (commands v s) i []) (drop (suc i) (commands v s))
    open_at i h e = opened (drop (place_of v s i) s) (get_or (commands v s) i []) (drop (suc i) (commands v s)) (e ∙ drop-cons (commands v s) i [] h)

    -- and the next one begins behind it.
    behind : (i : ℕ) → i < length (commands v s) → whole v (drop (place_of v s i) s) ≡ true → get_or (commands v s) i [] ≡ take (extent v (drop (place_of v s i) s)) (drop (place_of v s i) s) →
        place_of v s (suc i) ≡ place_of v s i + extent v (drop (place_of v s i) s)
    behind i h b e =
        further i h
        ∙ rw e (ap (λ (n : ℕ). place_of v s i + n) (length-take-le (extent v (drop (place_of v s i) s)) (drop (place_of v s i) s) (whole_out v (drop (place_of v s i) s) b)))

    from : (i : ℕ) → i ≤ length (commands v s) → commands v (drop (place_of v s i) s) ≡ drop i (commands v s)
    unfolding place_of concat_map
    from zero h = refl
    from (suc i) h = go (open_at i (omega (arith, numbers v)) (from i (omega (arith, numbers v))))
      where
        go : Opened (drop (place_of v s i) s) (get_or (commands v s) i []) (drop (suc i) (commands v s)) → commands v (drop (place_of v s (suc i)) s) ≡ drop (suc i) (commands v s)
        go o =
            let place = behind i (omega (arith, numbers v)) o.begins o.first in
            ap (λ (n : ℕ). commands v (drop n s)) place
            ∙ ap (commands v) (sym (drop-drop (extent v (drop (place_of v s i) s)) (place_of v s i) s))
            ∙ sym o.rest

    pub at : (i : ℕ) → i < length (commands v s) → Opened (drop (place_of v s i) s) (get_or (commands v s) i []) (drop (suc i) (commands v s))
    at i h = open_at i h (from i (omega (arith, numbers v)))

    pub place : (i : ℕ) → i < length (commands v s) → place_of v s (suc i) ≡ place_of v s i + extent v (drop (place_of v s i) s)
    place i h = behind i h (at i h).begins (at i h).first

    pub sees : (i : ℕ) → i < length (commands v s) → part (place_of v s i) (place_of v s (suc i) - place_of v s i) s ≡ get_or (commands v s) i []
    unfolding part
    sees i h =
        let long : place_of v s (suc i) - place_of v s i ≡ extent v (drop (place_of v s i) s) = omega (arith, numbers v, place i h) in
        rw long (sym (at i h).first)

    pub arrives : place_of v s (length (commands v s)) ≡ end_of v s
    unfolding place_of
    arrives = rw take-length (sym (end_length v s))
