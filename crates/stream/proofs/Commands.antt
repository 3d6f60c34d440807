-- The commands of a stream and its end. Assumes nothing.
use Prim.Native.Nat.{ℕ, zero, suc, ◌+◌, ◌-◌, ◌≤◌, ◌<◌, zero-le}
use native.Mathlib.Omega.{arith}
use native.Mathlib.Nat.{zero-add}
use mathlib.Core.Path.{◌≡◌, refl, sym, ap, ◌∙◌}
use mathlib.Core.List.{List, [], ◌∷◌}
use mathlib.Core.Bool.{Bool, true, false, cond}
use lib.ListN.{length, take, drop, length-drop, length-append}
use lib.Seq.{length-take-le, drop-drop}
use Rattle.std.specs.Prelude.{Some, None}
use Rattle.formats.proofs.Numbers.{numbers}
use Rattle.formats.specs.Format.{Format}
use Rattle.lists.specs.Parts.{concat_map}
use Rattle.commands.specs.Bytes.{extent}
use Rattle.stream.specs.Stream.{whole, next_at, commands_within, commands, end_within, end_of, end_to_end}
use Rattle.stream.proofs.Place.{extent_fixed, whole_out, cut_short, says_whole, says_cut}

-- As many bytes as the first command has, and those of the others.
pub paid_in : {cs ds : List (List ℕ)} {c : List ℕ} → cs ≡ c ∷ ds → length (end_to_end cs) ≡ length c + length (end_to_end ds)
unfolding concat_map
paid_in {c = c} e = rw (e, length-append)

module _ (v : Format) where
  -- ---- one step, with as many steps left as one likes

  -- Enough steps are as good as more.
  enough : (f g : ℕ) (s : List ℕ) → length s ≤ f → length s ≤ g → commands_within v f s ≡ commands_within v g s
  unfolding commands_within
  enough zero zero s h k = refl
  enough zero (suc g) s h k = sym (rw (cut_short v s (omega (arith, numbers v))))
  enough (suc f) zero s h k = rw (cut_short v s (omega (arith, numbers v)))
  enough (suc f) (suc g) s h k =
      go (whole v s)
      (enough f g (drop (extent v s) s) (simp length-drop (omega (arith, numbers v, extent_fixed v s))) (simp length-drop (omega (arith, numbers v, extent_fixed v s))))
    where
      go : (b : Bool) → commands_within v f (drop (extent v s) s) ≡ commands_within v g (drop (extent v s) s) →
          cond b (take (extent v s) s ∷ commands_within v f (drop (extent v s) s)) []
          ≡ cond b (take (extent v s) s ∷ commands_within v g (drop (extent v s) s)) []
      go false rest = refl
      go true rest = ap (λ (cs : List (List ℕ)). take (extent v s) s ∷ cs) rest

  pub commands_whole : (s : List ℕ) → whole v s ≡ true → commands v s ≡ take (extent v s) s ∷ commands v (drop (extent v s) s)
  unfolding commands_within commands
  commands_whole s e =
      enough (length s) (suc (length s)) s (omega (arith, numbers v)) (omega (arith, numbers v))
      ∙ rw
      e
      (ap (λ (cs : List (List ℕ)). take (extent v s) s ∷ cs)
      (enough (length s) (length (drop (extent v s) s)) (drop (extent v s) s) (simp length-drop (omega (arith, numbers v))) (omega (arith, numbers v))))

  pub commands_cut : (s : List ℕ) → whole v s ≡ false → commands v s ≡ []
  unfolding commands_within commands
  commands_cut s e = enough (length s) (suc (length s)) s (omega (arith, numbers v)) (omega (arith, numbers v)) ∙ rw e

  -- The end is where the commands end.
  end_within_lem : (f : ℕ) (s : List ℕ) → end_within v f s ≡ length (end_to_end (commands_within v f s))
  unfolding commands_within end_within concat_map
  end_within_lem zero s = refl
  end_within_lem (suc f) s = go (whole v s) refl (end_within_lem f (drop (extent v s) s))
    where
      go : (b : Bool) → whole v s ≡ b → end_within v f (drop (extent v s) s) ≡ length (end_to_end (commands_within v f (drop (extent v s) s))) →
          cond b (extent v s + end_within v f (drop (extent v s) s)) 0
          ≡ length (end_to_end (cond b (take (extent v s) s ∷ commands_within v f (drop (extent v s) s)) []))
      go false e rest = refl
      go true e rest = rw (length-append, length-take-le (extent v s) s (whole_out v s e), rest)

  pub end_length : (s : List ℕ) → end_of v s ≡ length (end_to_end (commands v s))
  unfolding commands end_of
  end_length s = end_within_lem (length s) s

  pub end_whole : (s : List ℕ) → whole v s ≡ true → end_of v s ≡ extent v s + end_of v (drop (extent v s) s)
  unfolding concat_map
  end_whole s e =
      end_length s
      ∙ rw
      (commands_whole s e, length-append, length-take-le (extent v s) s (whole_out v s e))
      (ap (λ (n : ℕ). extent v s + n) (sym (end_length (drop (extent v s) s))))

  pub end_cut : (s : List ℕ) → whole v s ≡ false → end_of v s ≡ 0
  unfolding concat_map
  end_cut s e = end_length s ∙ rw (commands_cut s e)

  -- What holds where no whole command begins, and before a whole command if it holds behind it, holds of every stream.
  pub along : (P : List ℕ → Type 0) → ((s : List ℕ) → whole v s ≡ false → P s) → ((s : List ℕ) → whole v s ≡ true → P (drop (extent v s) s) → P s) →
      (s : List ℕ) → P s
  along P stop more s = go (length s) s (omega (arith, numbers v))
    where
      by : (s : List ℕ) (b : Bool) → whole v s ≡ b → P (drop (extent v s) s) → P s
      by s false e rest = stop s e
      by s true e rest = more s e rest

      go : (f : ℕ) (s : List ℕ) → length s ≤ f → P s
      go zero s h = stop s (cut_short v s (omega (arith, numbers v)))
      go (suc f) s h = by s (whole v s) refl (go f (drop (extent v s) s) (simp length-drop (omega (arith, numbers v, extent_fixed v s))))

  -- ---- the walk

  -- A walk that has come to a place: it is within the stream, and from there on it is as far to the end as it says.
  pub record Walked (s : List ℕ) (at : ℕ) : Type 0 where
    pub within : at ≤ length s
    pub rest : at + end_of v (drop at s) ≡ end_of v s

  pub walked_none : (s : List ℕ) → Walked s 0
  walked_none s = record { within = zero-le; rest = zero-add (end_of v s) }

  module _ (s : List ℕ) (at : ℕ) where
    pub walked_more : (end : ℕ) → Walked s at → next_at v s at ≡ Some end → Walked s end × (length s - end < length s - at)
    walked_more end w e =
        let stands = says_whole v s at end e in
        let left : end_of v (drop at s) ≡ extent v (drop at s) + end_of v (drop end s) =
        end_whole (drop at s) stands.begins ∙ rw (drop-drop, ← stands.ends) in
        let fits : extent v (drop at s) ≤ length s - at = rw (← length-drop at s) (whole_out v (drop at s) stands.begins) in
        let some = extent_fixed v (drop at s) in
        (record { within = omega (arith, numbers v, stands.ends, w.within); rest = omega (arith, numbers v, stands.ends, w.rest) }, omega (arith, numbers v, stands.ends, w.within))

    pub walked_done : Walked s at → next_at v s at ≡ None → at ≡ end_of v s
    walked_done w e = let none = end_cut (drop at s) (says_cut v s at e) in omega (arith, numbers v, w.rest)
