-- What the words of demand 3 say of the last accepted commands, and what each word means. Assumes nothing.
use Prim.Native.Nat.{ℕ}
use mathlib.Core.Path.{◌≡◌, refl, sym, ap, ◌∙◌}
use mathlib.Core.Logic.{◌↔◌, ◌⊎◌, inl, inr}
use mathlib.Core.List.{List, [], ◌∷◌, ◌++◌}
use mathlib.Core.Bool.{Bool, true, false, ◌||◌, and-false}
use borrow.Author.Tests.{not-true}
use Rattle.lists.proofs.Tests.{never_both, cases, and_right, or_fails, not_in}
use Rattle.lists.specs.Search.{any, none, since}
use Rattle.stamps.specs.Stamp.{no_mark, mark_fits}
use Rattle.stamps.specs.declared.Mark.{Mark}
use Rattle.commands.specs.Command.{Language, original, translation, writes, update, Session}
use Rattle.commands.proofs.Languages.{no_original}
use Rattle.commands.specs.declared.Command.{Command}
use Rattle.store_model.specs.Words.{Event, command_of, accepted, wrote, right_mark, outdated, last_text, OneSession}
use Rattle.store_model.specs.Meaning.{Nearest, Overwritten, Passes, WordsMean}
use Rattle.store_model.proofs.Meaning.{nearest, none_means, last_none, last_means, late_means, far_means, carries_means, premise_means, intrudes_means}

-- ---- translations behind

module _ {A : Type 0} (p : A → Bool) where
  -- Where one of the front elements is so, what stands since then stands in front.
  since_front : (s l : List A) → any p s ≡ true → since p (s ++ l) ≡ since p s
  since_front [] l e = absurd (never_both e refl)
  since_front (a ∷ s) l e = go (cases (p a)) (since_front s l)
    where
      go : (p a ≡ true) ⊎ (p a ≡ false) → (any p s ≡ true → since p (s ++ l) ≡ since p s) → since p (a ∷ (s ++ l)) ≡ since p (a ∷ s)
      go (inl h) rest = rw h
      go (inr h) rest = rw h (ap (λ (r : List A). a ∷ r) (rest (sym (ap (λ (b : Bool). b || any p s) h) ∙ e)))

  -- Where none is, all of the front stands since then, and what the rest has.
  since_past : (s l : List A) → none p s ≡ true → since p (s ++ l) ≡ s ++ since p l
  since_past [] l e = refl
  since_past (a ∷ s) l e =
      let both = or_fails (p a) (any p s) (not-true (p a || any p s) e) in
      rw both.0 (ap (λ (r : List A). a ∷ r) (since_past s l (not_in both.1)))

  -- What stands since then is part of the list.
  since_within : (q : A → Bool) (l : List A) → none q l ≡ true → none q (since p l) ≡ true
  since_within q [] e = refl
  since_within q (a ∷ l) e = go (cases (p a)) (or_fails (q a) (any q l) (not-true (q a || any q l) e)) (since_within q l)
    where
      go : (p a ≡ true) ⊎ (p a ≡ false) → (q a ≡ false) × (any q l ≡ false) → (none q l ≡ true → none q (since p l) ≡ true)
          → none q (since p (a ∷ l)) ≡ true
      go (inl h) both rest = rw h
      go (inr h) both rest = rw (h, both.0) (rest (not_in both.1))

module _ (t : ℕ) (before : List Event) (k : ℕ) where
  abbrev translated : Event → Bool
  translated = wrote (translation t) k

  abbrev edited : Event → Bool
  edited = wrote original k

  pub outdated_means : (outdated t before k ≡ true) ↔ ((none translated before ≡ true) ⊎ Overwritten t before k)
  outdated_means = (λ h. out h (cases (any translated before)), back)
    where
      -- A translation was accepted, and no original since.
      current : (e : Event) (m : Nearest translated e before) → none edited m.among.front ≡ true → outdated t before k ≡ true → ⊥
      current e m alone h =
          let own : edited e ≡ false =
          rw (no_original (command_of e) t (and_right (accepted k e) (writes (translation t) (command_of e)) m.holds)) (and-false (accepted k e)) in
          let stands : since edited before ≡ m.among.front ++ (e ∷ since edited m.among.back) =
          ap (since edited) m.among.split
          ∙ since_past edited m.among.front (e ∷ m.among.back) alone
          ∙ ap (λ (r : List Event). m.among.front ++ r) (rw own) in
          let none-there : translated e ≡ false =
          (none_means translated (since edited before)).0 h e (record { front = m.among.front; back = since edited m.among.back; split = stands }) in
          never_both m.holds none-there

      out : outdated t before k ≡ true → (any translated before ≡ true) ⊎ (any translated before ≡ false)
          → (none translated before ≡ true) ⊎ Overwritten t before k
      out h (inr e) = inl (not_in e)
      out h (inl e) = go (cases (any edited found.1.among.front))
        where
          found : (e : Event) × Nearest translated e before
          found = nearest translated before e

          go : (any edited found.1.among.front ≡ true) ⊎ (any edited found.1.among.front ≡ false)
              → (none translated before ≡ true) ⊎ Overwritten t before k
          go (inl o) = inr (record { last = found.0; nearest = found.1; since = o })
          go (inr o) = absurd (current found.0 found.1 (not_in o) h)

      back : (none translated before ≡ true) ⊎ Overwritten t before k → outdated t before k ≡ true
      back (inl e) = since_within edited translated before e
      back (inr o) =
          ap (λ (l : List Event). none translated (since edited l)) o.nearest.among.split
          ∙ ap (none translated) (since_front edited o.nearest.among.front (o.last ∷ o.nearest.among.back) o.since)
          ∙ since_within edited translated o.nearest.among.front o.nearest.alone

-- ---- the last accepted command, and the last accepted text

module _ (before : List Event) (c : Command) where
  pub right_means : (right_mark before c ≡ true)
      ↔ (((none (accepted c.card) before ≡ true) × (mark_fits no_mark c.expected ≡ true)) ⊎ Passes before c)
  right_means = (λ h. out h (cases (any (accepted c.card) before)), back)
    where
      fits : Mark → Bool
      fits m = mark_fits m c.expected

      out : right_mark before c ≡ true → (any (accepted c.card) before ≡ true) ⊎ (any (accepted c.card) before ≡ false)
          → ((none (accepted c.card) before ≡ true) × (mark_fits no_mark c.expected ≡ true)) ⊎ Passes before c
      out h (inr e) = inl (not_in e, sym (ap fits (last_none (accepted c.card) (λ e. (command_of e).next) no_mark before (not_in e))) ∙ h)
      out h (inl e) =
          let found = nearest (accepted c.card) before e in
          inr
          (record {
            last = found.0;
            nearest = found.1;
            passes = sym (ap fits (last_means (accepted c.card) (λ e. (command_of e).next) no_mark before found.1)) ∙ h;
          })

      back : ((none (accepted c.card) before ≡ true) × (mark_fits no_mark c.expected ≡ true)) ⊎ Passes before c → right_mark before c ≡ true
      back (inl h) = ap fits (last_none (accepted c.card) (λ e. (command_of e).next) no_mark before h.0) ∙ h.1
      back (inr p) = ap fits (last_means (accepted c.card) (λ e. (command_of e).next) no_mark before p.nearest) ∙ p.passes

module _ (l : Language) (before : List Event) (k : ℕ) where
  pub text_none : none (wrote l k) before ≡ true → last_text l before k ≡ []
  text_none h = last_none (wrote l k) (λ e. e.read.payload) [] before h

  pub text_last : (e : Event) → Nearest (wrote l k) e before → last_text l before k ≡ e.read.payload
  text_last e m = last_means (wrote l k) (λ e. e.read.payload) [] before m

-- ---- sessions

pub session_means : (a b : Event) →
    OneSession a b
    ↔ (((command_of a).card ≡ (command_of b).card) × ((command_of a).mode ≡ (command_of b).mode) × (update (command_of a) ≡ update (command_of b)))
session_means a b = (
  λ h. (ap (λ (s : Session). s.card) h, ap (λ (s : Session). s.mode) h, ap (λ (s : Session). s.pair) h),
  λ h. rw (h.0, h.1, h.2),
)

pub words_mean : WordsMean
words_mean =
    record {
      lateness = late_means;
      distance = far_means;
      mark = right_means;
      age = outdated_means;
      unwritten = text_none;
      written = text_last;
      carrying = carries_means;
      order = premise_means;
      session = session_means;
      intruding = intrudes_means;
    }
