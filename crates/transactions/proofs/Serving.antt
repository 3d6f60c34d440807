-- One request on cards by the rules: what an accepted one makes of its card, and what its answer shows. Assumes
-- nothing.
use Prim.Native.Nat.{ℕ, zero, suc, ◌≤◌, ◌<◌, max}
use native.Mathlib.Omega.{arith}
use mathlib.Core.Path.{◌≡◌, refl, sym, ap, ◌∙◌, subst}
use mathlib.Core.Logic.{◌⊎◌, inl, inr}
use mathlib.Core.List.{List}
use mathlib.Core.Bool.{Bool, true, false, cond, not, ◌&&◌, ◌||◌}
use borrow.Author.Tests.{eqb-true, eqb-false, ltb-true, ltb-false, not-true}
use lib.ListN.{length, get_or, take, get_or-eq_default}
use lib.Seq.{get_or-set_same, get_or-set_other}
use lib.Dec.{eqb, ltb, T}
use Rattle.formats.specs.Format.{V1}
use Rattle.lists.specs.Table.{Row, applies}
use Rattle.lists.proofs.Table.{given}
use Rattle.lists.proofs.Tests.{never_both, and_left, or_cases, or_fails, from_T}
use Rattle.lists.proofs.Parts.{splice_front}
use Rattle.stamps.specs.Stamp.{exclusive, no_pair, no_mark}
use Rattle.commands.specs.declared.Command.{Command}
use Rattle.commands.specs.Command.{Language, original, translation, reads, writes, verifier, update}
use Rattle.commands.specs.Bytes.{payload, formed}
use Rattle.commands.proofs.Languages.{reads_named, reads_act}
use Rattle.commands.proofs.CommandBytes.{language_within}
use Rattle.guard.specs.Judge.{raise}
use Rattle.guard.specs.Replies.{blank_reply, read_length, replied}
use Rattle.guard.specs.declared.Answer.{Answer}
use Rattle.image.specs.Image.{Card, Cards, GoodCards, view, text, no_card, encode}
use Rattle.store_model.specs.Serve.{serve, stepped, text_read, request_rows, answer_by, reply_by}
use Rattle.store_model.specs.Words.{Sent, Event}
use Rattle.store_model.proofs.Machine.{number_on, cards_by, Passed, passed}
use Rattle.store_model.proofs.Simulation.{same_event}
use Rattle.store_model.proofs.Stepped.{text_step}
use Rattle.redo_recovery_model.proofs.Texts.{counted}
use Rattle.transactions.specs.System.{command_in}

abbrev pub at : Cards → ℕ → Card
at cs k = get_or cs.cards k (no_card V1)

-- The cards after a request, whatever its number.
abbrev pub then : Cards → Sent → Cards
then cs s = cards_by V1 (number_on V1 cs s) cs s

-- What is known of an accepted request, and of the cards after it.
pub record Taken (cs : Cards) (s : Sent) : Type 0 where
  pub well_formed : formed V1 s.command ≡ true
  pub fits : (command_in s).expected.desk ≡ (at cs (command_in s).card).mark.desk
  pub fresh : (at cs (command_in s).card).pair.x ≤ (verifier (command_in s)).x
  pub others : (k : ℕ) → eqb (command_in s).card k ≡ false → at (then cs s) k ≡ at cs k
  pub mark : (at (then cs s) (command_in s).card).mark ≡ (command_in s).next
  pub x : (at (then cs s) (command_in s).card).pair.x ≡ max (at cs (command_in s).card).pair.x (update (command_in s)).x
  pub text_is : (l : Language) → text l (at (then cs s) (command_in s).card) ≡ cond (writes l (command_in s)) (payload V1 s.command) (text l (at cs (command_in s).card))

module _ (cs : Cards) (s : Sent) (gc : GoodCards V1 cs) where
  abbrev c : Command
  c = command_in s

  abbrev stored : Card
  stored = at cs c.card

  abbrev now : Card
  now = stepped stored c (payload V1 s.command)

  module _ (z : number_on V1 cs s ≡ 0) where
    abbrev known : Passed V1 cs s
    known = passed V1 cs s z

    there : c.card < length cs.cards
    there = ltb-true c.card (length cs.cards) known.exists

    pub stepped_here : at (then cs s) c.card ≡ now
    stepped_here =
        ap (λ (n : ℕ). at (cards_by V1 n cs s) c.card) z
        ∙ get_or-set_same cs.cards c.card now (no_card V1) there

    elsewhere : (k : ℕ) → eqb c.card k ≡ false → at (then cs s) k ≡ at cs k
    elsewhere k e =
        ap (λ (n : ℕ). at (cards_by V1 n cs s) k) z
        ∙ get_or-set_other cs.cards c.card k now (no_card V1) (λ q. eqb-false c.card k e (sym q))

    now_mark : now.mark ≡ c.next
    unfolding stepped raise
    now_mark = refl

    now_x : now.pair.x ≡ max stored.pair.x (update c).x
    unfolding stepped raise
    now_x = refl

    has : c.language < length stored.translated
    has = subst (λ (n : ℕ). c.language < n) (sym (counted cs gc c.card)) (language_within V1 s.command known.well_formed)

    pub taken : Taken cs s
    taken =
        record {
          well_formed = known.well_formed;
          fits = eqb-true c.expected.desk stored.mark.desk (and_left (eqb c.expected.desk stored.mark.desk) _ known.judged.mark);
          fresh = ltb-false (verifier c).x stored.pair.x
              (or_fails (ltb (verifier c).x stored.pair.x) (eqb c.mode exclusive && ltb (verifier c).s stored.pair.s) known.judged.fresh).0;
          others = elsewhere;
          mark = ap (λ (k : Card). k.mark) stepped_here ∙ now_mark;
          x = ap (λ (k : Card). k.pair.x) stepped_here ∙ now_x;
          text_is = λ l. ap (text l) stepped_here ∙ text_step stored c (payload V1 s.command) has l;
        }

  pub kept : (n : ℕ) → number_on V1 cs s ≡ suc n → then cs s ≡ cs
  kept n e = ap (λ (m : ℕ). cards_by V1 m cs s) e

  -- ---- the answer

  pub answer_is : (serve V1 (encode V1 cs) s.command s.lent).answer ≡ answer_by V1 (number_on V1 cs s) cs s.command
  answer_is = ap (λ (e : Event). e.answer) (same_event V1 cs s gc)

  pub reply_is : (serve V1 (encode V1 cs) s.command s.lent).reply ≡ reply_by V1 (number_on V1 cs s) cs s.command s.lent
  reply_is = ap (λ (e : Event). e.reply) (same_event V1 cs s gc)

  pub number_is : (serve V1 (encode V1 cs) s.command s.lent).answer.number ≡ number_on V1 cs s
  unfolding replied
  number_is = ap (λ (a : Answer). a.number) answer_is

  raised_x : (answer_by V1 0 cs s.command).pair.x ≤ max stored.pair.x (update c).x
  unfolding replied raise
  raised_x = omega arith

  raised_mark : (answer_by V1 0 cs s.command).mark ≡ c.next
  unfolding replied raise
  raised_mark = refl

  picked_x : (b : Bool) → (cond b no_pair stored.pair).x ≤ stored.pair.x
  picked_x true = omega arith
  picked_x false = omega arith

  stays_x : (n : ℕ) → (answer_by V1 (suc n) cs s.command).pair.x ≤ stored.pair.x
  unfolding replied
  stays_x n = picked_x (blank_reply (suc n))

  stays_mark : (n : ℕ) → cond (blank_reply (suc n)) no_mark stored.mark ≡ stored.mark → (answer_by V1 (suc n) cs s.command).mark ≡ stored.mark
  unfolding replied
  stays_mark n e = e

  -- No answer shows a larger x than is stored then.
  pub shown_x : (serve V1 (encode V1 cs) s.command s.lent).answer.pair.x ≤ (at (then cs s) c.card).pair.x
  shown_x = subst (λ (a : Answer). a.pair.x ≤ (at (then cs s) c.card).pair.x) (sym answer_is) (go (number_on V1 cs s) refl)
    where
      go : (n : ℕ) → number_on V1 cs s ≡ n → (answer_by V1 n cs s.command).pair.x ≤ (at (then cs s) c.card).pair.x
      go zero e = subst (λ (m : ℕ). (answer_by V1 0 cs s.command).pair.x ≤ m) (sym (taken e).x) raised_x
      go (suc n) e = subst (λ (m : Cards). (answer_by V1 (suc n) cs s.command).pair.x ≤ (at m c.card).pair.x) (sym (kept n e)) (stays_x n)

  -- The answer to a well-formed command shows the mark that is stored then.
  pub shown_mark : formed V1 s.command ≡ true → (serve V1 (encode V1 cs) s.command s.lent).answer.mark ≡ (at (then cs s) c.card).mark
  shown_mark f = ap (λ (a : Answer). a.mark) answer_is ∙ go (number_on V1 cs s) refl
    where
      rows : List Row
      rows = request_rows V1 cs s.command (length s.lent)

      go : (n : ℕ) → number_on V1 cs s ≡ n → (answer_by V1 n cs s.command).mark ≡ (at (then cs s) c.card).mark
      go zero e = raised_mark ∙ sym (taken e).mark
      go (suc n) e = stays_mark n (pick (blank_reply (suc n)) refl) ∙ sym (ap (λ (m : Cards). (at m c.card).mark) (kept n e))
        where
          row : (m : ℕ) → eqb (suc n) (suc m) ≡ true → T (applies (suc m) rows)
          row m q = ((given rows tt m).0 (e ∙ eqb-true (suc n) (suc m) q)).0

          no_card_lem : T (not (ltb c.card (length cs.cards))) → no_mark ≡ stored.mark
          no_card_lem t =
              let away = ltb-false c.card (length cs.cards) (not-true (ltb c.card (length cs.cards)) (from_T (not (ltb c.card (length cs.cards))) t)) in
              sym (ap (λ (k : Card). k.mark) (get_or-eq_default cs.cards (no_card V1) {n = c.card} away))

          last : ((eqb (suc n) 9 || eqb (suc n) 1) ≡ true) ⊎ (eqb (suc n) 2 ≡ true) → no_mark ≡ stored.mark
          last (inr q) = no_card_lem (row 1 q)
          last (inl q) = two (or_cases (eqb (suc n) 9) (eqb (suc n) 1) q)
            where
              two : (eqb (suc n) 9 ≡ true) ⊎ (eqb (suc n) 1 ≡ true) → no_mark ≡ stored.mark
              two (inl p) = absurd (row 8 p)
              two (inr p) = absurd (never_both f (not-true (formed V1 s.command) (from_T (not (formed V1 s.command)) (row 0 p))))

          pick : (b : Bool) → blank_reply (suc n) ≡ b → cond b no_mark stored.mark ≡ stored.mark
          pick false q = refl
          pick true q = last (or_cases (eqb (suc n) 9 || eqb (suc n) 1) (eqb (suc n) 2) q)

  -- ---- an accepted read

  copied : (l : Language) → reads l c ≡ true → text_read stored c ≡ text l stored
  copied original e = rw e
  copied (translation t) e =
      let act = eqb-true c.act 2 (reads_act c t e) in
      subst (λ (j : ℕ). text_read stored c ≡ text (translation j) stored) (reads_named c t e) (rw act)

  long : (l : Language) → reads l c ≡ true → read_length (raise (view c.language stored) c) c ≡ length (text l stored)
  unfolding raise
  long original h = let act = eqb-true c.act 1 h in rw act
  long (translation t) h =
      let act = eqb-true c.act 2 (reads_act c t h) in
      subst (λ (j : ℕ). read_length (raise (view c.language stored) c) c ≡ length (text (translation j) stored)) (reads_named c t h) (rw act)

  at_zero : (answer_by V1 0 cs s.command).length ≡ read_length (raise (view c.language stored) c) c
  unfolding replied
  at_zero = refl

  pub shown_text : (l : Language) → number_on V1 cs s ≡ 0 → reads l c ≡ true
      → take (serve V1 (encode V1 cs) s.command s.lent).answer.length (serve V1 (encode V1 cs) s.command s.lent).reply ≡ text l stored
  shown_text l z r =
      let size : (serve V1 (encode V1 cs) s.command s.lent).answer.length ≡ length (text l stored) =
      ap (λ (a : Answer). a.length) answer_is ∙ ap (λ (n : ℕ). (answer_by V1 n cs s.command).length) z ∙ at_zero ∙ long l r in
      let buffer : (serve V1 (encode V1 cs) s.command s.lent).reply ≡ reply_by V1 0 cs s.command s.lent =
      reply_is ∙ ap (λ (n : ℕ). reply_by V1 n cs s.command s.lent) z in
      rw (size, buffer, copied l r) (splice_front (text l stored) s.lent)
