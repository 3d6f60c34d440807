-- The sentences of demand 3 of one request on cards, from what ties the cards to the events before. Assumes nothing.
use Prim.Native.Nat.{ℕ, ◌+◌, ◌<◌}
use native.Mathlib.Omega.{arith}
use mathlib.Core.Path.{◌≡◌, refl, sym, ap, subst, ◌∙◌}
use mathlib.Core.Logic.{◌↔◌, ◌⊎◌, inl, inr}
use mathlib.Core.List.{List, [], ◌∷◌}
use mathlib.Core.Bool.{Bool, true, false, not, ◌&&◌, or-false}
use borrow.Author.Tests.{eqb-true, le-ltb, ltb-true, ltb-false}
use lib.Dec.{ltb}
use lib.ListN.{length, take}
use Rattle.lists.specs.Search.{any}
use Rattle.lists.proofs.Parts.{splice_front}
use Rattle.lists.proofs.Tests.{to_T, from_T, cases}
use Rattle.stamps.specs.Stamp.{stale, stamp_t, most_ahead, stamp_too_far, too_far, mark_fits}
use Rattle.stamps.specs.declared.Pair.{Pair}
use Rattle.stamps.proofs.Stamp.{edge, reach_above, far_below}
use Rattle.commands.specs.Command.{Language, original, translation, writes_translation, reads, writes, verifier, update}
use Rattle.commands.specs.Bytes.{fields_of}
use Rattle.guard.specs.Judge.{behind, raise}
use Rattle.guard.specs.Replies.{read_length, replied}
use Rattle.lists.specs.Table.{Row, applies}
use Rattle.commands.specs.declared.Command.{Command}
use Rattle.commands.proofs.Languages.{reads_named, reads_act}
use Rattle.lists.proofs.Table.{given}
use Rattle.formats.specs.Format.{Format}
use Rattle.commands.proofs.Rules.{CommandRules}
use Rattle.image.specs.Image.{Card, Cards, translation_of, view, text}
use Rattle.store_model.specs.Serve.{card_of, entry_of, request_rows, text_read}
use Rattle.store_model.specs.Words.{Sent, Event, command_of, accepted, Proper, late, in_reach, out_of_reach, far_ahead, right_mark, outdated, last_text}
use Rattle.store_model.proofs.Formed.{formed_rules, no_payload}
use Rattle.store_model.proofs.Machine.{number_on, event_by, passed, above, Tied, Ties}

-- What is claimed of an event and the events before it.
pub record Told (n : ℕ) (e : Event) (before : List Event) : Type 0 where
  pub proper : e.answer.number ≡ 0 → Proper n e
  pub rules : Proper n e → CommandRules (command_of e)
  pub staleness : Proper n e → (e.answer.number ≡ 3) ↔ (late before (command_of e) ≡ true)
  pub aheadness : Proper n e → late before (command_of e) ≡ false → (e.answer.number ≡ 17) ↔ (far_ahead before (command_of e) ≡ true)
  pub behindness :
      (t : ℕ) → Proper n e → reads (translation t) (command_of e) ≡ true → late before (command_of e) ≡ false
      → far_ahead before (command_of e) ≡ false
      → right_mark before (command_of e) ≡ true
      → (e.answer.number ≡ 6) ↔ (outdated t before (command_of e).card ≡ true)
  pub showing :
      (l : Language) → e.answer.number ≡ 0 → reads l (command_of e) ≡ true
      → take e.answer.length e.reply ≡ last_text l before (command_of e).card
  pub showing_length :
      (l : Language) → e.answer.number ≡ 0 → reads l (command_of e) ≡ true
      → e.answer.length ≡ length (last_text l before (command_of e).card)

-- ---- reads

-- A read is no write.
read_only : (l : Language) (c : Command) → reads l c ≡ true → (writes original c ≡ false) × (writes_translation c ≡ false)
read_only original c e = let act = eqb-true c.act 1 e in (rw act, rw act)
read_only (translation t) c e = let act = eqb-true c.act 2 (reads_act c t e) in (rw act, rw act)

-- The text that is read, and its length, which the command leaves as it is.
copy_text_lem : (l : Language) (card : Card) (c : Command) → reads l c ≡ true → text_read card c ≡ text l card
copy_text_lem original card c e = rw e
copy_text_lem (translation t) card c e =
    let act = eqb-true c.act 2 (reads_act c t e) in
    subst (λ (j : ℕ). text_read card c ≡ text (translation j) card) (reads_named c t e) (rw act)

read_length_lem : (l : Language) (card : Card) (c : Command) → reads l c ≡ true → read_length (raise (view c.language card) c) c ≡ length (text l card)
unfolding raise
read_length_lem original card c h = let act = eqb-true c.act 1 h in rw act
read_length_lem (translation t) card c h =
    let act = eqb-true c.act 2 (reads_act c t h) in
    subst (λ (j : ℕ). read_length (raise (view c.language card) c) c ≡ length (text (translation j) card)) (reads_named c t h) (rw act)

-- ---- one request

-- Tests that agree on each element agree on a list.
any_same : (p q : Event → Bool) → ((e : Event) → p e ≡ q e) → (l : List Event) → any p l ≡ any q l
any_same p q h [] = refl
any_same p q h (e ∷ l) = rw (h e, any_same p q h l)

module _ (f : Format) (cs : Cards) (s : Sent) (before : List Event) (ties : Ties f cs before) where
  abbrev c : Command
  c = fields_of f s.command

  abbrev stored : Card
  stored = card_of f cs c

  abbrev rows : List Row
  rows = request_rows f cs s.command (length s.lent)

  abbrev event : Event
  event = event_by f (number_on f cs s) cs s

  -- The event's number is the table's.
  number_is : event.answer.number ≡ number_on f cs s
  unfolding replied
  number_is = refl

  tied : Proper (length cs.cards) event → Tied f before c.card stored
  tied p = ties c.card (ltb-true c.card (length cs.cards) p.exists)

  late_is : Proper (length cs.cards) event → stale c.mode stored.pair (verifier c) ≡ late before c
  late_is p = rw ((tied p).x (verifier c).x, (tied p).s (verifier c).s)

  is_proper : number_on f cs s ≡ 0 → Proper (length cs.cards) event
  is_proper e = record { well_formed = (passed f cs s e).well_formed; exists = (passed f cs s e).exists }

  stale_when : Proper (length cs.cards) event → (number_on f cs s ≡ 3) ↔ (late before c ≡ true)
  stale_when p = (
    λ e. sym (late_is p) ∙ from_T (applies 3 rows) ((given rows tt 2).0 e).0,
    λ h. (given rows tt 2).1 (to_T (late_is p ∙ h), rw (p.well_formed, p.exists) tt),
  )

  -- On one side: too far ahead of the stored stamp exactly when out of reach of all that was accepted before.
  far_side : (side : Pair → ℕ) → ((n : ℕ) → ltb n (side stored.pair) ≡ any (above side c.card n) before)
      → stamp_too_far (side stored.pair) (side (update c)) ≡ out_of_reach side before c
  far_side side tie = go (cases (ltb most_ahead (stamp_t (side (update c)))))
    where
      go : (ltb most_ahead (stamp_t (side (update c))) ≡ true) ⊎ (ltb most_ahead (stamp_t (side (update c))) ≡ false)
          → stamp_too_far (side stored.pair) (side (update c)) ≡ out_of_reach side before c
      go (inl e) =
          let h : most_ahead < stamp_t (side (update c)) = ltb-true most_ahead (stamp_t (side (update c))) e in
          let same : any (in_reach side c) before ≡ any (above side c.card (edge (side (update c)) h)) before =
          any_same (in_reach side c) (above side c.card (edge (side (update c)) h))
          (λ (d : Event). ap (λ (b : Bool). accepted c.card d && b) (reach_above (side (update c)) h (side (update (command_of d))))) before in
          far_below (side (update c)) h (side stored.pair) ∙ ap not (tie (edge (side (update c)) h) ∙ sym same) ∙ rw e
      go (inr e) =
          le-ltb (stamp_t (side stored.pair) + most_ahead) (stamp_t (side (update c))) (omega (arith, ltb-false most_ahead (stamp_t (side (update c))) e))
          ∙ rw e

  far_is : Proper (length cs.cards) event → too_far stored.pair (update c) ≡ far_ahead before c
  far_is p = rw (far_side (λ (q : Pair). q.s) (tied p).s, far_side (λ (q : Pair). q.x) (tied p).x)

  far_when : Proper (length cs.cards) event → late before c ≡ false → (number_on f cs s ≡ 17) ↔ (far_ahead before c ≡ true)
  far_when p h = (
    λ e. sym (far_is p) ∙ from_T (applies 17 rows) ((given rows tt 16).0 e).0,
    λ g. (given rows tt 16).1 (to_T (far_is p ∙ g), rw (p.well_formed, p.exists, late_is p ∙ h) tt),
  )

  behind_when : (t : ℕ) → Proper (length cs.cards) event → reads (translation t) c ≡ true → late before c ≡ false → far_ahead before c ≡ false
      → right_mark before c ≡ true
      → (number_on f cs s ≡ 6) ↔ (outdated t before c.card ≡ true)
  behind_when t p r h g m = (
    λ e. sym row_is ∙ from_T (applies 6 rows) ((given rows tt 5).0 e).0,
    λ o. (given rows tt 5).1 (to_T (row_is ∙ o), rw (p.well_formed, p.exists, late_is p ∙ h, far_is p ∙ g, mark_fits_lem, fits) tt),
  )
    where
      no_write : (writes original c ≡ false) × (writes_translation c ≡ false)
      no_write = read_only (translation t) c r

      row_is : applies 6 rows ≡ outdated t before c.card
      row_is =
          subst (λ (j : ℕ). applies 6 rows ≡ outdated j before c.card) (reads_named c t r)
          (rw (reads_act c t r, no_write.1, or-false (behind stored.edition (translation_of c.language stored).from)) ((tied p).behindness c.language))

      mark_fits_lem : mark_fits stored.mark c.expected ≡ true
      mark_fits_lem = rw (tied p).mark m

      fits : ltb cs.room c.length ≡ false
      fits =
          let none = no_payload c (formed_rules f s.command p.well_formed) (rw (no_write.0, no_write.1)) in
          le-ltb cs.room c.length (omega arith)

  -- An accepted read.
  at_zero : (event_by f 0 cs s).answer.length ≡ read_length (raise (entry_of f cs c) c) c
  unfolding replied
  at_zero = refl

  shown_length_lem : (l : Language) → number_on f cs s ≡ 0 → reads l c ≡ true → event.answer.length ≡ length (text l stored)
  shown_length_lem l e r =
      subst (λ (n : ℕ). (event_by f n cs s).answer.length ≡ length (text l stored)) (sym e)
      (at_zero ∙ read_length_lem l stored c r)

  shown_text : (l : Language) → number_on f cs s ≡ 0 → reads l c ≡ true → take (length (text l stored)) event.reply ≡ text l stored
  shown_text l e r =
      subst (λ (n : ℕ). take (length (text l stored)) (event_by f n cs s).reply ≡ text l stored) (sym e)
      (rw (copy_text_lem l stored c r) (splice_front (text l stored) s.lent))

  pub told : Told (length cs.cards) event before
  told =
      record {
        proper = λ e. is_proper (sym number_is ∙ e);
        rules = λ p. formed_rules f s.command p.well_formed;
        staleness = subst (λ (n : ℕ). Proper (length cs.cards) event → (n ≡ 3) ↔ (late before c ≡ true)) (sym number_is) stale_when;
        aheadness = λ p h. subst (λ (n : ℕ). (n ≡ 17) ↔ (far_ahead before c ≡ true)) (sym number_is) (far_when p h);
        behindness = λ t p r h g m. subst (λ (n : ℕ). (n ≡ 6) ↔ (outdated t before c.card ≡ true)) (sym number_is) (behind_when t p r h g m);
        showing = λ l e r.
            let zero_is = sym number_is ∙ e in
            ap (λ (n : ℕ). take n event.reply) (shown_length_lem l zero_is r) ∙ shown_text l zero_is r ∙ (tied (is_proper zero_is)).texts l;
        showing_length = λ l e r.
            let zero_is = sym number_is ∙ e in
            shown_length_lem l zero_is r ∙ ap length ((tied (is_proper zero_is)).texts l);
      }
