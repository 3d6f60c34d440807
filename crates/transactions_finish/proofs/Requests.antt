-- One request at a moment of a run by the rules: the cards after it, and what its answer shows. Assumes nothing.
use Prim.Native.Nat.{ℕ, zero, suc}
use mathlib.Core.Path.{◌≡◌, refl, sym, ap, ◌∙◌, subst}
use mathlib.Core.List.{List, [], ◌∷◌}
use mathlib.Core.Bool.{Bool, true, false, not}
use lib.ListN.{length}
use lib.Dec.{eqb, ltb}
use Rattle.formats.specs.Format.{V1}
use Rattle.lists.specs.Table.{first, row}
use Rattle.stamps.specs.Stamp.{stale, too_far, mark_fits}
use Rattle.commands.specs.declared.Command.{Command}
use Rattle.commands.specs.Command.{verifier, update}
use Rattle.commands.specs.Bytes.{formed, payload}
use Rattle.guard.specs.declared.Answer.{Answer}
use Rattle.guard.specs.declared.Entry.{Entry}
use Rattle.guard.specs.Judge.{wrong_edition, editions_spent, reply_short}
use Rattle.guard.specs.Replies.{blank_reply, replied}
use Rattle.image.specs.Image.{Card, Cards, GoodCards, encode, decode}
use Rattle.image_claims.proofs.Claims.{good_encodes}
use Rattle.store_model.specs.Serve.{Outcome, serve, stepped, answer_by, entry_of}
use Rattle.store_model.specs.Words.{Sent}
use Rattle.store_model.specs.Claims.{SentBytes}
use Rattle.store_model.proofs.Machine.{number_on, cards_by, count_kept}
use Rattle.store_model.proofs.Simulation.{good_more, same_image}
use Rattle.transactions.specs.System.{OneDesk, command_in, outcome}
use Rattle.transactions.proofs.Serving.{at, then, taken, kept, stepped_here, answer_is, number_is, shown_mark}
use Rattle.transactions.proofs.Kept.{Kept, decoded}
use Rattle.transaction_steps.specs.Steps.{shows_none}

-- A request for a card that is there, well formed, is answered with an entry.
pub shows_entry : (cs : Cards) (s : Sent) → formed V1 s.command ≡ true → ltb (command_in s).card (length cs.cards) ≡ true → shows_none (number_on V1 cs s) ≡ false
shows_entry cs s f g =
    rw (f, g)
    (go (stale c.mode e.pair (verifier c)) (too_far e.pair (update c)) (not (mark_fits e.mark c.expected)) (ltb cs.room c.length) (wrong_edition e c) (editions_spent e c)
    (reply_short e c (length s.lent)))
  where
    c : Command
    c = command_in s

    e : Entry
    e = entry_of V1 cs c

    go : (a b c e f g h : Bool) → shows_none (first (row a 3 ∷ row b 17 ∷ row c 4 ∷ row e 5 ∷ row f 6 ∷ row g 7 ∷ row h 8 ∷ [])) ≡ false
    go true b c e f g h = refl
    go false true c e f g h = refl
    go false false true e f g h = refl
    go false false false true f g h = refl
    go false false false false true g h = refl
    go false false false false false true h = refl
    go false false false false false false true = refl
    go false false false false false false false = refl

module _ (d : ℕ) (y : OneDesk) (k : Kept d y) where
  -- The cards that the image has.
  abbrev pub now : Cards
  now = decode V1 y.image

  pub good_cards : GoodCards V1 now
  good_cards = subst (GoodCards V1) (sym (decoded d y k)) k.good

  encoded : y.image ≡ encode V1 now
  encoded = k.image_is ∙ ap (encode V1) (sym (decoded d y k))

  module _ (s : Sent) where
    outcome_on : outcome y s ≡ serve V1 (encode V1 now) s.command s.lent
    outcome_on = ap (λ (i : List ℕ). serve V1 i s.command s.lent) encoded

    pub number_on_lem : (outcome y s).answer.number ≡ number_on V1 now s
    number_on_lem = ap (λ (o : Outcome). o.answer.number) outcome_on ∙ number_is now s good_cards

    pub cards_on : SentBytes s → decode V1 (outcome y s).image ≡ then now s
    cards_on b =
        ap (decode V1) (ap (λ (o : Outcome). o.image) outcome_on ∙ same_image V1 now s good_cards)
        ∙ (good_encodes V1 (then now s) (good_more V1 now s good_cards b (number_on V1 now s) refl)).same

    answer_on : (outcome y s).answer ≡ answer_by V1 (number_on V1 now s) now s.command
    answer_on = ap (λ (o : Outcome). o.answer) outcome_on ∙ answer_is now s good_cards

    accepted : (answer_by V1 0 now s.command).pair ≡ (stepped (at now (command_in s).card) (command_in s) (payload V1 s.command)).pair
    unfolding replied stepped
    accepted = refl

    refused : (n : ℕ) → blank_reply (suc n) ≡ false → (answer_by V1 (suc n) now s.command).pair ≡ (at now (command_in s).card).pair
    unfolding replied
    refused n b = rw b

    pub mark_on : formed V1 s.command ≡ true → (outcome y s).answer.mark ≡ (at (then now s) (command_in s).card).mark
    mark_on f = ap (λ (o : Outcome). o.answer.mark) outcome_on ∙ shown_mark now s good_cards f

    -- The pair that an answer with an entry shows is the one that is then stored.
    pub pair_on : shows_none (number_on V1 now s) ≡ false → (outcome y s).answer.pair ≡ (at (then now s) (command_in s).card).pair
    pair_on e = ap (λ (a : Answer). a.pair) answer_on ∙ go (number_on V1 now s) refl
      where
        go : (n : ℕ) → number_on V1 now s ≡ n → (answer_by V1 n now s.command).pair ≡ (at (then now s) (command_in s).card).pair
        go zero q = accepted ∙ sym (ap (λ (c : Card). c.pair) (stepped_here now s good_cards q))
        go (suc n) q =
            refused n (subst (λ (m : ℕ). shows_none m ≡ false) q e)
            ∙ sym (ap (λ (m : Cards). (at m (command_in s).card).pair) (kept now s good_cards n q))

-- ---- the cards after any request

module _ (cs : Cards) (gc : GoodCards V1 cs) (s : Sent) where
  pub others_then : (j : ℕ) → eqb (command_in s).card j ≡ false → at (then cs s) j ≡ at cs j
  others_then j e = go (number_on V1 cs s) refl
    where
      go : (n : ℕ) → number_on V1 cs s ≡ n → at (then cs s) j ≡ at cs j
      go zero q = (taken cs s gc q).others j e
      go (suc n) q = ap (λ (m : Cards). at m j) (kept cs s gc n q)

  pub count_then : length (then cs s).cards ≡ length cs.cards
  count_then = count_kept V1 (number_on V1 cs s) cs s

  pub room_then : (then cs s).room ≡ cs.room
  room_then = go (number_on V1 cs s)
    where
      go : (n : ℕ) → (cards_by V1 n cs s).room ≡ cs.room
      go zero = refl
      go (suc n) = refl
