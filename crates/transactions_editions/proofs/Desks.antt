-- A translation is current as it is meant to be, whichever of many desks has changed its card. Assumes nothing.
use Prim.Native.Nat.{ℕ, zero, suc}
use native.Mathlib.Omega.{arith}
use mathlib.Core.Path.{◌≡◌, refl, sym, ap, ◌∙◌, subst}
use mathlib.Core.Logic.{◌⊎◌, inl, inr}
use mathlib.Core.List.{List, [], ◌∷◌}
use mathlib.Core.Bool.{Bool, true, false, cond, not, ◌&&◌}
use borrow.Author.Tests.{eqb-true, eq-eqb, ne_eqb}
use lib.ListN.{length, get_or}
use lib.Dec.{eqb}
use Rattle.formats.specs.Format.{V1}
use Rattle.lists.proofs.Tests.{cases, never_both, and_left, and_right, or_right}
use Rattle.lists.specs.Runs.{foldl, every_along}
use Rattle.stamps.specs.declared.Mark.{Mark}
use Rattle.commands.specs.declared.Command.{Command}
use Rattle.commands.specs.Command.{is_write, writes_translation}
use Rattle.commands.specs.Bytes.{formed}
use Rattle.image.specs.Image.{Card, Cards, decode}
use Rattle.store_model.specs.Serve.{Outcome, serve}
use Rattle.store_model.specs.Words.{Sent}
use Rattle.store_model.specs.Claims.{SentBytes}
use Rattle.store_model.proofs.Machine.{number_on}
use Rattle.redo_log.specs.Log.{LogRecord, commit_kind, record_transaction, records}
use Rattle.redo_log.specs.Append.{append_number}
use Rattle.redo_recovery_model.specs.Recovery.{Pairs, FitsPairs, recovering}
use Rattle.transactions.specs.System.{Order, Shown, Step, other, order, arrive, append, crash, recover, renew, no_order, command_in, expects_mark, leaves_mark, lawful, after_step}
use Rattle.transactions.specs.Claims.{StepBytes}
use Rattle.transactions.specs.Desks.{
  Part,
  Desks,
  seen_by,
  part_of,
  desks_opening,
  DeskStep,
  outside,
  by_desk,
  own_step,
  lawful_desk_step,
  after_desk_step,
  after_desk_steps,
  lawful_desk_steps,
  DeskStepBytes,
  AllDeskSteps,
  DesksMoment,
}
use Rattle.transactions.proofs.Records.{All}
use Rattle.transactions.proofs.Serving.{at, then, Taken, taken, kept}
use Rattle.transactions.proofs.Kept.{bears, card_for, Kept}
use Rattle.transactions.proofs.Rewriting.{Raised, stays, rises}
use Rattle.transactions.proofs.Joint.{Joint, alone, kept_alone, number_then, decode_then, unruled, not_of, by_desk_lem, raised_here, none_of, ends, safe, joint_next, joint_opening, joint_always}
use Rattle.transactions_editions.specs.Editions.{current_in, current_by, current_with, current_after}
use Rattle.transactions_editions.specs.Desks.{desks_current_after, desks_current_along, desks_meant_current, DesksEditionsAtOnce, DesksTranslationsRead}
use Rattle.transactions_editions.proofs.Current.{cur, cur_then}
use Rattle.transactions_editions.proofs.Steps.{Done, Tells, Holds, Moved, still, up, sent_moved, told_moved, holds_other}
use Rattle.transactions_editions.proofs.Appends.{unborne_current}
use Rattle.transactions_editions.proofs.Claims.{holds_next, accepted, behind_then}

-- ---- what holds at every moment

record SideTurned (d : ℕ) (image : List ℕ) (p : Part) : Type 0 where
  sent : All (λ (o : Order). Done d (records p.log) (at (decode V1 image) (card_for o)) o) p.orders
  told : All (λ (v : Shown). Tells d (records p.log) (at (decode V1 image) v.card) v) p.shown

-- The translation of card k, by the log of the desk whose mark it bears.
record OnCard (ruled : ℕ → Bool) (logs : ℕ → List ℕ) (v : Bool) (k : ℕ) (card : Card) : Type 0 where
  plain : ruled card.mark.desk ≡ false → cur card ≡ v
  marked : ruled card.mark.desk ≡ true → current_by (records (logs card.mark.desk)) k (length (records (logs card.mark.desk))) (cur card) ≡ v

record JointTurned (ruled : ℕ → Bool) (y : Desks) (c : ℕ → Bool) : Type 0 where
  cards : (k : ℕ) → OnCard ruled (λ (e : ℕ). (y.part e).log) (c k) k (at (decode V1 y.image) k)
  side : (d : ℕ) → ruled d ≡ true → SideTurned d y.image (y.part d)

on_as : (ruled : ℕ → Bool) (logs new : ℕ → List ℕ) (v u : Bool) (k : ℕ) (card : Card) → ((e : ℕ) → logs e ≡ new e) → v ≡ u → OnCard ruled logs v k card → OnCard ruled new u k card
on_as ruled logs new v u k card e q w =
    record {
      plain = λ b. w.plain b ∙ q;
      marked = λ b. subst (λ (g : List ℕ). current_by (records g) k (length (records g)) (cur card) ≡ u) (e card.mark.desk) (w.marked b ∙ q);
    }

-- ---- one desk alone: what is meant of a card that does not bear its mark is what stands there

abbrev alone_current : ℕ → Desks → (ℕ → Bool) → ℕ → Bool
alone_current d y c k = cond (bears d (at (decode V1 y.image) k)) (c k) (cur (at (decode V1 y.image) k))

module _ (ruled : ℕ → Bool) (y : Desks) (j : Joint ruled y) (c : ℕ → Bool) (w : JointTurned ruled y c) (d : ℕ) (r : ruled d ≡ true) where
  abbrev cs : Cards
  cs = decode V1 y.image

  turned_alone : Holds d (alone d y) (alone_current d y c)
  turned_alone =
      record {
        plain = λ k b. sym (ap (λ (t : Bool). cond t (c k) (cur (at cs k))) b);
        marked = λ k b.
            let here : (at cs k).mark.desk ≡ d = eqb-true (at cs k).mark.desk d b in
            subst (λ (e : ℕ). current_by (records (y.part e).log) k (length (records (y.part e).log)) (cur (at cs k)) ≡ c k) here
            ((w.cards k).marked (subst (λ (e : ℕ). ruled e ≡ true) (sym here) r))
            ∙ sym (ap (λ (t : Bool). cond t (c k) (cur (at cs k))) b);
        sent = (w.side d r).sent;
        told = (w.side d r).told;
      }

  unborne : (n : ℕ) → n ≡ 0 → eqb n d ≡ false
  unborne n z = ne_eqb n d (λ f. never_both r (subst (λ (m : ℕ). ruled m ≡ false) (sym z ∙ f) j.nobody))

  -- Of a card with its mark, or none, the desk alone means what all mean.
  borne_value : (k : ℕ) → bears d (at cs k) ≡ true → alone_current d y c k ≡ c k
  borne_value k b = ap (λ (t : Bool). cond t (c k) (cur (at cs k))) b

  own_value : (k : ℕ) → ((at cs k).mark.desk ≡ 0) ⊎ ((at cs k).mark.desk ≡ d) → alone_current d y c k ≡ c k
  own_value k (inr z) = borne_value k (eq-eqb (at cs k).mark.desk d z)
  own_value k (inl z) =
      ap (λ (t : Bool). cond t (c k) (cur (at cs k))) (unborne (at cs k).mark.desk z)
      ∙ (w.cards k).plain (subst (λ (n : ℕ). ruled n ≡ false) (sym z) j.nobody)

  -- ---- after a step of the desk, card by card: the card is its own, or as it was

  module _ (image : List ℕ) (logs : ℕ → List ℕ) (v a : ℕ → Bool) (there : (e : ℕ) → eqb e d ≡ false → (y.part e).log ≡ logs e)
      (plainly : (k : ℕ) → bears d (at (decode V1 image) k) ≡ false → cur (at (decode V1 image) k) ≡ a k)
      (marking : (k : ℕ) → bears d (at (decode V1 image) k) ≡ true → current_by (records (logs d)) k (length (records (logs d))) (cur (at (decode V1 image) k)) ≡ a k) where
    on_own : (k : ℕ) → ((at (decode V1 image) k).mark.desk ≡ 0) ⊎ ((at (decode V1 image) k).mark.desk ≡ d) → a k ≡ v k → OnCard ruled logs (v k) k (at (decode V1 image) k)
    on_own k (inl z) e =
        record {
          plain = λ b. plainly k (unborne (at (decode V1 image) k).mark.desk z) ∙ e;
          marked = λ b. absurd (never_both b (subst (λ (n : ℕ). ruled n ≡ false) (sym z) j.nobody));
        }
    on_own k (inr z) e =
        record {
          plain = λ b. absurd (never_both r (subst (λ (n : ℕ). ruled n ≡ false) z b));
          marked = λ b.
              subst (λ (n : ℕ). current_by (records (logs n)) k (length (records (logs n))) (cur (at (decode V1 image) k)) ≡ v k) (sym z)
              (marking k (eq-eqb (at (decode V1 image) k).mark.desk d z) ∙ e);
        }

    on_away : (k : ℕ) → bears d (at cs k) ≡ false → v k ≡ c k → OnCard ruled logs (v k) k (at cs k)
    on_away k b e =
        record {
          plain = λ q. (w.cards k).plain q ∙ sym e;
          marked = λ q.
              subst (λ (g : List ℕ). current_by (records g) k (length (records g)) (cur (at cs k)) ≡ v k) (there (at cs k).mark.desk b) ((w.cards k).marked q ∙ sym e);
        }

    -- A card that is as it was.
    on_same : (k : ℕ) → at (decode V1 image) k ≡ at cs k → (bears d (at cs k) ≡ true → a k ≡ v k) → (bears d (at cs k) ≡ false → v k ≡ c k) → OnCard ruled logs (v k) k (at (decode V1 image) k)
    on_same k e f g = go (cases (bears d (at cs k)))
      where
        go : (bears d (at cs k) ≡ true) ⊎ (bears d (at cs k) ≡ false) → OnCard ruled logs (v k) k (at (decode V1 image) k)
        go (inl b) = on_own k (inr (ap (λ (card : Card). card.mark.desk) e ∙ eqb-true (at cs k).mark.desk d b)) (f b)
        go (inr b) = subst (OnCard ruled logs (v k) k) (sym e) (on_away k b (g b))

  abbrev mine : Kept d (alone d y)
  mine = kept_alone ruled y j d r

  abbrev new : Part → (ℕ → Part) → ℕ → List ℕ
  new p f e = (cond (eqb e d) p (f e)).log

  new_there : (p : Part) (f : ℕ → Part) (e : ℕ) → eqb e d ≡ false → (f e).log ≡ new p f e
  new_there p f e x = sym (ap (λ (t : Bool). (cond t p (f e)).log) x)

  new_here : (p : Part) (f : ℕ → Part) → new p f d ≡ p.log
  new_here p f = ap (λ (t : Bool). (cond t p (f d)).log) (eq-eqb d d refl)

  -- By the log that the desk's own step leaves.
  by_log : (p : Part) (f : ℕ → Part) (image : List ℕ) (a : ℕ → Bool) (k : ℕ)
      → current_by (records p.log) k (length (records p.log)) (cur (at (decode V1 image) k)) ≡ a k
      → current_by (records (new p f d)) k (length (records (new p f d))) (cur (at (decode V1 image) k)) ≡ a k
  by_log p f image a k e = subst (λ (g : List ℕ). current_by (records g) k (length (records g)) (cur (at (decode V1 image) k)) ≡ a k) (sym (new_here p f)) e

  turned_order : (s : Sent) (line from : ℕ) → SentBytes s → lawful d (seen_by d y) (order s line from) ≡ true → JointTurned ruled (after_desk_step y (by_desk d (order s line from))) c
  unfolding after_desk_step after_step
  turned_order s line from b h =
      let p = part_of (after_step d (seen_by d y) (order s line from)) in
      let hold : Holds d (after_step d (alone d y) (order s line from)) (alone_current d y c) = holds_next d (alone d y) mine (alone_current d y c) turned_alone (order s line from) b h in
      record {
        cards = λ k.
            on_same y.image (new p y.part) c (alone_current d y c) (new_there p y.part) hold.plain (λ i q. by_log p y.part y.image (alone_current d y c) i (hold.marked i q)) k refl
            (borne_value k) (λ q. refl);
        side = by_desk_lem ruled y j d r (λ (n : ℕ) (q : Part). ruled n ≡ true → SideTurned n y.image q) p y.part (λ q. record { sent = hold.sent; told = hold.told }) (λ n x q. w.side n q);
      }

  turned_crash : JointTurned ruled (after_desk_step y (by_desk d crash)) c
  unfolding after_desk_step after_step
  turned_crash =
      let p = part_of (after_step d (seen_by d y) crash) in
      let hold : Holds d (after_step d (alone d y) crash) (alone_current d y c) = holds_next d (alone d y) mine (alone_current d y c) turned_alone crash tt refl in
      record {
        cards = λ k.
            on_same y.image (new p y.part) c (alone_current d y c) (new_there p y.part) hold.plain (λ i q. by_log p y.part y.image (alone_current d y c) i (hold.marked i q)) k refl
            (borne_value k) (λ q. refl);
        side = by_desk_lem ruled y j d r (λ (n : ℕ) (q : Part). ruled n ≡ true → SideTurned n y.image q) p y.part (λ q. record { sent = hold.sent; told = hold.told }) (λ n x q. w.side n q);
      }

  turned_renew : lawful d (seen_by d y) renew ≡ true → JointTurned ruled (after_desk_step y (by_desk d renew)) c
  unfolding after_desk_step after_step
  turned_renew h =
      let p = part_of (after_step d (seen_by d y) renew) in
      let hold : Holds d (after_step d (alone d y) renew) (alone_current d y c) = holds_next d (alone d y) mine (alone_current d y c) turned_alone renew tt h in
      record {
        cards = λ k.
            on_same y.image (new p y.part) c (alone_current d y c) (new_there p y.part) hold.plain (λ i q. by_log p y.part y.image (alone_current d y c) i (hold.marked i q)) k refl
            (borne_value k) (λ q. refl);
        side = by_desk_lem ruled y j d r (λ (n : ℕ) (q : Part). ruled n ≡ true → SideTurned n y.image q) p y.part (λ q. record { sent = hold.sent; told = hold.told }) (λ n x q. w.side n q);
      }

  turned_append : (budget : ℕ) (q : LogRecord) → StepBytes (append budget q) → lawful d (seen_by d y) (append budget q) ≡ true
      → JointTurned ruled (after_desk_step y (by_desk d (append budget q))) (current_after d (seen_by d y) c (append budget q))
  unfolding after_desk_step after_step
  turned_append budget q b h =
      let p = part_of (after_step d (seen_by d y) (append budget q)) in
      let a : ℕ → Bool = current_after d (alone d y) (alone_current d y c) (append budget q) in
      let v : ℕ → Bool = current_after d (seen_by d y) c (append budget q) in
      let hold : Holds d (after_step d (alone d y) (append budget q)) a = holds_next d (alone d y) mine (alone_current d y c) turned_alone (append budget q) b h in
      record {
        cards = λ k.
            on_same y.image (new p y.part) v a (new_there p y.part) hold.plain (λ i x. by_log p y.part y.image a i (hold.marked i x)) k refl
            (λ x.
            ap (λ (t : Bool). cond (eqb (append_number budget (y.part d).log q) 0 && eqb q.kind commit_kind)
            (current_with (records (y.part d).log) (record_transaction q) k (length (records (y.part d).log)) t) t)
            (borne_value k x))
            (λ x. unborne_current d (alone d y) mine c budget q b h k x);
        side = by_desk_lem ruled y j d r (λ (n : ℕ) (x : Part). ruled n ≡ true → SideTurned n y.image x) p y.part (λ x. record { sent = hold.sent; told = hold.told }) (λ n x z. w.side n z);
      }

  turned_recover : (pairs : Pairs) (lines : ℕ) → FitsPairs pairs → lawful d (seen_by d y) (recover pairs lines) ≡ true → JointTurned ruled (after_desk_step y (by_desk d (recover pairs lines))) c
  unfolding after_desk_step after_step
  turned_recover pairs lines b h =
      let p = part_of (after_step d (seen_by d y) (recover pairs lines)) in
      let image : List ℕ = (recovering pairs (records (y.part d).log) y.image lines).image in
      let hold : Holds d (after_step d (alone d y) (recover pairs lines)) (alone_current d y c) = holds_next d (alone d y) mine (alone_current d y c) turned_alone (recover pairs lines) b h in
      record {
        cards = λ k. on k (raised_here ruled y j d r pairs lines b h k) hold;
        side = by_desk_lem ruled y j d r (λ (n : ℕ) (q : Part). ruled n ≡ true → SideTurned n image q) p y.part (λ q. record { sent = hold.sent; told = hold.told }) (λ n x q. side_there n q);
      }
    where
      p : Part
      p = part_of (after_step d (seen_by d y) (recover pairs lines))

      image : List ℕ
      image = (recovering pairs (records (y.part d).log) y.image lines).image

      on : (k : ℕ) → Raised d (at cs k) (at (decode V1 image) k) → Holds d (after_step d (alone d y) (recover pairs lines)) (alone_current d y c)
          → OnCard ruled (new p y.part) (c k) k (at (decode V1 image) k)
      on k (stays e) hold =
          on_same image (new p y.part) c (alone_current d y c) (new_there p y.part) hold.plain (λ i q. by_log p y.part image (alone_current d y c) i (hold.marked i q)) k e
          (borne_value k) (λ q. refl)
      on k (rises higher q m) hold =
          on_own image (new p y.part) c (alone_current d y c) (new_there p y.part) hold.plain (λ i x. by_log p y.part image (alone_current d y c) i (hold.marked i x)) k
          (inr (ap (λ (t : Mark). t.desk) m ∙ eqb-true (at cs k).mark.desk d q)) (borne_value k q)

      moved : (e k : ℕ) → Raised d (at cs k) (at (decode V1 image) k) → Moved e (at cs k) (at (decode V1 image) k)
      moved e k (stays q) = still q
      moved e k (rises higher q m) = up higher

      side_there : (e : ℕ) → ruled e ≡ true → SideTurned e image (y.part e)
      side_there e q =
          record {
            sent = sent_moved e (alone e y) (kept_alone ruled y j e q) (decode V1 image) (λ k. moved e k (raised_here ruled y j d r pairs lines b h k)) (w.side e q).sent;
            told = told_moved e (alone e y) (kept_alone ruled y j e q) (decode V1 image) (λ k. moved e k (raised_here ruled y j d r pairs lines b h k)) (w.side e q).told;
          }

-- ---- somebody else's request, to a desk under the rules

module _ (ruled : ℕ → Bool) (y : Desks) (j : Joint ruled y) (c : ℕ → Bool) (w : JointTurned ruled y c) (s : Sent) (b : SentBytes s) where
  abbrev got : Outcome
  got = serve V1 y.image s.command s.lent

  side_met : (e : ℕ) → ruled e ≡ true → (formed V1 s.command ≡ true → (expects_mark e (command_in s) ≡ false) × (leaves_mark e (command_in s) ≡ false))
      → SideTurned e got.image (part_of (after_step e (seen_by e y) (other s)))
  unfolding after_step
  side_met e r f =
      let hold : Holds e (after_step e (alone e y) (other s)) (current_after e (alone e y) (alone_current e y c) (other s)) =
      holds_other e (alone e y) (kept_alone ruled y j e r) (alone_current e y c) (turned_alone ruled y j c w e r) s b (rule (cases (formed V1 s.command))) in
      record { sent = hold.sent; told = hold.told }
    where
      rule : (formed V1 s.command ≡ true) ⊎ (formed V1 s.command ≡ false) → lawful e (alone e y) (other s) ≡ true
      rule (inl q) = or_right (not (formed V1 s.command)) (both (f q))
        where
          both : (expects_mark e (command_in s) ≡ false) × (leaves_mark e (command_in s) ≡ false) → (not (expects_mark e (command_in s)) && not (leaves_mark e (command_in s))) ≡ true
          both x = rw (x.0, x.1)
      rule (inr q) = rw q

-- ---- one of a desk's orders arrives

module _ (ruled : ℕ → Bool) (y : Desks) (j : Joint ruled y) (c : ℕ → Bool) (w : JointTurned ruled y c) (d : ℕ) (r : ruled d ≡ true) (i : ℕ) (h : lawful d (seen_by d y) (arrive i) ≡ true) where
  abbrev s : Sent
  s = (get_or (y.part d).orders i no_order).sent

  abbrev old : Cards
  old = decode V1 y.image

  abbrev image : List ℕ
  image = (serve V1 y.image s.command s.lent).image

  bytes : SentBytes s
  bytes = (safe ruled y j d r i h).bytes

  cards_then : decode V1 image ≡ then old s
  cards_then = decode_then ruled y j s bytes

  abbrev p : Part
  p = part_of (after_step d (seen_by d y) (arrive i))

  abbrev met : ℕ → Part
  met e = part_of (after_step e (seen_by e y) (other s))

  hold : Holds d (after_step d (alone d y) (arrive i)) (alone_current d y c)
  hold = holds_next d (alone d y) (kept_alone ruled y j d r) (alone_current d y c) (turned_alone ruled y j c w d r) (arrive i) tt h

  plainly : (k : ℕ) → bears d (at (decode V1 image) k) ≡ false → cur (at (decode V1 image) k) ≡ alone_current d y c k
  unfolding after_step
  plainly k q = hold.plain k q

  marking : (k : ℕ) → bears d (at (decode V1 image) k) ≡ true → current_by (records p.log) k (length (records p.log)) (cur (at (decode V1 image) k)) ≡ alone_current d y c k
  unfolding after_step
  marking k q = hold.marked k q

  there : (e : ℕ) → eqb e d ≡ false → (y.part e).log ≡ new ruled y j c w d r p met e
  unfolding after_step
  there e x = new_there ruled y j c w d r p met e x

  on_arrive : (k : ℕ) → OnCard ruled (new ruled y j c w d r p met) (c k) k (at (decode V1 image) k)
  on_arrive k = go (number_on V1 old s) refl
    where
      as_before : at (decode V1 image) k ≡ at old k → OnCard ruled (new ruled y j c w d r p met) (c k) k (at (decode V1 image) k)
      as_before e =
          on_same ruled y j c w d r image (new ruled y j c w d r p met) c (alone_current d y c) there plainly
          (λ n q. by_log ruled y j c w d r p met image (alone_current d y c) n (marking n q)) k e (borne_value ruled y j c w d r k) (λ q. refl)

      go : (n : ℕ) → number_on V1 old s ≡ n → OnCard ruled (new ruled y j c w d r p met) (c k) k (at (decode V1 image) k)
      go (suc n) e = as_before (ap (λ (m : Cards). at m k) (cards_then ∙ kept old s j.good n e))
      go zero e = by (cases (eqb (command_in s).card k))
        where
          t : Taken old s
          t = taken old s j.good e

          by : (eqb (command_in s).card k ≡ true) ⊎ (eqb (command_in s).card k ≡ false) → OnCard ruled (new ruled y j c w d r p met) (c k) k (at (decode V1 image) k)
          by (inr x) = as_before (ap (λ (m : Cards). at m k) cards_then ∙ t.others k x)
          by (inl x) =
              let here : (command_in s).card ≡ k = eqb-true (command_in s).card k x in
              let first : ((at old k).mark.desk ≡ 0) ⊎ ((at old k).mark.desk ≡ d) =
              subst (λ (n : ℕ). ((at old n).mark.desk ≡ 0) ⊎ ((at old n).mark.desk ≡ d)) here (subst (λ (n : ℕ). (n ≡ 0) ⊎ (n ≡ d)) t.fits (ends ruled y j d r i h).0) in
              let last : ((at (then old s) k).mark.desk ≡ 0) ⊎ ((at (then old s) k).mark.desk ≡ d) =
              subst (λ (n : ℕ). ((at (then old s) n).mark.desk ≡ 0) ⊎ ((at (then old s) n).mark.desk ≡ d)) here
              (subst (λ (m : Mark). (m.desk ≡ 0) ⊎ (m.desk ≡ d)) (sym t.mark) (ends ruled y j d r i h).1) in
              let last-now : ((at (decode V1 image) k).mark.desk ≡ 0) ⊎ ((at (decode V1 image) k).mark.desk ≡ d) =
              subst (λ (m : Cards). ((at m k).mark.desk ≡ 0) ⊎ ((at m k).mark.desk ≡ d)) (sym cards_then) last in
              on_own ruled y j c w d r image (new ruled y j c w d r p met) c (alone_current d y c) there plainly
              (λ n q. by_log ruled y j c w d r p met image (alone_current d y c) n (marking n q)) k last-now (own_value ruled y j c w d r k first)

  turned_arrive : JointTurned ruled (after_desk_step y (by_desk d (arrive i))) c
  unfolding after_desk_step after_step
  turned_arrive =
      record {
        cards = on_arrive;
        side = by_desk_lem ruled y j d r (λ (n : ℕ) (q : Part). ruled n ≡ true → SideTurned n image q) p met (λ q. record { sent = hold.sent; told = hold.told })
            (λ n x q.
            side_met ruled y j c w s bytes n q
            (λ f. (none_of ruled y j d r i h (command_in s).expected.desk (ends ruled y j d r i h).0 n q x, none_of ruled y j d r i h (command_in s).next.desk (ends ruled y j d r i h).1 n q x)));
      }

-- ---- a request of somebody under no rules

module _ (ruled : ℕ → Bool) (y : Desks) (j : Joint ruled y) (c : ℕ → Bool) (w : JointTurned ruled y c) (s : Sent) (b : SentBytes s) (h : lawful_desk_step ruled y (outside s) ≡ true) where
  abbrev was : Cards
  was = decode V1 y.image

  abbrev cmd : Command
  cmd = command_in s

  abbrev left : List ℕ
  left = (serve V1 y.image s.command s.lent).image

  abbrev number : ℕ
  number = (serve V1 y.image s.command s.lent).answer.number

  abbrev v : ℕ → Bool
  v k = cond (eqb number 0 && eqb cmd.card k && is_write cmd) (writes_translation cmd) (c k)

  abbrev logs : ℕ → List ℕ
  logs e = (y.part e).log

  on_outside : (k : ℕ) → OnCard ruled logs (v k) k (at (decode V1 left) k)
  on_outside k = subst (λ (m : Cards). OnCard ruled logs (v k) k (at m k)) (sym (decode_then ruled y j s b)) (go (number_on V1 was s) refl)
    where
      go : (n : ℕ) → number_on V1 was s ≡ n → OnCard ruled logs (v k) k (at (then was s) k)
      go (suc n) e =
          let refused : number ≡ suc n = number_then ruled y j s ∙ e in
          let nothing : eqb number 0 ≡ false = ne_eqb number 0 (λ z. omega (arith, z, refused)) in
          subst (λ (m : Cards). OnCard ruled logs (v k) k (at m k)) (sym (kept was s j.good n e)) (on_as ruled logs logs (c k) (v k) k (at was k) (λ i. refl) (sym (rw nothing)) (w.cards k))
      go zero e = by (cases (eqb cmd.card k))
        where
          t : Taken was s
          t = taken was s j.good e

          taken_now : eqb number 0 ≡ true
          taken_now = eq-eqb number 0 (number_then ruled y j s ∙ e)

          was_free : ruled (at was cmd.card).mark.desk ≡ false
          was_free = subst (λ (n : ℕ). ruled n ≡ false) t.fits (unruled ruled y j s b h t.well_formed).0

          is_free : ruled (at (then was s) cmd.card).mark.desk ≡ false
          is_free = subst (λ (m : Mark). ruled m.desk ≡ false) (sym t.mark) (unruled ruled y j s b h t.well_formed).1

          here : v cmd.card ≡ cond (is_write cmd) (writes_translation cmd) (c cmd.card)
          here = rw (taken_now, eq-eqb cmd.card cmd.card refl)

          by : (eqb cmd.card k ≡ true) ⊎ (eqb cmd.card k ≡ false) → OnCard ruled logs (v k) k (at (then was s) k)
          by (inr q) = subst (OnCard ruled logs (v k) k) (sym (t.others k q)) (on_as ruled logs logs (c k) (v k) k (at was k) (λ i. refl) (sym (rw (taken_now, q))) (w.cards k))
          by (inl q) =
              subst (λ (n : ℕ). OnCard ruled logs (v n) n (at (then was s) n)) (eqb-true cmd.card k q)
              (record {
                plain = λ x.
                    cur_then was s j.good e ∙ ap (λ (u : Bool). cond (is_write cmd) (writes_translation cmd) u) ((w.cards cmd.card).plain was_free) ∙ sym here;
                marked = λ x. absurd (never_both x is_free);
              })

  turned_outside : JointTurned ruled (after_desk_step y (outside s)) (desks_current_after y c (outside s))
  unfolding after_desk_step after_step
  turned_outside =
      record {
        cards = on_outside;
        side = λ e r.
            side_met ruled y j c w s b e r
            (λ f. (not_of ruled y j s b h e cmd.expected.desk r (unruled ruled y j s b h f).0, not_of ruled y j s b h e cmd.next.desk r (unruled ruled y j s b h f).1));
      }

-- ---- a run

turned_own : (ruled : ℕ → Bool) (y : Desks) (j : Joint ruled y) (c : ℕ → Bool) (w : JointTurned ruled y c) (d : ℕ) (m : Step)
    → StepBytes m → ruled d ≡ true → own_step m ≡ true → lawful d (seen_by d y) m ≡ true
    → JointTurned ruled (after_desk_step y (by_desk d m)) (desks_current_after y c (by_desk d m))
turned_own ruled y j c w d (other s) b r o h = absurd (never_both refl (sym o))
turned_own ruled y j c w d (order s line from) b r o h = turned_order ruled y j c w d r s line from b h
turned_own ruled y j c w d (arrive i) b r o h = turned_arrive ruled y j c w d r i h
turned_own ruled y j c w d (append budget q) b r o h = turned_append ruled y j c w d r budget q b h
turned_own ruled y j c w d crash b r o h = turned_crash ruled y j c w d r
turned_own ruled y j c w d (recover pairs lines) b r o h = turned_recover ruled y j c w d r pairs lines b h
turned_own ruled y j c w d renew b r o h = turned_renew ruled y j c w d r h

turned_next : (ruled : ℕ → Bool) (y : Desks) (m : DeskStep) (c : ℕ → Bool) → Joint ruled y → JointTurned ruled y c → DeskStepBytes m → lawful_desk_step ruled y m ≡ true
    → JointTurned ruled (after_desk_step y m) (desks_current_after y c m)
turned_next ruled y (outside s) c j w b h = turned_outside ruled y j c w s b h
turned_next ruled y (by_desk d m) c j w b h =
    let two = and_left (ruled d && own_step m) (lawful d (seen_by d y) m) h in
    turned_own ruled y j c w d m b (and_left (ruled d) (own_step m) two) (and_right (ruled d) (own_step m) two) (and_right (ruled d && own_step m) (lawful d (seen_by d y) m) h)

turned_run : (ruled : ℕ → Bool) (y : Desks) (c : ℕ → Bool) (steps : List DeskStep) → Joint ruled y → JointTurned ruled y c → AllDeskSteps steps → lawful_desk_steps ruled y steps ≡ true
    → JointTurned ruled (after_desk_steps y steps) (desks_current_along y c steps)
unfolding foldl every_along desks_current_along
turned_run ruled y c [] j w b h = w
turned_run ruled y c (m ∷ steps) j w b h =
    let now = and_left (lawful_desk_step ruled y m) (lawful_desk_steps ruled (after_desk_step y m) steps) h in
    turned_run ruled (after_desk_step y m) (desks_current_after y c m) steps (joint_next ruled y m j b.0 now) (turned_next ruled y m c j w b.0 now) b.1
    (and_right (lawful_desk_step ruled y m) (lawful_desk_steps ruled (after_desk_step y m) steps) h)

turned_always : (ruled : ℕ → Bool) (y : Desks) (m : DesksMoment ruled y) → JointTurned ruled y (desks_meant_current ruled y m)
turned_always ruled y m =
    subst (λ (z : Desks). JointTurned ruled z (desks_meant_current ruled y m)) m.led
    (turned_run ruled (desks_opening m.image m.logs) (current_in m.image) m.steps (joint_opening ruled y m)
    (record {
      cards = λ k. record { plain = λ b. refl; marked = λ b. absurd (never_both b (m.store.unmarked k)) };
      side = λ d r. record { sent = tt; told = tt };
    })
    m.sent m.rules)

-- ---- the claims

pub desks_editions_at_once : DesksEditionsAtOnce
desks_editions_at_once ruled y m = let w = turned_always ruled y m in record { plain = λ k b. (w.cards k).plain b; marked = λ k b. (w.cards k).marked b }

pub desks_translations_read : DesksTranslationsRead
desks_translations_read ruled y m s r e =
    let j = joint_always ruled y m in
    let w = turned_always ruled y m in
    let cs : Cards = decode V1 y.image in
    let free : (n : ℕ) → (command_in s).expected.desk ≡ n → ruled n ≡ false = λ n q. subst (λ (i : ℕ). ruled i ≡ false) q e in
    record {
      shown = λ z. let two = accepted cs s r (sym (number_then ruled y j s) ∙ z) in sym ((w.cards (command_in s).card).plain (free (at cs (command_in s).card).mark.desk two.0)) ∙ two.1;
      refused = λ z. let two = behind_then cs s r (sym (number_then ruled y j s) ∙ z) in sym ((w.cards (command_in s).card).plain (free (at cs (command_in s).card).mark.desk two.0)) ∙ two.1;
    }
