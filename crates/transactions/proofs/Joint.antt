-- Many desks over one store: each keeps what one desk keeps, and the texts that are meant are the same for all. Assumes
-- nothing.
use Prim.Native.Nat.{ℕ, zero, suc}
use native.Mathlib.Omega.{arith}
use mathlib.Core.Path.{◌≡◌, refl, sym, ap, ◌∙◌, subst}
use mathlib.Core.Logic.{◌⊎◌, inl, inr}
use mathlib.Core.List.{List, [], ◌∷◌}
use mathlib.Core.Bool.{Bool, true, false, cond, not, ◌&&◌}
use borrow.Author.Tests.{eqb-true, eqb-false, eq-eqb, ne_eqb, ltb-true, not-true}
use lib.ListN.{length, get_or, take}
use lib.Dec.{eqb}
use Rattle.formats.specs.Format.{V1}
use Rattle.lists.specs.Parts.{Bytes}
use Rattle.lists.proofs.Tests.{cases, never_both, and_left, and_right, or_cases, or_right, from_T, to_T}
use Rattle.lists.specs.Runs.{foldl, every_along}
use Rattle.stamps.specs.declared.Mark.{Mark}
use Rattle.commands.specs.declared.Command.{Command}
use Rattle.commands.specs.Command.{Language, is_write, writes}
use Rattle.commands.specs.Bytes.{payload, formed}
use Rattle.image.specs.Image.{Card, Cards, GoodCards, text, encode, decode, sound}
use Rattle.image_claims.proofs.Claims.{sound_reads_back, good_encodes}
use Rattle.store_model.specs.Serve.{Outcome, serve}
use Rattle.store_model.specs.Words.{Sent}
use Rattle.store_model.specs.Claims.{SentBytes}
use Rattle.store_model.proofs.Machine.{number_on}
use Rattle.store_model.proofs.Simulation.{good_more, same_image}
use Rattle.redo_log.specs.Log.{LogRecord, good_log, records}
use Rattle.redo_log.specs.Append.{append_number, appended}
use Rattle.redo_log_claims.specs.Life.{renewed}
use Rattle.redo_recovery_model.specs.Recovery.{Pairs, FitsPairs, recovering}
use Rattle.redo_recovery_model.specs.Claims.{rewritten}
use Rattle.transactions.specs.System.{
  OneDesk,
  Order,
  Shown,
  Holding,
  unknown,
  held,
  free,
  Step,
  other,
  order,
  arrive,
  append,
  crash,
  recover,
  renew,
  no_order,
  command_in,
  expects_mark,
  leaves_mark,
  lawful,
  meant_after,
  meant_logged,
  after_step,
}
use Rattle.transactions.specs.Claims.{StepBytes}
use Rattle.transactions.specs.Desks.{
  Part,
  Desks,
  seen_by,
  part_of,
  desks_opening,
  DeskStep,
  outside,
  by_desk,
  own_step,
  lawful_desk_step,
  after_desk_step,
  after_desk_steps,
  lawful_desk_steps,
  DeskStepBytes,
  AllDeskSteps,
  DesksMoment,
  DesksCommitAtOnce,
  DesksMeantOnlyThen,
  DesksReadsMeant,
}
use Rattle.transactions.proofs.Records.{All, all_map, Ordered, ordered_none}
use Rattle.transactions.proofs.Serving.{at, then, Taken, taken, kept, number_is, shown_text}
use Rattle.transactions.proofs.Kept.{bears, Stands, card_for, Fine, preparing, releasing, writing, Safe, Told, Knows, Kept, decoded, safe_raised, told_raised, all_at}
use Rattle.transactions.proofs.Requests.{kept_other, kept_crash}
use Rattle.transactions.proofs.Orders.{kept_order}
use Rattle.transactions.proofs.Arrivals.{kept_arrive}
use Rattle.transactions.proofs.Logged.{kept_append, unborne_meant}
use Rattle.transactions.proofs.Rewriting.{Raised, stays, rises, raised, kept_recover}
use Rattle.transactions.proofs.Renewing.{kept_renew}
use Rattle.transactions.proofs.Claims.{meant_only_then}

-- ---- what holds at every moment

pub record Side (d : ℕ) (image : List ℕ) (p : Part) : Type 0 where
  pub good_log_lem : good_log p.log ≡ true
  pub log_bytes : Bytes p.log
  pub ordered : Ordered (records p.log)
  pub sent : All (λ (o : Order). Safe d (records p.log) (card_for o) (at (decode V1 image) (card_for o)) o) p.orders
  pub told : All (λ (v : Shown). Told d (records p.log) v.card (at (decode V1 image) v.card) v) p.shown
  pub knows : (k : ℕ) → Knows d (records p.log) p.orders p.shown k (at (decode V1 image) k) (p.holds k)

-- The texts of card k, by the log of the desk whose mark it bears.
pub record Stand (ruled : ℕ → Bool) (logs : ℕ → List ℕ) (meant : Language → List ℕ) (k : ℕ) (card : Card) : Type 0 where
  pub plain : ruled card.mark.desk ≡ false → (l : Language) → text l card ≡ meant l
  pub marked :
      ruled card.mark.desk ≡ true → (l : Language)
      → rewritten (records (logs card.mark.desk)) l k (length (records (logs card.mark.desk))) (text l card) ≡ meant l

pub record Joint (ruled : ℕ → Bool) (y : Desks) : Type 0 where
  pub nobody : ruled 0 ≡ false
  pub same : encode V1 (decode V1 y.image) ≡ y.image
  pub good : GoodCards V1 (decode V1 y.image)
  pub texts : (k : ℕ) → Stand ruled (λ (e : ℕ). (y.part e).log) (y.meant k) k (at (decode V1 y.image) k)
  pub side : (d : ℕ) → ruled d ≡ true → Side d y.image (y.part d)

stand_as : (ruled : ℕ → Bool) (logs new : ℕ → List ℕ) (meant then : Language → List ℕ) (k : ℕ) (card : Card)
    → ((e : ℕ) → logs e ≡ new e) → ((l : Language) → meant l ≡ then l) → Stand ruled logs meant k card → Stand ruled new then k card
stand_as ruled logs new meant then k card e m s =
    record {
      plain = λ b l. s.plain b l ∙ m l;
      marked = λ b l.
          subst (λ (g : List ℕ). rewritten (records g) l k (length (records g)) (text l card) ≡ then l) (e card.mark.desk) (s.marked b l ∙ m l);
    }

-- ---- one desk alone: what is meant of a card that does not bear its mark is what stands there

abbrev pub alone : ℕ → Desks → OneDesk
alone d y =
    record {
      image = y.image;
      log = (y.part d).log;
      meant = λ k l. cond (bears d (at (decode V1 y.image) k)) (y.meant k l) (text l (at (decode V1 y.image) k));
      orders = (y.part d).orders;
      shown = (y.part d).shown;
      holds = (y.part d).holds;
    }

module _ (ruled : ℕ → Bool) (y : Desks) (j : Joint ruled y) (d : ℕ) (r : ruled d ≡ true) where
  abbrev cs : Cards
  cs = decode V1 y.image

  pub nonzero : d ≡ 0 → ⊥
  nonzero e = never_both r (subst (λ (n : ℕ). ruled n ≡ false) (sym e) j.nobody)

  pub stands_alone : (k : ℕ) → Stands d (records (y.part d).log) ((alone d y).meant k) k (at cs k)
  stands_alone k =
      record {
        plain = λ b l. sym (ap (λ (t : Bool). cond t (y.meant k l) (text l (at cs k))) b);
        marked = λ b l.
            let here : (at cs k).mark.desk ≡ d = eqb-true (at cs k).mark.desk d b in
            subst (λ (e : ℕ). rewritten (records (y.part e).log) l k (length (records (y.part e).log)) (text l (at cs k)) ≡ y.meant k l) here
            ((j.texts k).marked (subst (λ (e : ℕ). ruled e ≡ true) (sym here) r) l)
            ∙ sym (ap (λ (t : Bool). cond t (y.meant k l) (text l (at cs k))) b);
      }

  abbrev pub kept_alone : Kept d (alone d y)
  kept_alone =
      let w = j.side d r in
      record {
        some = nonzero;
        cs = cs;
        image_is = sym j.same;
        good = j.good;
        good_log_lem = w.good_log_lem;
        log_bytes = w.log_bytes;
        ordered = w.ordered;
        texts = stands_alone;
        sent = w.sent;
        told = w.told;
        knows = w.knows;
      }

-- A desk that keeps what it keeps, seen from outside.
side_of_lem : (d : ℕ) (z : OneDesk) → Kept d z → Side d z.image (part_of z)
side_of_lem d z k =
    let back = sym (decoded d z k) in
    record {
      good_log_lem = k.good_log_lem;
      log_bytes = k.log_bytes;
      ordered = k.ordered;
      sent = subst (λ (m : Cards). All (λ (o : Order). Safe d (records z.log) (card_for o) (at m (card_for o)) o) z.orders) back k.sent;
      told = subst (λ (m : Cards). All (λ (v : Shown). Told d (records z.log) v.card (at m v.card) v) z.shown) back k.told;
      knows = λ i. subst (λ (m : Cards). Knows d (records z.log) z.orders z.shown i (at m i) (z.holds i)) back (k.knows i);
    }

stands_of : (d : ℕ) (z : OneDesk) → Kept d z → (i : ℕ) → Stands d (records z.log) (z.meant i) i (at (decode V1 z.image) i)
stands_of d z k i = subst (λ (m : Cards). Stands d (records z.log) (z.meant i) i (at m i)) (sym (decoded d z k)) (k.texts i)

image_of_lem : (d : ℕ) (z : OneDesk) → Kept d z → encode V1 (decode V1 z.image) ≡ z.image
image_of_lem d z k = ap (encode V1) (decoded d z k) ∙ sym k.image_is

good_of : (d : ℕ) (z : OneDesk) → Kept d z → GoodCards V1 (decode V1 z.image)
good_of d z k = subst (GoodCards V1) (sym (decoded d z k)) k.good

-- ---- a request, by the cards

module _ (ruled : ℕ → Bool) (y : Desks) (j : Joint ruled y) (s : Sent) where
  abbrev old : Cards
  old = decode V1 y.image

  abbrev c : Command
  c = command_in s

  abbrev out : Outcome
  out = serve V1 y.image s.command s.lent

  served : out ≡ serve V1 (encode V1 old) s.command s.lent
  served = ap (λ (i : List ℕ). serve V1 i s.command s.lent) (sym j.same)

  pub number_then : out.answer.number ≡ number_on V1 old s
  number_then = ap (λ (o : Outcome). o.answer.number) served ∙ number_is old s j.good

  image_then : out.image ≡ encode V1 (then old s)
  image_then = ap (λ (o : Outcome). o.image) served ∙ same_image V1 old s j.good

  module _ (b : SentBytes s) where
    good_then : GoodCards V1 (then old s)
    good_then = good_more V1 old s j.good b (number_on V1 old s) refl

    pub decode_then : decode V1 out.image ≡ then old s
    decode_then = ap (decode V1) image_then ∙ (good_encodes V1 (then old s) good_then).same

    same_then : encode V1 (decode V1 out.image) ≡ out.image
    same_then = ap (encode V1) decode_then ∙ sym image_then

    good_out : GoodCards V1 (decode V1 out.image)
    good_out = subst (GoodCards V1) (sym decode_then) good_then

  -- For a desk under the rules whose mark it neither expects nor leaves it is somebody else's.
  side_other : (b : SentBytes s) (e : ℕ) → ruled e ≡ true → (formed V1 s.command ≡ true → (expects_mark e c ≡ false) × (leaves_mark e c ≡ false)) → Side e
      out.image (part_of (after_step e (seen_by e y) (other s)))
  unfolding after_step
  side_other b e r f = side_of_lem e (after_step e (alone e y) (other s)) (kept_other e (alone e y) (kept_alone ruled y j e r) s b (rule (cases (formed V1 s.command))))
    where
      rule : (formed V1 s.command ≡ true) ⊎ (formed V1 s.command ≡ false) → lawful e (alone e y) (other s) ≡ true
      rule (inl q) = or_right (not (formed V1 s.command)) (both (f q))
        where
          both : (expects_mark e c ≡ false) × (leaves_mark e c ≡ false) → (not (expects_mark e c) && not (leaves_mark e c)) ≡ true
          both w = rw (w.0, w.1)
      rule (inr q) = rw q

-- ---- a request of somebody under no rules

module _ (ruled : ℕ → Bool) (y : Desks) (j : Joint ruled y) (s : Sent) (b : SentBytes s) (h : lawful_desk_step ruled y (outside s) ≡ true) where
  abbrev was : Cards
  was = decode V1 y.image

  abbrev cmd : Command
  cmd = command_in s

  abbrev got : Outcome
  got = serve V1 y.image s.command s.lent

  pub unruled : formed V1 s.command ≡ true → (ruled cmd.expected.desk ≡ false) × (ruled cmd.next.desk ≡ false)
  unruled f = go (or_cases (not (formed V1 s.command)) (not (ruled cmd.expected.desk) && not (ruled cmd.next.desk)) h)
    where
      go : (not (formed V1 s.command) ≡ true) ⊎ ((not (ruled cmd.expected.desk) && not (ruled cmd.next.desk)) ≡ true) →
          (ruled cmd.expected.desk ≡ false) × (ruled cmd.next.desk ≡ false)
      go (inl n) = absurd (never_both f (not-true (formed V1 s.command) n))
      go (inr p) = (
        not-true (ruled cmd.expected.desk) (and_left (not (ruled cmd.expected.desk)) (not (ruled cmd.next.desk)) p),
        not-true (ruled cmd.next.desk) (and_right (not (ruled cmd.expected.desk)) (not (ruled cmd.next.desk)) p),
      )

  pub not_of : (e n : ℕ) → ruled e ≡ true → ruled n ≡ false → eqb n e ≡ false
  not_of e n r q = ne_eqb n e (λ z. never_both r (subst (λ (m : ℕ). ruled m ≡ false) z q))

  stand_outside : (k : ℕ) → Stand ruled (λ (e : ℕ). (y.part e).log) (meant_after got.answer.number s y.meant k) k (at (decode V1 got.image) k)
  stand_outside k = subst (λ (m : Cards). Stand ruled (λ (e : ℕ). (y.part e).log) (meant_after got.answer.number s y.meant k) k (at m k))
      (sym (decode_then ruled y j s b)) (go (number_on V1 was s) refl)
    where
      Stands_so : Cards → Type 0
      Stands_so m = Stand ruled (λ (e : ℕ). (y.part e).log) (meant_after got.answer.number s y.meant k) k (at m k)

      go : (n : ℕ) → number_on V1 was s ≡ n → Stands_so (then was s)
      go (suc n) e =
          let number : got.answer.number ≡ suc n = number_then ruled y j s ∙ e in
          let nothing : eqb got.answer.number 0 ≡ false = ne_eqb got.answer.number 0 (λ z. omega arith) in
          subst Stands_so (sym (kept was s j.good n e))
          (stand_as ruled (λ (i : ℕ). (y.part i).log) (λ (i : ℕ). (y.part i).log) (y.meant k) (meant_after got.answer.number s y.meant k) k
          (at was k) (λ i. refl) (λ l. rw nothing) (j.texts k))
      go zero e = by (cases (eqb cmd.card k))
        where
          t : Taken was s
          t = taken was s j.good e

          number : eqb got.answer.number 0 ≡ true
          number = eq-eqb got.answer.number 0 (number_then ruled y j s ∙ e)

          free : ruled (at was cmd.card).mark.desk ≡ false
          free = subst (λ (n : ℕ). ruled n ≡ false) t.fits (unruled t.well_formed).0

          free_now : ruled (at (then was s) cmd.card).mark.desk ≡ false
          free_now = subst (λ (m : Mark). ruled m.desk ≡ false) (sym t.mark) (unruled t.well_formed).1

          by : (eqb cmd.card k ≡ true) ⊎ (eqb cmd.card k ≡ false) → Stands_so (then was s)
          by (inr q) =
              subst (Stand ruled (λ (i : ℕ). (y.part i).log) (meant_after got.answer.number s y.meant k) k) (sym (t.others k q))
              (stand_as ruled (λ (i : ℕ). (y.part i).log) (λ (i : ℕ). (y.part i).log) (y.meant k) (meant_after got.answer.number s y.meant k) k
              (at was k) (λ i. refl) (λ l. rw (number, q)) (j.texts k))
          by (inl q) =
              subst (λ (i : ℕ). Stand ruled (λ (e : ℕ). (y.part e).log) (meant_after got.answer.number s y.meant i) i (at (then was s) i)) (eqb-true cmd.card k q)
              (record {
                plain = λ w l.
                    t.text_is l
                    ∙ ap (λ (x : List ℕ). cond (writes l cmd) (payload V1 s.command) x) ((j.texts cmd.card).plain free l)
                    ∙ sym (rw (number, eq-eqb cmd.card cmd.card refl));
                marked = λ w l. absurd (never_both w free_now);
              })

  joint_outside : Joint ruled (after_desk_step y (outside s))
  unfolding after_desk_step after_step
  joint_outside =
      record {
        nobody = j.nobody;
        same = same_then ruled y j s b;
        good = good_out ruled y j s b;
        texts = stand_outside;
        side = λ e r. side_other ruled y j s b e r (λ f. (not_of e cmd.expected.desk r (unruled f).0, not_of e cmd.next.desk r (unruled f).1));
      }

-- ---- a step of a desk under the rules

module _ (ruled : ℕ → Bool) (y : Desks) (j : Joint ruled y) (d : ℕ) (r : ruled d ≡ true) where
  abbrev before : Cards
  before = decode V1 y.image

  abbrev mine : Kept d (alone d y)
  mine = kept_alone ruled y j d r

  -- Its own part is as it makes it; another desk's is as that one meets it.
  pub by_desk_lem : (P : ℕ → Part → Type 0) (a : Part) (f : ℕ → Part) → P d a → ((e : ℕ) → eqb e d ≡ false → P e (f e)) → (e : ℕ) → P e (cond (eqb e d) a (f e))
  by_desk_lem P a f p q e = go (cases (eqb e d))
    where
      go : (eqb e d ≡ true) ⊎ (eqb e d ≡ false) → P e (cond (eqb e d) a (f e))
      go (inl x) = subst (λ (t : Bool). P e (cond t a (f e))) (sym x) (subst (λ (n : ℕ). P n a) (sym (eqb-true e d x)) p)
      go (inr x) = subst (λ (t : Bool). P e (cond t a (f e))) (sym x) (q e x)

  -- It sends an order, or goes down: no log changes, and nothing of the store.
  joint_order : (s : Sent) (line from : ℕ) → SentBytes s → lawful d (seen_by d y) (order s line from) ≡ true → Joint ruled (after_desk_step y (by_desk d (order s line from)))
  unfolding after_desk_step after_step
  joint_order s line from b h =
      record {
        nobody = j.nobody;
        same = j.same;
        good = j.good;
        texts = λ k.
            stand_as ruled (λ (e : ℕ). (y.part e).log) (λ (e : ℕ). (cond (eqb e d) (part_of (after_step d (seen_by d y) (order s line from))) (y.part e)).log) (y.meant k) (y.meant k) k (at before k)
            (by_desk_lem (λ (e : ℕ) (p : Part). (y.part e).log ≡ p.log) (part_of (after_step d (seen_by d y) (order s line from))) y.part refl (λ e x. refl)) (λ l. refl) (j.texts k);
        side = λ e.
            by_desk_lem (λ (n : ℕ) (p : Part). ruled n ≡ true → Side n y.image p) (part_of (after_step d (seen_by d y) (order s line from))) y.part
            (λ q. side_of_lem d (after_step d (alone d y) (order s line from)) (kept_order d (alone d y) mine s line from b h)) (λ n x q. j.side n q) e;
      }

  joint_crash : Joint ruled (after_desk_step y (by_desk d crash))
  unfolding after_desk_step after_step
  joint_crash =
      record {
        nobody = j.nobody;
        same = j.same;
        good = j.good;
        texts = λ k.
            stand_as ruled (λ (e : ℕ). (y.part e).log) (λ (e : ℕ). (cond (eqb e d) (part_of (after_step d (seen_by d y) crash)) (y.part e)).log) (y.meant k) (y.meant k) k (at before k)
            (by_desk_lem (λ (e : ℕ) (p : Part). (y.part e).log ≡ p.log) (part_of (after_step d (seen_by d y) crash)) y.part refl (λ e x. refl)) (λ l. refl) (j.texts k);
        side = λ e.
            by_desk_lem (λ (n : ℕ) (p : Part). ruled n ≡ true → Side n y.image p) (part_of (after_step d (seen_by d y) crash)) y.part
            (λ q. side_of_lem d (after_step d (alone d y) crash) (kept_crash d (alone d y) mine)) (λ n x q. j.side n q) e;
      }

  -- It appends a record: the texts of the cards that bear its mark go by its log, the others by theirs.
  module _ (budget : ℕ) (q : LogRecord) (qb : Bytes q.body) (h : lawful d (seen_by d y) (append budget q) ≡ true) where
    abbrev number : ℕ
    number = append_number budget (y.part d).log q

    abbrev now : ℕ → Part
    now e = cond (eqb e d) (part_of (after_step d (seen_by d y) (append budget q))) (y.part e)

    abbrev mean : ℕ → Language → List ℕ
    mean = meant_logged number (records (y.part d).log) q y.meant

    after : Kept d (after_step d (alone d y) (append budget q))
    after = kept_append d (alone d y) mine budget q qb h

    log_here : (now d).log ≡ appended budget (y.part d).log q
    unfolding after_step
    log_here = ap (λ (t : Bool). (cond t (part_of (after_step d (seen_by d y) (append budget q))) (y.part d)).log) (eq-eqb d d refl)

    log_there : (e : ℕ) → eqb e d ≡ false → (y.part e).log ≡ (now e).log
    log_there e x = sym (ap (λ (t : Bool). (cond t (part_of (after_step d (seen_by d y) (append budget q))) (y.part e)).log) x)

    own_stands : (k : ℕ) → Stands d (records (appended budget (y.part d).log q)) (meant_logged number (records (y.part d).log) q (alone d y).meant k) k (at before k)
    unfolding after_step
    own_stands k = stands_of d (after_step d (alone d y) (append budget q)) after k

    stand_append : (k : ℕ) → Stand ruled (λ (e : ℕ). (now e).log) (mean k) k (at before k)
    stand_append k = go (cases (bears d (at before k)))
      where
        go : (bears d (at before k) ≡ true) ⊎ (bears d (at before k) ≡ false) → Stand ruled (λ (e : ℕ). (now e).log) (mean k) k (at before k)
        go (inl b) =
            let here : (at before k).mark.desk ≡ d = eqb-true (at before k).mark.desk d b in
            record {
              plain = λ w l. absurd (never_both r (subst (λ (n : ℕ). ruled n ≡ false) here w));
              marked = λ w l.
                  subst (λ (n : ℕ). rewritten (records (now n).log) l k (length (records (now n).log)) (text l (at before k)) ≡ mean k l) (sym here)
                  (subst (λ (g : List ℕ). rewritten (records g) l k (length (records g)) (text l (at before k)) ≡ mean k l) (sym log_here)
                  ((own_stands k).marked b l
                  ∙ ap (λ (t : Bool). meant_logged number (records (y.part d).log) q (λ i m. cond t (y.meant i m) (text m (at before i))) k l) b));
            }
        go (inr b) =
            let away : eqb (at before k).mark.desk d ≡ false = b in
            record {
              plain = λ w l. (j.texts k).plain w l ∙ sym (unborne_meant d (alone d y) mine budget q qb h k b y.meant l);
              marked = λ w l.
                  subst (λ (g : List ℕ). rewritten (records g) l k (length (records g)) (text l (at before k)) ≡ mean k l) (log_there (at before k).mark.desk away)
                  ((j.texts k).marked w l ∙ sym (unborne_meant d (alone d y) mine budget q qb h k b y.meant l));
            }

    joint_append : Joint ruled (after_desk_step y (by_desk d (append budget q)))
    unfolding after_desk_step after_step
    joint_append =
        record {
          nobody = j.nobody;
          same = j.same;
          good = j.good;
          texts = stand_append;
          side = λ e.
              by_desk_lem (λ (n : ℕ) (p : Part). ruled n ≡ true → Side n y.image p) (part_of (after_step d (seen_by d y) (append budget q))) y.part
              (λ x. side_of_lem d (after_step d (alone d y) (append budget q)) after) (λ n x w. j.side n w) e;
        }

  -- A mark of the desk, or none, is what the desk alone sees.
  stand_own : (k : ℕ) (card : Card) (m : Language → List ℕ) → (card.mark.desk ≡ 0) ⊎ (card.mark.desk ≡ d) → Stands d
      (records (y.part d).log) m k card → Stand ruled (λ (e : ℕ). (y.part e).log) m k card
  stand_own k card m (inl z) w =
      let free : ruled card.mark.desk ≡ false = subst (λ (n : ℕ). ruled n ≡ false) (sym z) j.nobody in
      record {
        plain = λ x l. w.plain (ne_eqb card.mark.desk d (λ f. never_both r (subst (λ (n : ℕ). ruled n ≡ false) f free))) l;
        marked = λ x l. absurd (never_both x free);
      }
  stand_own k card m (inr z) w =
      record {
        plain = λ x l. absurd (never_both r (subst (λ (n : ℕ). ruled n ≡ false) z x));
        marked = λ x l.
            subst (λ (n : ℕ). rewritten (records (y.part n).log) l k (length (records (y.part n).log)) (text l card) ≡ m l) (sym z)
            (w.marked (eq-eqb card.mark.desk d z) l);
      }

  -- What is meant of a card with such a mark.
  meant_own : (k : ℕ) → ((at before k).mark.desk ≡ 0) ⊎ ((at before k).mark.desk ≡ d) → (l : Language) → (alone d y).meant k l ≡ y.meant k l
  meant_own k (inr z) l = ap (λ (t : Bool). cond t (y.meant k l) (text l (at before k))) (eq-eqb (at before k).mark.desk d z)
  meant_own k (inl z) l =
      let free : ruled (at before k).mark.desk ≡ false = subst (λ (n : ℕ). ruled n ≡ false) (sym z) j.nobody in
      ap (λ (t : Bool). cond t (y.meant k l) (text l (at before k))) (ne_eqb (at before k).mark.desk d (λ f. never_both r (subst (λ (n : ℕ). ruled n ≡ false) f free)))
      ∙ (j.texts k).plain free l

  -- Its log begins again: the cards that bear its mark go by the new log, the others as before.
  module _ (h : lawful d (seen_by d y) renew ≡ true) where
    abbrev part_renewed : ℕ → Part
    part_renewed e = cond (eqb e d) (part_of (after_step d (seen_by d y) renew)) (y.part e)

    own_renewed : Kept d (after_step d (alone d y) renew)
    own_renewed = kept_renew d (alone d y) mine h

    renewed_here : (part_renewed d).log ≡ renewed (y.part d).log
    unfolding after_step
    renewed_here = ap (λ (t : Bool). (cond t (part_of (after_step d (seen_by d y) renew)) (y.part d)).log) (eq-eqb d d refl)

    renewed_there : (e : ℕ) → eqb e d ≡ false → (y.part e).log ≡ (part_renewed e).log
    renewed_there e x = sym (ap (λ (t : Bool). (cond t (part_of (after_step d (seen_by d y) renew)) (y.part e)).log) x)

    stands_renewed : (k : ℕ) → Stands d (records (renewed (y.part d).log)) ((alone d y).meant k) k (at before k)
    unfolding after_step
    stands_renewed k = stands_of d (after_step d (alone d y) renew) own_renewed k

    stand_renew : (k : ℕ) → Stand ruled (λ (e : ℕ). (part_renewed e).log) (y.meant k) k (at before k)
    stand_renew k = go (cases (bears d (at before k)))
      where
        go : (bears d (at before k) ≡ true) ⊎ (bears d (at before k) ≡ false) → Stand ruled (λ (e : ℕ). (part_renewed e).log) (y.meant k) k (at before k)
        go (inl b) =
            let here : (at before k).mark.desk ≡ d = eqb-true (at before k).mark.desk d b in
            record {
              plain = λ w l. absurd (never_both r (subst (λ (n : ℕ). ruled n ≡ false) here w));
              marked = λ w l.
                  subst (λ (n : ℕ). rewritten (records (part_renewed n).log) l k (length (records (part_renewed n).log)) (text l (at before k)) ≡ y.meant k l) (sym here)
                  (subst (λ (g : List ℕ). rewritten (records g) l k (length (records g)) (text l (at before k)) ≡ y.meant k l) (sym renewed_here)
                  ((stands_renewed k).marked b l ∙ meant_own k (inr here) l));
            }
        go (inr b) =
            record {
              plain = λ w l. (j.texts k).plain w l;
              marked = λ w l.
                  subst (λ (g : List ℕ). rewritten (records g) l k (length (records g)) (text l (at before k)) ≡ y.meant k l) (renewed_there (at before k).mark.desk b) ((j.texts k).marked w l);
            }

    joint_renew : Joint ruled (after_desk_step y (by_desk d renew))
    unfolding after_desk_step after_step
    joint_renew =
        record {
          nobody = j.nobody;
          same = j.same;
          good = j.good;
          texts = stand_renew;
          side = λ e.
              by_desk_lem (λ (n : ℕ) (p : Part). ruled n ≡ true → Side n y.image p) (part_of (after_step d (seen_by d y) renew)) y.part
              (λ x. side_of_lem d (after_step d (alone d y) renew) own_renewed) (λ n x w. j.side n w) e;
        }

  -- It recovers: the cards that are written bear its mark, and their x rises.
  module _ (pairs : Pairs) (lines : ℕ) (fp : FitsPairs pairs) (h : lawful d (seen_by d y) (recover pairs lines) ≡ true) where
    abbrev after_recover : OneDesk
    after_recover = after_step d (alone d y) (recover pairs lines)

    abbrev left : List ℕ
    left = (recovering pairs (records (y.part d).log) y.image lines).image

    own_recovered : Kept d after_recover
    own_recovered = kept_recover d (alone d y) mine pairs lines fp h

    image_left_lem : after_recover.image ≡ left
    unfolding after_step
    image_left_lem = refl

    -- Each card, before and after.
    pub raised_here : (k : ℕ) → Raised d (at before k) (at (decode V1 left) k)
    raised_here k = raised d (alone d y) mine pairs lines fp h k

    own_left : (k : ℕ) → Stands d (records (y.part d).log) ((alone d y).meant k) k (at (decode V1 left) k)
    unfolding after_step
    own_left k = stands_of d after_recover own_recovered k

    stand_recover : (k : ℕ) → Stand ruled (λ (e : ℕ). (y.part e).log) (y.meant k) k (at (decode V1 left) k)
    stand_recover k = go (raised_here k)
      where
        go : Raised d (at before k) (at (decode V1 left) k) → Stand ruled (λ (e : ℕ). (y.part e).log) (y.meant k) k (at (decode V1 left) k)
        go (stays e) = subst (Stand ruled (λ (e : ℕ). (y.part e).log) (y.meant k) k) (sym e) (j.texts k)
        go (rises up b m) =
            let was : (at before k).mark.desk ≡ d = eqb-true (at before k).mark.desk d b in
            let is : (at (decode V1 left) k).mark.desk ≡ d = ap (λ (q : Mark). q.desk) m ∙ was in
            stand_as ruled (λ (e : ℕ). (y.part e).log) (λ (e : ℕ). (y.part e).log) ((alone d y).meant k) (y.meant k) k (at (decode V1 left) k) (λ n. refl) (meant_own k (inr was))
            (stand_own k (at (decode V1 left) k) ((alone d y).meant k) (inr is) (own_left k))

    -- To another desk a card that is written was never its own.
    side_there : (e : ℕ) → eqb e d ≡ false → Side e y.image (y.part e) → Side e left (y.part e)
    side_there e x w =
        record {
          good_log_lem = w.good_log_lem;
          log_bytes = w.log_bytes;
          ordered = w.ordered;
          sent =
              all_map (λ (o : Order). Safe e (records (y.part e).log) (card_for o) (at before (card_for o)) o)
              (λ (o : Order). Safe e (records (y.part e).log) (card_for o) (at (decode V1 left) (card_for o)) o) (y.part e).orders
              (λ o q. safe_there o (raised_here (card_for o)) q) w.sent;
          told =
              all_map (λ (v : Shown). Told e (records (y.part e).log) v.card (at before v.card) v)
              (λ (v : Shown). Told e (records (y.part e).log) v.card (at (decode V1 left) v.card) v) (y.part e).shown
              (λ v q. told_there v (raised_here v.card) q) w.told;
          knows = λ k. knows_there k (raised_here k) ((y.part e).holds k) (w.knows k);
        }
      where
        ers : List LogRecord
        ers = records (y.part e).log

        away : (k : ℕ) (card : Card) → bears d card ≡ true → bears e card ≡ false
        away k card b = ne_eqb card.mark.desk e (λ f. eqb-false e d x (sym f ∙ eqb-true card.mark.desk d b))

        safe_there : (o : Order) → Raised d (at before (card_for o)) (at (decode V1 left) (card_for o)) → Safe e (records (y.part e).log) (card_for o)
            (at before (card_for o)) o → Safe e (records (y.part e).log) (card_for o) (at (decode V1 left) (card_for o)) o
        safe_there o (stays s) q = subst (λ (c : Card). Safe e (records (y.part e).log) (card_for o) c o) (sym s) q
        safe_there o (rises up b m) q = safe_raised e (records (y.part e).log) (card_for o) (at before (card_for o)) (at (decode V1 left) (card_for o)) up o q

        told_there : (v : Shown) → Raised d (at before v.card) (at (decode V1 left) v.card) → Told e (records (y.part e).log) v.card
            (at before v.card) v → Told e (records (y.part e).log) v.card (at (decode V1 left) v.card) v
        told_there v (stays s) q = subst (λ (c : Card). Told e (records (y.part e).log) v.card c v) (sym s) q
        told_there v (rises up b m) q = told_raised e (records (y.part e).log) v.card (at before v.card) (at (decode V1 left) v.card) up v q

        knows_there : (k : ℕ) → Raised d (at before k) (at (decode V1 left) k) → (g : Holding) → Knows e (records (y.part e).log)
            (y.part e).orders (y.part e).shown k (at before k) g → Knows e (records (y.part e).log) (y.part e).orders (y.part e).shown k
            (at (decode V1 left) k) g
        knows_there k (stays s) g q = subst (λ (c : Card). Knows e (records (y.part e).log) (y.part e).orders (y.part e).shown k c g) (sym s) q
        knows_there k (rises up b m) unknown q = tt
        knows_there k (rises up b m) held q = absurd (never_both q.bearing (away k (at before k) b))
        knows_there k (rises up b m) free q = inl (ap (λ (c : Mark). eqb c.desk e) m ∙ away k (at before k) b)

    joint_recover : Joint ruled (after_desk_step y (by_desk d (recover pairs lines)))
    unfolding after_desk_step after_step
    joint_recover =
        record {
          nobody = j.nobody;
          same = image_of_lem d after_recover own_recovered;
          good = good_of d after_recover own_recovered;
          texts = λ k.
              stand_as ruled (λ (e : ℕ). (y.part e).log)
              (λ (e : ℕ). (cond (eqb e d) (part_of (after_step d (seen_by d y) (recover pairs lines))) (y.part e)).log) (y.meant k) (y.meant k) k
              (at (decode V1 left) k)
              (by_desk_lem (λ (e : ℕ) (p : Part). (y.part e).log ≡ p.log) (part_of (after_step d (seen_by d y) (recover pairs lines))) y.part refl (λ e x. refl)) (λ l. refl) (stand_recover k);
          side = λ e.
              by_desk_lem (λ (n : ℕ) (p : Part). ruled n ≡ true → Side n left p) (part_of (after_step d (seen_by d y) (recover pairs lines))) y.part
              (λ x. side_of_lem d after_recover own_recovered)
              (λ n x w. side_there n x (j.side n w)) e;
        }

  -- One of its orders arrives.
  module _ (i : ℕ) (h : lawful d (seen_by d y) (arrive i) ≡ true) where
    abbrev o : Order
    o = get_or (y.part d).orders i no_order

    abbrev s : Sent
    s = o.sent

    abbrev cmd_o : Command
    cmd_o = command_in s

    abbrev got_o : Outcome
    got_o = serve V1 y.image s.command s.lent

    pub safe : Safe d (records (y.part d).log) (card_for o) (at before (card_for o)) o
    safe = all_at (λ (p : Order). Safe d (records (y.part d).log) (card_for p) (at before (card_for p)) p) (y.part d).orders i no_order (ltb-true i (length (y.part d).orders) h) (j.side d r).sent

    -- Its marks are its own, or none.
    pub none_of : (n : ℕ) → (n ≡ 0) ⊎ (n ≡ d) → (e : ℕ) → ruled e ≡ true → eqb e d ≡ false → eqb n e ≡ false
    none_of n (inl z) e w x = ne_eqb n e (λ f. never_both w (subst (λ (m : ℕ). ruled m ≡ false) (sym z ∙ f) j.nobody))
    none_of n (inr z) e w x = ne_eqb n e (λ f. eqb-false e d x (sym f ∙ z))

    pub ends : ((cmd_o.expected.desk ≡ 0) ⊎ (cmd_o.expected.desk ≡ d)) × ((cmd_o.next.desk ≡ 0) ⊎ (cmd_o.next.desk ≡ d))
    ends = go safe.fine
      where
        go : Fine d (records (y.part d).log) (card_for o) (at before (card_for o)) o → ((cmd_o.expected.desk ≡ 0) ⊎ (cmd_o.expected.desk ≡ d)) × ((cmd_o.next.desk ≡ 0) ⊎ (cmd_o.next.desk ≡ d))
        go (preparing p f) = (
          inl (eqb-true cmd_o.expected.desk 0
              (and_right (not (is_write cmd_o)) (eqb cmd_o.expected.desk 0)
              (and_left (not (is_write cmd_o) && eqb cmd_o.expected.desk 0) (leaves_mark d cmd_o) p))),
          inr (eqb-true cmd_o.next.desk d (and_right (not (is_write cmd_o) && eqb cmd_o.expected.desk 0) (leaves_mark d cmd_o) p)),
        )
        go (releasing p f) = (
          inr (eqb-true cmd_o.expected.desk d (and_right (not (is_write cmd_o)) (expects_mark d cmd_o) (and_left (not (is_write cmd_o) && expects_mark d cmd_o) (eqb cmd_o.next.desk 0) p))),
          inl (eqb-true cmd_o.next.desk 0 (and_right (not (is_write cmd_o) && expects_mark d cmd_o) (eqb cmd_o.next.desk 0) p)),
        )
        go (writing p f) = (
          inr (eqb-true cmd_o.expected.desk d (and_right (is_write cmd_o) (expects_mark d cmd_o) (and_left (is_write cmd_o && expects_mark d cmd_o) (leaves_mark d cmd_o) p))),
          inr (eqb-true cmd_o.next.desk d (and_right (is_write cmd_o && expects_mark d cmd_o) (leaves_mark d cmd_o) p)),
        )

    landed : Kept d (after_step d (alone d y) (arrive i))
    landed = kept_arrive d (alone d y) mine i h

    own_landed : (k : ℕ) → Stands d (records (y.part d).log) ((alone d y).meant k) k (at (decode V1 got_o.image) k)
    unfolding after_step
    own_landed k = stands_of d (after_step d (alone d y) (arrive i)) landed k

    stand_arrive : (k : ℕ) → Stand ruled (λ (e : ℕ). (y.part e).log) (y.meant k) k (at (decode V1 got_o.image) k)
    stand_arrive k = go (number_on V1 before s) refl
      where
        same_cards : decode V1 got_o.image ≡ then before s
        same_cards = decode_then ruled y j s safe.bytes

        go : (n : ℕ) → number_on V1 before s ≡ n → Stand ruled (λ (e : ℕ). (y.part e).log) (y.meant k) k (at (decode V1 got_o.image) k)
        go (suc n) e = subst (λ (m : Cards). Stand ruled (λ (e : ℕ). (y.part e).log) (y.meant k) k (at m k)) (sym (same_cards ∙ kept before s j.good n e)) (j.texts k)
        go zero e = by (cases (eqb cmd_o.card k))
          where
            t : Taken before s
            t = taken before s j.good e

            by : (eqb cmd_o.card k ≡ true) ⊎ (eqb cmd_o.card k ≡ false) → Stand ruled (λ (e : ℕ). (y.part e).log) (y.meant k) k (at (decode V1 got_o.image) k)
            by (inr x) =
                subst (Stand ruled (λ (e : ℕ). (y.part e).log) (y.meant k) k) (sym (ap (λ (m : Cards). at m k) same_cards ∙ t.others k x)) (j.texts k)
            by (inl x) =
                let here : cmd_o.card ≡ k = eqb-true cmd_o.card k x in
                let first : ((at before k).mark.desk ≡ 0) ⊎ ((at before k).mark.desk ≡ d) =
                subst (λ (n : ℕ). ((at before n).mark.desk ≡ 0) ⊎ ((at before n).mark.desk ≡ d)) here (subst (λ (n : ℕ). (n ≡ 0) ⊎ (n ≡ d)) t.fits ends.0) in
                let last : ((at (then before s) k).mark.desk ≡ 0) ⊎ ((at (then before s) k).mark.desk ≡ d) =
                subst (λ (n : ℕ). ((at (then before s) n).mark.desk ≡ 0) ⊎ ((at (then before s) n).mark.desk ≡ d)) here
                (subst (λ (m : Mark). (m.desk ≡ 0) ⊎ (m.desk ≡ d)) (sym t.mark) ends.1) in
                let last-now : ((at (decode V1 got_o.image) k).mark.desk ≡ 0) ⊎ ((at (decode V1 got_o.image) k).mark.desk ≡ d) =
                subst (λ (m : Cards). ((at m k).mark.desk ≡ 0) ⊎ ((at m k).mark.desk ≡ d)) (sym same_cards) last in
                stand_as ruled (λ (e : ℕ). (y.part e).log) (λ (e : ℕ). (y.part e).log) ((alone d y).meant k) (y.meant k) k (at (decode V1 got_o.image) k) (λ n. refl) (meant_own k first)
                (stand_own k (at (decode V1 got_o.image) k) ((alone d y).meant k) last-now (own_landed k))

    joint_arrive : Joint ruled (after_desk_step y (by_desk d (arrive i)))
    unfolding after_desk_step after_step
    joint_arrive =
        record {
          nobody = j.nobody;
          same = same_then ruled y j s safe.bytes;
          good = good_out ruled y j s safe.bytes;
          texts = λ k.
              stand_as ruled (λ (e : ℕ). (y.part e).log)
              (λ (e : ℕ). (cond (eqb e d) (part_of (after_step d (seen_by d y) (arrive i))) (part_of (after_step e (seen_by e y) (other s)))).log)
              (y.meant k) (y.meant k) k (at (decode V1 got_o.image) k)
              (by_desk_lem (λ (e : ℕ) (p : Part). (y.part e).log ≡ p.log) (part_of (after_step d (seen_by d y) (arrive i)))
              (λ e. part_of (after_step e (seen_by e y) (other s))) refl (λ e x. refl)) (λ l. refl) (stand_arrive k);
          side = λ e.
              by_desk_lem (λ (n : ℕ) (p : Part). ruled n ≡ true → Side n got_o.image p) (part_of (after_step d (seen_by d y) (arrive i))) (λ n. part_of (after_step n (seen_by n y) (other s)))
              (λ x. side_of_lem d (after_step d (alone d y) (arrive i)) landed)
              (λ n x w. side_other ruled y j s safe.bytes n w (λ f. (none_of cmd_o.expected.desk ends.0 n w x, none_of cmd_o.next.desk ends.1 n w x))) e;
        }

-- ---- a run

joint_own : (ruled : ℕ → Bool) (y : Desks) (j : Joint ruled y) (d : ℕ) (m : Step) → StepBytes m → ruled d ≡ true → own_step m ≡ true → lawful d
    (seen_by d y) m ≡ true → Joint ruled (after_desk_step y (by_desk d m))
joint_own ruled y j d (other s) b r w h = absurd (never_both refl (sym w))
joint_own ruled y j d (order s line from) b r w h = joint_order ruled y j d r s line from b h
joint_own ruled y j d (arrive i) b r w h = joint_arrive ruled y j d r i h
joint_own ruled y j d (append budget q) b r w h = joint_append ruled y j d r budget q b h
joint_own ruled y j d crash b r w h = joint_crash ruled y j d r
joint_own ruled y j d (recover pairs lines) b r w h = joint_recover ruled y j d r pairs lines b h
joint_own ruled y j d renew b r w h = joint_renew ruled y j d r h

pub joint_next : (ruled : ℕ → Bool) (y : Desks) (m : DeskStep) → Joint ruled y → DeskStepBytes m → lawful_desk_step ruled y m ≡ true → Joint ruled (after_desk_step y m)
joint_next ruled y (outside s) j b h = joint_outside ruled y j s b h
joint_next ruled y (by_desk d m) j b h =
    let two = and_left (ruled d && own_step m) (lawful d (seen_by d y) m) h in
    joint_own ruled y j d m b (and_left (ruled d) (own_step m) two) (and_right (ruled d) (own_step m) two) (and_right (ruled d && own_step m) (lawful d (seen_by d y) m) h)

joint_run : (ruled : ℕ → Bool) (y : Desks) (steps : List DeskStep) → Joint ruled y → AllDeskSteps steps → lawful_desk_steps ruled y steps ≡ true → Joint ruled (after_desk_steps y steps)
unfolding foldl every_along
joint_run ruled y [] j b h = j
joint_run ruled y (m ∷ steps) j b h =
    joint_run ruled (after_desk_step y m) steps
    (joint_next ruled y m j b.0 (and_left (lawful_desk_step ruled y m) (lawful_desk_steps ruled (after_desk_step y m) steps) h))
    b.1
    (and_right (lawful_desk_step ruled y m) (lawful_desk_steps ruled (after_desk_step y m) steps) h)

pub joint_opening : (ruled : ℕ → Bool) (y : Desks) (r : DesksMoment ruled y) → Joint ruled (desks_opening r.image r.logs)
joint_opening ruled y r =
    let back = sound_reads_back V1 r.image r.store.bytes (to_T r.store.sounds) in
    record {
      nobody = r.store.nobody;
      same = back.same;
      good = back.good;
      texts = λ k. record { plain = λ b l. refl; marked = λ b l. absurd (never_both b (r.store.unmarked k)) };
      side = λ d q.
          record {
            good_log_lem = (r.blank d).good;
            log_bytes = (r.blank d).bytes;
            ordered = subst Ordered (sym (r.blank d).empty) ordered_none;
            sent = tt;
            told = tt;
            knows = λ k. tt;
          };
    }

pub joint_always : (ruled : ℕ → Bool) (y : Desks) → DesksMoment ruled y → Joint ruled y
joint_always ruled y r = subst (Joint ruled) r.led (joint_run ruled (desks_opening r.image r.logs) r.steps (joint_opening ruled y r) r.sent r.rules)

-- ---- the claims

pub desks_commit_at_once : DesksCommitAtOnce
desks_commit_at_once ruled y r =
    let j = joint_always ruled y r in
    record {
      sounds = ap (sound V1) (sym j.same) ∙ from_T (sound V1 (encode V1 (decode V1 y.image))) (good_encodes V1 (decode V1 y.image) j.good).sounds;
      good = λ d q. (j.side d q).good_log_lem;
      plain = λ k l b. (j.texts k).plain b l;
      marked = λ k l b. (j.texts k).marked b l;
    }

pub desks_reads_meant : DesksReadsMeant
desks_reads_meant ruled y r s l z q e =
    let j = joint_always ruled y r in
    let cs = decode V1 y.image in
    let zero-now = sym (number_then ruled y j s) ∙ z in
    let t = taken cs s j.good zero-now in
    ap (λ (o : Outcome). take o.answer.length o.reply) (served ruled y j s)
    ∙ shown_text cs s j.good l zero-now q
    ∙ (j.texts (command_in s).card).plain (subst (λ (n : ℕ). ruled n ≡ false) t.fits e) l

pub desks_meant_only_then : DesksMeantOnlyThen
unfolding after_desk_step
desks_meant_only_then y =
    record {
      refused = λ s n e. (meant_only_then 0 (seen_by 0 y)).refused s n e;
      unwritten = λ s e. (meant_only_then 0 (seen_by 0 y)).unwritten s e;
      ordered = λ d s line from. (meant_only_then d (seen_by d y)).ordered s line from;
      arrived = λ d i. (meant_only_then d (seen_by d y)).arrived i;
      uncounted = λ d budget r n e. (meant_only_then d (seen_by d y)).uncounted budget r n e;
      uncommitted = λ d budget r e. (meant_only_then d (seen_by d y)).uncommitted budget r e;
      crashed = λ d. (meant_only_then d (seen_by d y)).crashed;
      recovered = λ d pairs lines. (meant_only_then d (seen_by d y)).recovered pairs lines;
      renews = λ d. (meant_only_then d (seen_by d y)).renews;
    }
