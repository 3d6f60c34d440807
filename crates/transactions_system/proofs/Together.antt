-- A run by both sections is a run of each over one store, and proposals keep the rule of orders. Assumes nothing.
use Prim.Native.Nat.{ℕ, zero, suc, ◌<◌}
use native.Mathlib.Omega.{arith}
use mathlib.Core.Path.{◌≡◌, refl, sym, ap, ◌∙◌, subst}
use mathlib.Core.List.{List, [], ◌∷◌, ◌++◌, reverse, reverse-append, reverse-reverse}
use mathlib.Core.Bool.{Bool, true, not, ◌&&◌}
use borrow.Author.Tests.{eq-eqb, leb-true, ltb-true, lt-ltb}
use lib.ListN.{length, get_or}
use lib.Dec.{eqb, leb}
use Rattle.lists.specs.Parts.{every}
use Rattle.formats.specs.Format.{Format, V1}
use Rattle.lists.specs.Table.{settled}
use Rattle.lists.proofs.Tests.{never_both, and_left, and_right, and_in, or_right}
use Rattle.lists.specs.Runs.{foldl, every_along}
use Rattle.lists.proofs.Runs.{foldl_append}
use Rattle.stamps.specs.Stamp.{exclusive}
use Rattle.stamps.specs.declared.Pair.{Pair}
use Rattle.commands.specs.Command.{verifier, update}
use Rattle.commands.specs.Bytes.{formed}
use Rattle.image.specs.Image.{fresh, encode, decode}
use Rattle.image_claims.proofs.Claims.{good_encodes}
use Rattle.store_model.specs.Serve.{serve}
use Rattle.store_model.specs.Words.{Sent, image_after}
use Rattle.store_model.specs.Claims.{SentBytes, AllBytes}
use Rattle.store_model.specs.Meaning.{Among}
use Rattle.store_model.proofs.Meaning.{among_here, any_means}
use Rattle.store_model.proofs.Demand.{bytes_reverse}
use Rattle.redo_log.specs.Log.{LogRecord, records}
use Rattle.redo_recovery_model.specs.Recovery.{Pairs, FitsPairs, recovering}
use Rattle.redo_recovery_model.proofs.Steps.{stands}
use Rattle.redo_recovery_model.proofs.Sending.{fits_log, all_bytes, after_append}
use Rattle.desk_proposals.specs.declared.Known.{Known}
use Rattle.desk_proposals.specs.Propose.{learnt, proposed}
use Rattle.desk_proposal_claims.proofs.Claims.{passes_learnt}
use Rattle.desk_system.specs.System.{
  System,
  Made,
  Move,
  begin,
  propose,
  at_queue,
  lose,
  send,
  recover_with,
  convert,
  learn,
  append_to,
  renew_log,
  opening,
  same_pair,
  is_made,
  sends_made,
  with_made,
  knows,
  now_knows,
  step_to,
  system_after,
  Fits,
  AllFit,
}
use Rattle.desk_system.specs.Claims.{ByRules}
use Rattle.desk_system.proofs.Claims.{made_run, premise_kept}
use Rattle.transactions.specs.Claims.{StepBytes}
use Rattle.transactions.specs.System.{Order, Step, rewritable, other, order, arrive, append, crash, recover, renew, no_order, command_in, lawful, after_step}
use Rattle.transactions.specs.Desks.{
  Desks,
  DeskStep,
  outside,
  by_desk,
  own_step,
  seen_by,
  desks_opening,
  lawful_desk_step,
  after_desk_step,
  after_desk_steps,
  lawful_desk_steps,
  DeskStepBytes,
  AllDeskSteps,
  DesksMoment,
}
use Rattle.transactions.proofs.Serving.{at}
use Rattle.transactions.proofs.Kept.{card_for, Safe, all_at}
use Rattle.transactions.proofs.Claims.{fresh_clean}
use Rattle.transactions.proofs.Joint.{Joint, joint_next, joint_opening, desks_commit_at_once}
use Rattle.transactions_system.specs.Together.{Deal, beside, along, send_each, moves_of, moves_in, steps_in, sends_none, sends_along, BothAreOne, Proposes, MayOrder, ProposalsOrder}

-- ---- moves one behind the other

fit_both : (a b : List Move) → AllFit a → AllFit b → AllFit (a ++ b)
fit_both [] b x y = y
fit_both (m ∷ a) b x y = (x.0, fit_both a b x.1 y)

fit_each : (l : List Sent) → AllBytes l → AllFit (send_each l)
fit_each [] b = tt
fit_each (s ∷ l) b = (b.0, fit_each l b.1)

fit_none : (m : Move) → sends_none m ≡ true → Fits m
fit_none (send s) e = absurd (never_both refl (sym e))
fit_none (recover_with pairs log unsent) e = absurd (never_both refl (sym e))
fit_none (convert lent) e = absurd (never_both refl (sym e))
fit_none (begin who) e = tt
fit_none (propose who card mode) e = tt
fit_none (at_queue card manager lent r) e = tt
fit_none (lose card manager places) e = tt
fit_none (learn who card pair) e = tt
fit_none (append_to desk budget r) e = absurd (never_both refl (sym e))
fit_none (renew_log desk) e = absurd (never_both refl (sym e))

-- ---- the store among the desks is of version 1, with these bytes

record Has (image : List ℕ) (y : System) : Type 0 where
  version : y.store.version ≡ V1
  bytes : y.store.image ≡ image

has_send : (image : List ℕ) (y : System) (s : Sent) → Has image y → Has (serve V1 image s.command s.lent).image (step_to y (send s))
unfolding step_to
has_send image y s h =
    record {
      version = h.version;
      bytes =
          ap (λ (v : Format). (serve v y.store.image s.command s.lent).image) h.version
          ∙ ap (λ (i : List ℕ). (serve V1 i s.command s.lent).image) h.bytes;
    }

has_each : (l : List Sent) (image : List ℕ) (y : System) → Has image y → Has (image_after V1 image (reverse l)) (system_after y (send_each l))
unfolding foldl image_after
has_each [] image y h = h
has_each (s ∷ l) image y h =
    subst (λ (i : List ℕ). Has i (system_after (step_to y (send s)) (send_each l)))
    (sym (ap (image_after V1 image) (reverse-append (s ∷ []) l) ∙ after_append image (reverse l) (s ∷ [])))
    (has_each l (serve V1 image s.command s.lent).image (step_to y (send s)) (has_send image y s h))

has_none : (image : List ℕ) (y : System) (m : Move) → sends_none m ≡ true → Has image y → Has image (step_to y m)
unfolding step_to
has_none image y (send s) e h = absurd (never_both refl (sym e))
has_none image y (recover_with pairs log unsent) e h = absurd (never_both refl (sym e))
has_none image y (convert lent) e h = absurd (never_both refl (sym e))
has_none image y (begin who) e h = record { version = h.version; bytes = h.bytes }
has_none image y (propose who card mode) e h = go (proposed (knows y who card) mode).number
  where
    next : System
    next = with_made (record { card = card; mode = mode; pair = (proposed (knows y who card) mode).pair }) (now_knows who card (proposed (knows y who card) mode).known.pair y)

    go : (number : ℕ) → Has image (settled number next y)
    go zero = record { version = h.version; bytes = h.bytes }
    go (suc n) = h
has_none image y (at_queue card manager lent r) e h = record { version = h.version; bytes = h.bytes }
has_none image y (lose card manager places) e h = record { version = h.version; bytes = h.bytes }
has_none image y (learn who card pair) e h = record { version = h.version; bytes = h.bytes }
has_none image y (append_to desk budget r) e h = absurd (never_both refl (sym e))
has_none image y (renew_log desk) e h = absurd (never_both refl (sym e))

-- ---- one step: what it sends is bytes, and leaves the image that the step leaves

module _ (ruled : ℕ → Bool) (z : Desks) (j : Joint ruled z) where
  abbrev trace_of : ℕ → List LogRecord
  trace_of d = records (z.part d).log

  recover_bytes : (d : ℕ) (pairs : Pairs) (lines : ℕ) → ruled d ≡ true → FitsPairs pairs → lawful d (seen_by d z) (recover pairs lines) ≡ true
      → AllBytes (recovering pairs (trace_of d) z.image lines).sent
  recover_bytes d pairs lines r fp h =
      let w = j.side d r in
      let short = leb-true lines (length (trace_of d)) (and_left (leb lines (length (trace_of d))) (every (rewritable d z.image (trace_of d) pairs) (length (trace_of d))) h) in
      subst (λ (i : List ℕ). AllBytes (recovering pairs (trace_of d) i lines).sent) j.same
      (all_bytes pairs (trace_of d) (encode V1 (decode V1 z.image)) (good_encodes V1 (decode V1 z.image) j.good).bytes fp (fits_log (z.part d).log w.log_bytes w.good_log_lem) lines short)

  order_bytes : (d i : ℕ) → ruled d ≡ true → lawful d (seen_by d z) (arrive i) ≡ true → SentBytes (get_or (z.part d).orders i no_order).sent
  order_bytes d i r h =
      (all_at (λ (o : Order). Safe d (trace_of d) (card_for o) (at (decode V1 z.image) (card_for o)) o) (z.part d).orders i no_order
      (ltb-true i (length (z.part d).orders) h) (j.side d r).sent).bytes

  fit_own : (d : ℕ) (m : Step) → ruled d ≡ true → StepBytes m → lawful d (seen_by d z) m ≡ true → AllFit (moves_of z (by_desk d m))
  fit_own d (other s) r b h = tt
  fit_own d (order s line from) r b h = tt
  fit_own d (arrive i) r b h = (order_bytes d i r h, tt)
  fit_own d (append budget q) r b h = tt
  fit_own d crash r b h = tt
  fit_own d renew r b h = tt
  fit_own d (recover pairs lines) r b h =
      let sent : List Sent = (recovering pairs (trace_of d) z.image lines).sent in
      fit_each (reverse sent) (bytes_reverse sent [] (recover_bytes d pairs lines r b h) tt)

  fit_step : (m : DeskStep) → DeskStepBytes m → lawful_desk_step ruled z m ≡ true → AllFit (moves_of z m)
  fit_step (outside s) b h = (b, tt)
  fit_step (by_desk d m) b h =
      let two = and_left (ruled d && own_step m) (lawful d (seen_by d z) m) h in
      fit_own d m (and_left (ruled d) (own_step m) two) b (and_right (ruled d && own_step m) (lawful d (seen_by d z) m) h)

  has_own : (y : System) (d : ℕ) (m : Step) → own_step m ≡ true → Has z.image y → Has (after_desk_step z (by_desk d m)).image (system_after y (moves_of z (by_desk d m)))
  unfolding foldl after_desk_step after_step
  has_own y d (other s) e h = absurd (never_both refl (sym e))
  has_own y d (order s line from) e h = h
  has_own y d (arrive i) e h = has_send z.image y (get_or (z.part d).orders i no_order).sent h
  has_own y d (append budget q) e h = h
  has_own y d crash e h = h
  has_own y d renew e h = h
  has_own y d (recover pairs lines) e h =
      let sent : List Sent = (recovering pairs (trace_of d) z.image lines).sent in
      subst (λ (i : List ℕ). Has i (system_after y (send_each (reverse sent))))
      (ap (image_after V1 z.image) (reverse-reverse sent) ∙ sym (stands pairs (trace_of d) z.image lines))
      (has_each (reverse sent) z.image y h)

  has_step : (y : System) (m : DeskStep) → lawful_desk_step ruled z m ≡ true → Has z.image y → Has (after_desk_step z m).image (system_after y (moves_of z m))
  unfolding foldl after_desk_step after_step
  has_step y (outside s) h w = has_send z.image y s w
  has_step y (by_desk d m) h w = has_own y d m (and_right (ruled d) (own_step m) (and_left (ruled d && own_step m) (lawful d (seen_by d z) m) h)) w

-- ---- a run

record Runs (z : Desks) (deals : List Deal) (y : System) : Type 0 where
  fits : AllFit (moves_in z deals)
  has : Has (after_desk_steps z (steps_in deals)).image (system_after y (moves_in z deals))

runs : (ruled : ℕ → Bool) (z : Desks) (deals : List Deal) (y : System) → Joint ruled z → AllDeskSteps (steps_in deals) → lawful_desk_steps ruled z (steps_in deals) ≡ true → sends_along deals ≡ true
    → Has z.image y → Runs z deals y
unfolding moves_in steps_in sends_along every_along foldl
runs ruled z [] y j b h e w = record { fits = tt; has = w }
runs ruled z (beside m ∷ deals) y j b h e w =
    let now = and_left (sends_none m) (sends_along deals) e in
    let rest = runs ruled z deals (step_to y m) j b h (and_right (sends_none m) (sends_along deals) e) (has_none z.image y m now w) in
    record { fits = (fit_none m now, rest.fits); has = rest.has }
runs ruled z (along m ∷ deals) y j b h e w =
    let now = and_left (lawful_desk_step ruled z m) (lawful_desk_steps ruled (after_desk_step z m) (steps_in deals)) h in
    let rest =
    runs ruled (after_desk_step z m) deals (system_after y (moves_of z m)) (joint_next ruled z m j b.0 now) b.1
    (and_right (lawful_desk_step ruled z m) (lawful_desk_steps ruled (after_desk_step z m) (steps_in deals)) h) e (has_step ruled z j y m now w) in
    record {
      fits = fit_both (moves_of z m) (moves_in (after_desk_step z m) deals) (fit_step ruled z j m b.0 now) rest.fits;
      has =
          subst (Has (after_desk_steps (after_desk_step z m) (steps_in deals)).image) (sym (foldl_append step_to y (moves_of z m) (moves_in (after_desk_step z m) deals))) rest.has;
    }

pub both_are_one : BothAreOne
both_are_one n c places ruled logs deals r =
    let start : Desks = desks_opening (fresh V1 n c) logs in
    let moves : List Move = moves_in start deals in
    let moment : DesksMoment ruled (after_desk_steps start (steps_in deals)) =
    record {
      image = fresh V1 n c;
      logs = logs;
      steps = steps_in deals;
      store = fresh_clean ruled r.nobody n c r.shape;
      blank = r.blank;
      sent = r.bytes;
      rules = r.steps;
      led = refl;
    } in
    let j : Joint ruled start = joint_opening ruled (after_desk_steps start (steps_in deals)) moment in
    let run = runs ruled start deals (opening V1 n c places logs) j r.bytes r.steps r.sends (record { version = refl; bytes = refl }) in
    let conduct : ByRules V1 n c places logs moves = record { shape = r.shape; fits = run.fits; rules = r.moves } in
    record {
      store = run.has.bytes;
      conduct = conduct;
      moment = moment;
      premised = λ k. premise_kept V1 n c places logs moves conduct k;
      refines = desks_commit_at_once ruled (after_desk_steps start (steps_in deals)) moment;
    }

-- ---- an order by a proposal

module _ (y : System) (who card : ℕ) (pair : Pair) (s : Sent) (p : Proposes y who card pair s) where
  abbrev known : Known
  known = learnt (knows y who card) pair

  abbrev knew : System
  knew = step_to y (learn who card pair)

  abbrev new : Made
  new = record { card = card; mode = exclusive; pair = (proposed known exclusive).pair }

  knows_now : knows knew who card ≡ known
  unfolding step_to learnt
  knows_now = rw (eq-eqb who who refl, eq-eqb card card refl)

  made_now : Among new (step_to knew (propose who card exclusive)).desks.made
  unfolding step_to
  made_now = subst (λ (k : Known). Among new
      (settled (proposed k exclusive).number
      (with_made (record { card = card; mode = exclusive; pair = (proposed k exclusive).pair })
      (now_knows who card (proposed k exclusive).known.pair knew)) knew).desks.made) (sym knows_now)
      (subst (λ (n : ℕ). Among new (settled n (with_made new (now_knows who card (proposed known exclusive).known.pair knew)) knew).desks.made)
      (sym p.number) (among_here new knew.desks.made))

  is_made_by : (made : List Made) → Among new made → is_made made (command_in s).card (command_in s).mode (update (command_in s)) ≡ true
  is_made_by made a =
      (any_means (λ (m : Made). eqb m.card (command_in s).card && eqb m.mode (command_in s).mode && same_pair m.pair (update (command_in s))) made).1 (
        new,
        a,
        and_in (and_in (eq-eqb card (command_in s).card (sym p.card_is)) (eq-eqb exclusive (command_in s).mode (sym p.mode_is)))
            (subst (λ (q : Pair). same_pair (proposed known exclusive).pair q ≡ true) (sym p.opens) (same_self (proposed known exclusive).pair)),
      )
    where
      same_self : (q : Pair) → same_pair q q ≡ true
      same_self q = and_in (eq-eqb q.s q.s refl) (eq-eqb q.x q.x refl)

  may_order : MayOrder y who card pair s
  unfolding foldl
  may_order =
      record {
        ordered = λ v e x.
            let up = (passes_learnt (knows y who card) pair (omega (arith, p.used)) (omega arith) p.number).x in
            and_in (and_in (eq-eqb v.card (command_in s).card (e ∙ sym p.card_is)) (eq-eqb (verifier (command_in s)).x v.x (p.relies ∙ sym x)))
            (lt-ltb v.x (update (command_in s)).x (subst (λ (q : Pair). v.x < q.x) (sym p.opens) (subst (λ (n : ℕ). n < (proposed known exclusive).pair.x) (sym x) up)));
        arrives = λ later version.
            subst (λ (v : Format). sends_made v (system_after (step_to knew (propose who card exclusive)) later).desks.made s ≡ true) (sym version)
            (or_right (not (formed V1 s.command))
            (is_made_by (system_after (step_to knew (propose who card exclusive)) later).desks.made
            (made_run (step_to knew (propose who card exclusive)) later new made_now)));
      }

pub proposals_order : ProposalsOrder
proposals_order y who card pair s p = may_order y who card pair s p
