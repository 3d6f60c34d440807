-- Desks that follow the rules never break demand 3's premise, and what follows. Assumes nothing.
use Prim.Native.Nat.{ℕ, zero, suc, ◌<◌}
use native.Mathlib.Omega.{arith}
use mathlib.Core.Path.{◌≡◌, refl, sym, ap, subst, ◌∙◌}
use mathlib.Core.Logic.{◌⊎◌, inl, inr}
use mathlib.Core.List.{List, [], ◌∷◌, ◌++◌, reverse, reverse-reverse}
use mathlib.Core.Bool.{Bool, true, false, not}
use borrow.Author.Tests.{eqb-true}
use lib.Dec.{T, eqb}
use lib.ListN.{drop}
use Rattle.formats.specs.Format.{Format, V1, V2}
use Rattle.lists.specs.Search.{none}
use Rattle.lists.specs.Table.{settled}
use Rattle.lists.proofs.Tests.{cases, and_in, and_left, and_right, or_left, or_right, not_in, never_both}
use Rattle.lists.specs.Runs.{foldl, every_along}
use Rattle.stamps.specs.Stamp.{exclusive, own}
use Rattle.stamps.specs.declared.Pair.{Pair}
use Rattle.commands.specs.Command.{update}
use Rattle.commands.specs.Bytes.{fields_of, formed}
use Rattle.commands.proofs.Rules.{command_rules}
use Rattle.image.specs.Layout.{shape_ok}
use Rattle.image.specs.Image.{Card, no_card, encode, fresh, fresh_cards}
use Rattle.image.specs.Convert.{converted, convert_number}
use Rattle.image_claims.proofs.Claims.{good_encodes}
use Rattle.store_model.specs.Words.{Sent, Received, Event, command_of, image_after, trace_from, trace_of, formed_for, carries, under, commands_in}
use Rattle.store_model.specs.Claims.{Claim}
use Rattle.store_model.specs.Conversion.{trace_across}
use Rattle.store_model.specs.Meaning.{Among, Ordered}
use Rattle.store_model.proofs.Conversion.{demand3_across}
use Rattle.store_model.proofs.Demand.{demand3, bytes_reverse}
use Rattle.store_model.proofs.Formed.{formed_well}
use Rattle.store_model.proofs.Meaning.{among_here, among_later, among_right, among_mapped, carries_means, premise_means}
use Rattle.store_model.proofs.Pairs.{no_card_lem}
use Rattle.redo_log.specs.Append.{append_number, appended}
use Rattle.redo_log_claims.specs.Life.{renewed}
use Rattle.redo_recovery_model.specs.Recovery.{Pairs, recovery_pair, recovered}
use Rattle.redo_recovery_model.specs.Claims.{AllUnder}
use Rattle.redo_recovery_model.proofs.Pairs as under_pairs
use Rattle.redo_recovery_model.proofs.Steps.{recovers}
use Rattle.lock_queue.specs.declared.Waiting.{Waiting}
use Rattle.desk_proposals.specs.Propose.{proposed}
use Rattle.desk_proposal_claims.proofs.Claims.{well_proposed}
use Rattle.desk_system.specs.System.{
  TracedStore,
  System,
  Made,
  Move,
  begin,
  propose,
  at_queue,
  lose,
  send,
  recover_with,
  convert,
  learn,
  append_to,
  renew_log,
  opening,
  is_made,
  sends_made,
  all_made,
  recovery_sends,
  allowed,
  knows,
  now_knows,
  with_store,
  with_made,
  send_steps,
  convert_step,
  step_to,
  system_after,
  by_rules,
  Fits,
  AllFit,
}
use Rattle.desk_system.specs.Claims.{ByRules, finally, PremiseKept, DesksIsolated, StoreOf, one_version, converted_once, StoreFollows, StampsOnce, DesksValid, RecoveryAllowed}
use Rattle.desk_system.proofs.Backing.{among_none, Backed, backed_none}
use Rattle.desk_system.proofs.Kept.{Once, Kept, kept_begin, kept_propose, kept_request, kept_lose, kept_send, kept_recover, kept_convert, kept_learn, kept_log, sends_version, sends_made_lem}
use Rattle.desk_system.proofs.Moves.{Carried, carried_run}
use Rattle.desk_system.proofs.Store.{Trace, plain, across, Held, held_fresh, held_send, held_convert}

-- ---- the store, whatever the steps are

held_carried : (v : Format) (n c : ℕ) → Carried v n c (Held v n c)
held_carried v n c =
    record { is_held = λ f image log h. h; sends = λ f image log s b h. held_send v n c f image log s b h; converts = λ image log lent h e. held_convert v n c image log lent h e }

-- ---- a run by the rules

kept_opening : (v : Format) (n c : ℕ) (places : ℕ → ℕ → List Waiting) (logs : ℕ → List ℕ) → T (shape_ok v n c) → Kept v n c (opening v n c places logs)
unfolding held_fresh fresh_cards
kept_opening v n c places logs shape =
    record {
      held = held_fresh v n c shape;
      stored = λ k. subst (λ (d : Card). Backed [] k d.pair) (sym (no_card_lem v n k)) (nothing k);
      queued = λ k m. nothing k;
      knowing = λ w k. nothing k;
      telling = λ t a. among_none a;
      making = λ m a. among_none a;
      marked = λ m a. among_none a;
      ordered = λ p q a. among_none a;
      once = tt;
      numbered = λ w r. absurd (never_both r refl);
      sanctioned = λ e a. among_none a;
    }
  where
    nothing : (k : ℕ) → Backed [] k (no_card v).pair
    nothing k = backed_none (λ m a. among_none a) k

kept_next : (v : Format) (n c : ℕ) (y : System) (s : Move) → Kept v n c y → Fits s → allowed y s ≡ true → Kept v n c (step_to y s)
unfolding step_to
kept_next v n c y (begin who) k f h = kept_begin v n c y k who h
kept_next v n c y (propose who card mode) k f h = kept_propose v n c y k who card mode h
kept_next v n c y (at_queue card manager lent r) k f h = kept_request v n c y k card manager lent r h
kept_next v n c y (lose card manager places) k f h = kept_lose v n c y k card manager places
kept_next v n c y (send s) k f h = kept_send v n c y k s f h
kept_next v n c y (recover_with pairs log unsent) k f h = kept_recover v n c y k pairs log unsent f.0 f.1 h
kept_next v n c y (convert lent) k f h = kept_convert v n c y k lent
kept_next v n c y (learn who card pair) k f h = kept_learn v n c y k who card pair h
kept_next v n c y (append_to desk budget r) k f h =
    kept_log v n c y k desk (appended budget (y.logs desk).bytes r) (settled (append_number budget (y.logs desk).bytes r) ((y.logs desk).whole ++ r ∷ []) (y.logs desk).whole)
kept_next v n c y (renew_log desk) k f h = kept_log v n c y k desk (renewed (y.logs desk).bytes) []

kept_run : (v : Format) (n c : ℕ) (y : System) (steps : List Move) → Kept v n c y → AllFit steps → by_rules y steps ≡ true → Kept v n c (system_after y steps)
unfolding foldl every_along
kept_run v n c y [] k f h = k
kept_run v n c y (s ∷ steps) k f h =
    kept_run v n c (step_to y s) steps
    (kept_next v n c y s k f.0 (and_left (allowed y s) (by_rules (step_to y s) steps) h))
    f.1
    (and_right (allowed y s) (by_rules (step_to y s) steps) h)

pub kept_finally : (v : Format) (n c : ℕ) (places : ℕ → ℕ → List Waiting) (logs : ℕ → List ℕ) (steps : List Move) → ByRules v n c places logs steps → Kept v n c (finally v n c places logs steps)
kept_finally v n c places logs steps r = kept_run v n c (opening v n c places logs) steps (kept_opening v n c places logs r.shape) r.fits r.rules

-- ---- proposals stay, whatever the steps are

made_next : (y : System) (s : Move) (m : Made) → Among m y.desks.made → Among m (step_to y s).desks.made
unfolding step_to
made_next y (begin who) m a = a
made_next y (propose who card mode) m a = go (proposed (knows y who card) mode).number
  where
    new : Made
    new = record { card = card; mode = mode; pair = (proposed (knows y who card) mode).pair }

    go : (number : ℕ) → Among m (settled number (with_made new (now_knows who card (proposed (knows y who card) mode).known.pair y)) y).desks.made
    go zero = among_later new a
    go (suc j) = a
made_next y (at_queue card manager lent r) m a = a
made_next y (lose card manager places) m a = a
made_next y (send s) m a = a
made_next y (recover_with pairs log unsent) m a = subst (Among m) (sym (sends_made_lem y (recovery_sends y.store.version pairs log unsent y.store.image))) a
made_next y (convert lent) m a = go y.store.version
  where
    go : (g : Format) → Among m (convert_step g lent y).desks.made
    go V2 = a
    go V1 = by_number (convert_number y.store.image lent)
      where
        by_number : (number : ℕ) → Among m (settled number (with_store V2 (converted y.store.image) y.store.trace y) y).desks.made
        by_number zero = a
        by_number (suc j) = a
made_next y (learn who card pair) m a = a
made_next y (append_to desk budget r) m a = a
made_next y (renew_log desk) m a = a

pub made_run : (y : System) (steps : List Move) (m : Made) → Among m y.desks.made → Among m (system_after y steps).desks.made
unfolding foldl
made_run y [] m a = a
made_run y (s ∷ steps) m a = made_run (step_to y s) steps m (made_next y s m a)

-- ---- the claims

pub premise_kept : PremiseKept
premise_kept v n c places logs steps r k = (premise_means k (commands_in y.store.trace)).1 ordered
  where
    y : System
    y = finally v n c places logs steps

    kept : Kept v n c y
    kept = kept_finally v n c places logs steps r

    order : (a b : Event) → Among a y.store.trace → Among b y.store.trace → formed_for k a.read ≡ true → formed_for k b.read ≡ true
        → carries (command_of a) ≡ true
        → under (update (command_of a)).x (command_of b) ≡ true
        → (update (command_of b)).s < (update (command_of a)).s
    order a b ma mb fa fb ca ub =
        let ca-card : Bool = eqb (command_of a).card k in
        let cb-card : Bool = eqb (command_of b).card k in
        let pa = kept.sanctioned a ma (and_left a.read.formed ca-card fa) in
        let pb = kept.sanctioned b mb (and_left b.read.formed cb-card fb) in
        let card-a = eqb-true (command_of a).card k (and_right a.read.formed ca-card fa) in
        let card-b = eqb-true (command_of b).card k (and_right b.read.formed cb-card fb) in
        let mode-a = ((carries_means (command_of a)).0 ca).mode in
        let mode-b = eqb-true (command_of b).mode exclusive (and_left (eqb (command_of b).mode exclusive) (eqb (update (command_of b)).x (update (command_of a)).x) ub) in
        let stamp = eqb-true (update (command_of b)).x (update (command_of a)).x (and_right (eqb (command_of b).mode exclusive) (eqb (update (command_of b)).x (update (command_of a)).x) ub) in
        let below =
        kept.ordered pa.m pb.m pa.among pb.among
        (pa.card_is ∙ card-a ∙ sym card-b ∙ sym pb.card_is)
        (pa.mode_is ∙ mode-a)
        (pb.mode_is ∙ mode-b)
        (ap (λ (p : Pair). p.x) pa.pair_same ∙ sym stamp ∙ sym (ap (λ (p : Pair). p.x) pb.pair_same)) in
        subst (λ (p : Pair). (update (command_of b)).s < p.s) pa.pair_same
        (subst (λ (p : Pair). p.s < pa.m.pair.s) pb.pair_same below)

    ordered : Ordered k (commands_in y.store.trace)
    ordered a b ma mb =
        let from-a = among_mapped (λ (e : Event). e.read) y.store.trace ma in
        let from-b = among_mapped (λ (e : Event). e.read) y.store.trace mb in
        subst
        (λ (d : Received). formed_for k d ≡ true → formed_for k b ≡ true → carries d.numbers ≡ true → under (update d.numbers).x
        b.numbers ≡ true → (update b.numbers).s < (update d.numbers).s)
        (sym from-a.is)
        (subst
        (λ (d : Received). formed_for k from-a.from.read ≡ true → formed_for k d ≡ true → carries (command_of from-a.from) ≡ true → under
        (update (command_of from-a.from)).x d.numbers ≡ true → (update d.numbers).s < (update (command_of from-a.from)).s)
        (sym from-b.is)
        (order from-a.from from-b.from from-a.among from-b.among))

store_of : (v : Format) (n c : ℕ) (y : TracedStore) → Trace v n c y.version y.image y.trace → StoreOf v n c y
unfolding trace_of trace_across
store_of v n c y (plain sent b e l i) =
    let turned = sym (reverse-reverse sent) in
    one_version (reverse sent) e (l ∙ ap (trace_from v (fresh v n c)) turned) (i ∙ ap (image_after v (fresh v n c)) turned)
store_of v n c y (across sent more b m o e ok l i) =
    let first = sym (reverse-reverse sent) in
    let second = sym (reverse-reverse more) in
    let base : List Sent → List ℕ = λ (a : List Sent). converted (image_after V1 (fresh V1 n c) a) in
    converted_once (reverse sent) (reverse more) o e ok
    (l
    ∙ ap (λ (a : List Sent). trace_from V2 (base a) more ++ trace_from V1 (fresh V1 n c) a) first
    ∙ ap (λ (a : List Sent). trace_from V2 (base (reverse (reverse sent))) a ++ trace_from V1 (fresh V1 n c) (reverse (reverse sent))) second)
    (i ∙ ap (λ (a : List Sent). image_after V2 (base a) more) first ∙ ap (image_after V2 (base (reverse (reverse sent)))) second)

pub held_finally : (v : Format) (n c : ℕ) (places : ℕ → ℕ → List Waiting) (logs : ℕ → List ℕ) (steps : List Move) → T (shape_ok v n c) → AllFit steps
    → Held v n c (finally v n c places logs steps).store.version (finally v n c places logs steps).store.image (finally v n c places logs steps).store.trace
held_finally v n c places logs steps shape f = carried_run v n c (Held v n c) (held_carried v n c) (opening v n c places logs) steps f (held_fresh v n c shape)

pub store_follows : StoreFollows
store_follows v n c places logs steps shape f = store_of v n c (finally v n c places logs steps).store (held_finally v n c places logs steps shape f).trace

-- Demand 3's sentences hold of the log.
pub claimed : (v : Format) (n c : ℕ) → T (shape_ok v n c) → (version : Format) (image : List ℕ) (log : List Event) → Trace v n c version image log → (sent : List Sent) × Claim n sent log
unfolding trace_of trace_across
claimed v n c shape version image log (plain sent b e l i) =
    (reverse sent, subst (Claim n (reverse sent)) (sym (l ∙ ap (trace_from v (fresh v n c)) (sym (reverse-reverse sent)))) (demand3 v n c shape (reverse sent) (bytes_reverse sent [] b tt)))
claimed v n c shape version image log (across sent more b m o e ok l i) =
    let first = sym (reverse-reverse sent) in
    let second = sym (reverse-reverse more) in
    let base : List Sent → List ℕ = λ (a : List Sent). converted (image_after V1 (fresh V1 n c) a) in
    let same =
    l
    ∙ ap (λ (a : List Sent). trace_from V2 (base a) more ++ trace_from V1 (fresh V1 n c) a) first
    ∙ ap (λ (a : List Sent). trace_from V2 (base (reverse (reverse sent))) a ++ trace_from V1 (fresh V1 n c) (reverse (reverse sent))) second in (
      reverse sent ++ reverse more,
      subst (Claim n (reverse sent ++ reverse more)) (sym same)
          (demand3_across n c ok (reverse sent) (reverse more) (bytes_reverse sent [] b tt) (bytes_reverse more [] m tt)).claim,
    )

pub desks_isolated : DesksIsolated
desks_isolated v n c places logs steps r k later b between a before split by-a by-b one =
    let y = finally v n c places logs steps in
    (claimed v n c r.shape y.store.version y.store.image y.store.trace (held_finally v n c places logs steps r.shape r.fits).trace).1.isolation k later b between a before
    (premise_kept v n c places logs steps r k) split by-a by-b one

once_at : (later : List Made) (p : Made) (rest : List Made) → Once (later ++ p ∷ rest) → Once (p ∷ rest)
once_at [] p rest o = o
once_at (m ∷ later) p rest o = once_at later p rest o.1

pub stamps_once : StampsOnce
stamps_once v n c places logs steps r later p between q before split same ep eq z =
    let kept = kept_finally v n c places logs steps r in
    (once_at later p (between ++ q ∷ before) (subst Once split kept.once)).0 q (among_right between (among_here q before)) ep same eq z

pub desks_valid : DesksValid
desks_valid v n c places logs steps r =
    record {
      known_s = λ who card. (kept.knowing who card).valid_s;
      known_x = λ who card. (kept.knowing who card).valid_x;
      proposes = λ who card mode running e.
          let w = kept.numbered who running in
          well_proposed (knows (finally v n c places logs steps) who card) mode (omega arith) (omega arith) (kept.knowing who card).valid_s (kept.knowing who card).valid_x e;
    }
  where
    kept : Kept v n c (finally v n c places logs steps)
    kept = kept_finally v n c places logs steps r

-- ---- recovery under proposed pairs

abbrev Given : List Made → Pairs → Type 0
Given made pairs = (k : ℕ) → ((recovery_pair pairs k).x ≡ 0) ⊎ (is_made made k exclusive (recovery_pair pairs k) ≡ true)

-- A write under the pair of its card is malformed where that has no x, and else carries what was proposed.
write_made : (made : List Made) (pairs : Pairs) → Given made pairs → (s : Sent) → (fields_of V1 s.command).mode ≡ exclusive
    → update (fields_of V1 s.command) ≡ recovery_pair pairs (fields_of V1 s.command).card
    → sends_made V1 made s ≡ true
write_made made pairs given s mode_is pair_is = go (cases (formed V1 s.command))
  where
    card : ℕ
    card = (fields_of V1 s.command).card

    mode : ℕ
    mode = (fields_of V1 s.command).mode

    pair : Pair
    pair = update (fields_of V1 s.command)

    there : formed V1 s.command ≡ true → ((recovery_pair pairs card).x ≡ 0) ⊎ (is_made made card exclusive (recovery_pair pairs card) ≡ true) → is_made made card mode pair ≡ true
    there f (inl none) =
        absurd
        ((command_rules (fields_of V1 s.command) (formed_well V1 s.command f)).session.some
        (ap (λ (m : ℕ). own m pair) mode_is ∙ ap (λ (p : Pair). p.x) pair_is ∙ none))
    there f (inr made-is) =
        subst (λ (m : ℕ). is_made made card m pair ≡ true) (sym mode_is) (subst (λ (p : Pair). is_made made card exclusive p ≡ true) (sym pair_is) made-is)

    go : (formed V1 s.command ≡ true) ⊎ (formed V1 s.command ≡ false) → sends_made V1 made s ≡ true
    go (inl f) = or_right (not (formed V1 s.command)) (there f (given card))
    go (inr f) = or_left (is_made made card mode pair) (not_in f)

writes_made : (made : List Made) (pairs : Pairs) → Given made pairs → (sent : List Sent) → AllUnder pairs sent → all_made V1 made sent ≡ true
writes_made made pairs given [] u = refl
writes_made made pairs given (s ∷ sent) u = and_in (write_made made pairs given s u.0.0 u.0.2) (writes_made made pairs given sent u.1)

sends_image : (y : System) (sent : List Sent) → (send_steps y sent).store.image ≡ image_after y.store.version y.store.image sent
unfolding send_steps image_after
sends_image y [] = refl
sends_image y (s ∷ earlier) = rw (sends_version y earlier, sends_image y earlier)

pub recovery_allowed : RecoveryAllowed
unfolding step_to
recovery_allowed v n c places logs steps r pairs log fp lb version given =
    record {
      allows = λ unsent.
          subst (λ (f : Format). all_made f y.desks.made (recovery_sends f pairs log unsent y.store.image) ≡ true) (sym version)
          (writes_made y.desks.made pairs given (drop unsent (recovered pairs log y.store.image).sent) (dropped_under unsent (recovered pairs log y.store.image).sent under_all));
      leaves =
          sends_image y (recovery_sends y.store.version pairs log 0 y.store.image)
          ∙ subst (λ (f : Format). image_after f y.store.image (recovery_sends f pairs log 0 y.store.image) ≡ (recovered pairs log y.store.image).image) (sym version)
          (sym (recovers pairs log y.store.image).sends);
    }
  where
    y : System
    y = finally v n c places logs steps

    held : Held v n c V1 y.store.image y.store.trace
    held = subst (λ (f : Format). Held v n c f y.store.image y.store.trace) version (held_finally v n c places logs steps r.shape r.fits)

    dropped_under : (unsent : ℕ) (sent : List Sent) → AllUnder pairs sent → AllUnder pairs (drop unsent sent)
    dropped_under zero sent u = u
    dropped_under (suc i) [] u = u
    dropped_under (suc i) (s ∷ sent) u = dropped_under i sent u.1

    under_all : AllUnder pairs (recovered pairs log y.store.image).sent
    under_all =
        subst (λ (i : List ℕ). AllUnder pairs (recovered pairs log i).sent) (sym held.image_is)
        (under_pairs.under pairs log (encode V1 held.cards) fp lb (good_encodes V1 held.cards held.good).bytes)
