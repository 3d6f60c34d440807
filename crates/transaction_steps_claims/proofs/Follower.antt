-- A desk that takes the steps it is told keeps the rules of transactions. Assumes nothing.
use Prim.Native.Nat.{ℕ, ◌≤◌, ◌<◌}
use native.Mathlib.Omega.{arith}
use mathlib.Core.Path.{◌≡◌, refl, sym, ap, ◌∙◌, subst}
use mathlib.Core.Logic.{◌⊎◌, inl, inr}
use mathlib.Core.List.{List, [], ◌∷◌}
use mathlib.Core.Bool.{Bool, true, false, cond, not, ◌&&◌, ◌||◌}
use borrow.Author.Tests.{eqb-true, not-true}
use lib.ListN.{length, get_or}
use lib.Dec.{ltb, eqb}
use Rattle.lists.specs.Parts.{every}
use Rattle.lists.specs.Search.{any}
use Rattle.lists.proofs.Every.{every_in, every_out}
use Rattle.lists.proofs.Tests.{cases, never_both, and_in, and_left, and_right, or_left, or_right, or_cases}
use Rattle.lists.specs.Runs.{foldl, every_along}
use Rattle.store_model.specs.Words.{Sent}
use Rattle.redo_log.specs.Log.{LogRecord, most_records, commit_kind, synced_kind, record_card, record_transaction, records}
use Rattle.redo_log.proofs.Records.{good_out}
use Rattle.redo_log.proofs.ReadBack.{length_records}
use Rattle.redo_recovery_model.specs.Recovery.{record_in, commits_to}
use Rattle.transactions.specs.System.{
  OneDesk,
  Shown,
  no_shown,
  Step,
  other,
  order,
  arrive,
  append,
  crash,
  renew,
  command_in,
  prepares,
  writes_out,
  releases,
  due_for,
  written_out,
  writes_line,
  opens_above,
  update_in,
  is_held,
  is_free,
  appendable,
  lawful,
  after_step,
  after_steps,
  lawful_all,
}
use Rattle.transactions.specs.Claims.{StepBytes, AllSteps, Moment}
use Rattle.transactions.proofs.Kept.{Kept}
use Rattle.transactions.proofs.Claims.{kept_opening, kept_next}
use Rattle.transaction_steps.specs.Steps.{ToldStep, prepare_step, ready_step, write_step, release_step, note_step, last_due, next_step}
use Rattle.transaction_steps_claims.specs.Follower.{
  Mind,
  Follower,
  no_mind,
  follower_opening,
  Doing,
  incoming,
  arriving,
  sending,
  logging,
  renewing,
  dropping,
  falling,
  is_seen,
  carries_out,
  logs_as_told,
  as_told,
  with_mind,
  after_doing,
  after_doings,
  all_as_told,
  DoingBytes,
  AllDoings,
  FollowersKeepTheRules,
}
use Rattle.transaction_steps_claims.proofs.Next.{clear_out, last_committed, when_prepare, when_release, when_write, when_ready, when_note}
use Rattle.transaction_steps_claims.proofs.Sees.{Freely, Sees, sees_other, looks_new, sees_arrive, arrives_new, sees_order, sees_append, sees_renew}

-- What holds of a desk that follows: what holds at every moment, and what it has seen is so.
abbrev pub Minded : ℕ → OneDesk → ℕ → Mind → Type 0
Minded d y k mind = mind.seen.known ≡ true → Sees d y k mind.seen

pub record Going (d : ℕ) (z : Follower) : Type 0 where
  pub kept : Kept d z.desk
  pub minded : (k : ℕ) → Minded d z.desk k (z.minds k)

-- One mind is another, and the rest are as they were.
minds_with : (Q : ℕ → Mind → Type 0) (k : ℕ) (mind : Mind) (minds : ℕ → Mind) → Q k mind → ((j : ℕ) → eqb j k ≡ false → Q j (minds j)) → (j : ℕ) → Q j (with_mind k mind minds j)
minds_with Q k mind minds w away j = go (cases (eqb j k))
  where
    go : (eqb j k ≡ true) ⊎ (eqb j k ≡ false) → Q j (with_mind k mind minds j)
    go (inr e) = subst (λ (t : Bool). Q j (cond t mind (minds j))) (sym e) (away j e)
    go (inl e) = subst (λ (t : Bool). Q j (cond t mind (minds j))) (sym e) (subst (λ (m : ℕ). Q m mind) (sym (eqb-true j k e)) w)

pub nothing_minded : (d : ℕ) (y : OneDesk) (k : ℕ) → Minded d y k no_mind
nothing_minded d y k e = absurd (never_both refl (sym e))

picks_first : (b x q : Bool) → b ≡ true → cond b x q ≡ true → x ≡ true
picks_first b x q e f = rw e at f

picks_second : (b x q : Bool) → b ≡ false → cond b x q ≡ true → q ≡ true
picks_second b x q e f = rw e at f

-- ---- each thing that it does is by the rules

module _ (d : ℕ) (z : Follower) (g : Going d z) where
  abbrev rs : List LogRecord
  rs = records z.desk.log

  abbrev next_for : ℕ → Bool → ToldStep
  next_for k going = next_step d rs k going (z.minds k).seen

  short : length rs ≤ most_records
  short = omega (arith, length_records z.desk.log, (good_out z.desk.log g.kept.good_log_lem).few)

  module _ (s : Sent) (going : Bool) (line from : ℕ) (h : as_told d z (sending s going line from) ≡ true) where
    abbrev k : ℕ
    k = (command_in s).card

    abbrev v : Shown
    v = get_or z.desk.shown from no_shown

    abbrev carried : Bool
    carried = carries_out d rs s (next_for k going) line

    abbrev within : Bool
    within = ltb from (length z.desk.shown)

    abbrev seen_one : Bool
    seen_one = is_seen v k (z.minds k)

    abbrev opens : Bool
    opens = opens_above (command_in s) v

    reach_is : (z.minds k).seen.reach ≡ v.reach
    reach_is =
        sym (eqb-true v.reach (z.minds k).seen.reach
        (and_right (eqb v.card k && eqb v.x (z.minds k).x) (eqb v.reach (z.minds k).seen.reach)
        (and_right within seen_one (and_left (within && seen_one) opens (and_left (within && seen_one && opens) carried h)))))

    abbrev first_kind : Bool
    first_kind = eqb (next_for k going).step prepare_step && prepares d (command_in s)

    abbrev second_kind : Bool
    second_kind = eqb (next_for k going).step release_step && releases d (command_in s)

    abbrev third_kind : Bool
    third_kind = eqb (next_for k going).step write_step && eqb (next_for k going).line line && writes_out d (command_in s) && writes_line s (record_in rs line)

    abbrev may_prepare : Bool
    may_prepare = prepares d (command_in s) && written_out rs k 0 (length rs)

    abbrev may_release : Bool
    may_release = releases d (command_in s) && written_out rs k v.reach (length rs)

    abbrev may_write : Bool
    may_write = writes_out d (command_in s) && (due_for rs k line && written_out rs k v.reach line && writes_line s (record_in rs line))

    by_kind : (first_kind ≡ true) ⊎ (second_kind ≡ true) ⊎ (third_kind ≡ true) → (may_prepare || may_release || may_write) ≡ true
    by_kind (inl e) =
        or_left may_write
        (or_left may_release
        (and_in (and_right (eqb (next_for k going).step prepare_step) (prepares d (command_in s)) e)
        (when_prepare d rs k going (z.minds k).seen (eqb-true (next_for k going).step prepare_step (and_left (eqb (next_for k going).step prepare_step) (prepares d (command_in s)) e)))))
    by_kind (inr (inl e)) =
        or_left may_write
        (or_right may_prepare
        (and_in (and_right (eqb (next_for k going).step release_step) (releases d (command_in s)) e)
        (subst (λ (n : ℕ). written_out rs k n (length rs) ≡ true) reach_is
        (when_release d rs k going (z.minds k).seen short (eqb-true (next_for k going).step release_step (and_left (eqb (next_for k going).step release_step) (releases d (command_in s)) e))))))
    by_kind (inr (inr e)) =
        let three = and_left (eqb (next_for k going).step write_step && eqb (next_for k going).line line && writes_out d (command_in s)) (writes_line s (record_in rs line)) e in
        let two = and_left (eqb (next_for k going).step write_step && eqb (next_for k going).line line) (writes_out d (command_in s)) three in
        let same : (next_for k going).line ≡ line = eqb-true (next_for k going).line line (and_right (eqb (next_for k going).step write_step) (eqb (next_for k going).line line) two) in
        let told = when_write d rs k going (z.minds k).seen short
        (eqb-true (next_for k going).step write_step (and_left (eqb (next_for k going).step write_step) (eqb (next_for k going).line line) two)) in
        or_right (may_prepare || may_release)
        (and_in (and_right (eqb (next_for k going).step write_step && eqb (next_for k going).line line) (writes_out d (command_in s)) three)
        (and_in
        (and_in (subst (λ (n : ℕ). due_for rs k n ≡ true) same told.0)
        (subst (λ (n : ℕ). written_out rs k n line ≡ true) reach_is (subst (λ (n : ℕ). written_out rs k (z.minds k).seen.reach n ≡ true) same told.1)))
        (and_right (eqb (next_for k going).step write_step && eqb (next_for k going).line line && writes_out d (command_in s)) (writes_line s (record_in rs line)) e)))

    kinds : (carried ≡ true) → (first_kind ≡ true) ⊎ (second_kind ≡ true) ⊎ (third_kind ≡ true)
    kinds e = go (or_cases (first_kind || second_kind) third_kind e)
      where
        go : ((first_kind || second_kind) ≡ true) ⊎ (third_kind ≡ true) → (first_kind ≡ true) ⊎ (second_kind ≡ true) ⊎ (third_kind ≡ true)
        go (inr f) = inr (inr f)
        go (inl f) = pick (or_cases first_kind second_kind f)
          where
            pick : (first_kind ≡ true) ⊎ (second_kind ≡ true) → (first_kind ≡ true) ⊎ (second_kind ≡ true) ⊎ (third_kind ≡ true)
            pick (inl a) = inl a
            pick (inr a) = inr (inl a)

    sends_lawful : lawful d z.desk (order s line from) ≡ true
    sends_lawful =
        let three = and_left (within && seen_one && opens) carried h in
        and_in (and_in (and_left within seen_one (and_left (within && seen_one) opens three)) (and_right (within && seen_one) opens three))
        (by_kind (kinds (and_right (within && seen_one && opens) carried h)))

  module _ (r : LogRecord) (h : logs_as_told d rs z.minds r ≡ true) where
    abbrev ready_for : ℕ → Bool
    ready_for i = eqb (next_step d rs (record_card (record_in rs i)) true (z.minds (record_card (record_in rs i))).seen).step ready_step

    abbrev ready_all : Bool
    ready_all = every (λ i. not (update_in rs (record_transaction r) i) || ready_for i) (length rs)

    abbrev noted : Bool
    noted = eqb (next_for (record_card r) true).step note_step && eqb (next_for (record_card r) true).transaction (record_transaction r)

    -- Each card that a commit's transaction updates is ready.
    is_ready : eqb r.kind commit_kind ≡ true → (i : ℕ) → i < length rs → update_in rs (record_transaction r) i ≡ true → (next_for (record_card (record_in rs i)) true).step ≡ ready_step
    is_ready c i q u =
        go (or_cases (not (update_in rs (record_transaction r) i)) (ready_for i)
        (every_out (λ n. not (update_in rs (record_transaction r) n) || ready_for n) (length rs)
        (picks_first (eqb r.kind commit_kind) ready_all (cond (eqb r.kind synced_kind) noted true) c h) i q))
      where
        go : (not (update_in rs (record_transaction r) i) ≡ true) ⊎ (ready_for i ≡ true) → (next_for (record_card (record_in rs i)) true).step ≡ ready_step
        go (inl a) = absurd (never_both u (not-true (update_in rs (record_transaction r) i) a))
        go (inr a) = eqb-true (next_for (record_card (record_in rs i)) true).step ready_step a

    commit_held : eqb r.kind commit_kind ≡ true → every (λ i. not (update_in rs (record_transaction r) i) || is_held (z.desk.holds (record_card (record_in rs i)))) (length rs) ≡ true
    commit_held c = every_in (λ i. not (update_in rs (record_transaction r) i) || is_held (z.desk.holds (record_card (record_in rs i))))
        (length rs) (λ i q. go i q (cases (update_in rs (record_transaction r) i)))
      where
        go : (i : ℕ) → i < length rs → (update_in rs (record_transaction r) i ≡ true) ⊎ (update_in rs (record_transaction r) i ≡ false)
            → (not (update_in rs (record_transaction r) i) || is_held (z.desk.holds (record_card (record_in rs i)))) ≡ true
        go i q (inr u) = or_left (is_held (z.desk.holds (record_card (record_in rs i)))) (ap not u)
        go i q (inl u) =
            let j : ℕ = record_card (record_in rs i) in
            let told = when_ready d rs j true (z.minds j).seen (is_ready c i q u) in
            or_right (not (update_in rs (record_transaction r) i)) ((g.minded j told.0).holding told.2)

    abbrev may_sync : Bool
    may_sync = (is_free (z.desk.holds (record_card r)) || written_out rs (record_card r) 0 (length rs)) && any (commits_to (record_transaction r)) rs

    note_free : noted ≡ true → may_sync ≡ true
    note_free e =
        let j : ℕ = record_card r in
        let told = when_note d rs j true (z.minds j).seen
        (eqb-true (next_for j true).step note_step (and_left (eqb (next_for j true).step note_step) (eqb (next_for j true).transaction (record_transaction r)) e)) in
        let same : last_due rs j (length rs) ≡ record_transaction r =
        sym told.3 ∙ eqb-true (next_for j true).transaction (record_transaction r) (and_right (eqb (next_for j true).step note_step) (eqb (next_for j true).transaction (record_transaction r)) e) in
        and_in (or_left (written_out rs j 0 (length rs)) (go told.1 ((g.minded j told.0).freely told.2)))
        (subst (λ (t : ℕ). any (commits_to t) rs ≡ true) same (last_committed rs j (length rs) told.1))
      where
        go : written_out rs (record_card r) 0 (length rs) ≡ false → Freely rs (record_card r) (z.desk.holds (record_card r)) → is_free (z.desk.holds (record_card r)) ≡ true
        go n (inl f) = f
        go n (inr q) = absurd (never_both (clear_out rs (record_card r) q) n)

    logs_lawful : (budget : ℕ) → lawful d z.desk (append budget r) ≡ true
    logs_lawful budget = go (cases (eqb r.kind commit_kind)) (cases (eqb r.kind synced_kind))
      where
        held_all : Bool
        held_all = every (λ i. not (update_in rs (record_transaction r) i) || is_held (z.desk.holds (record_card (record_in rs i)))) (length rs)

        choose : (a b x q : Bool) → (a ≡ true → x ≡ true) → (a ≡ false → b ≡ true → q ≡ true) → cond a x (cond b q true) ≡ true
        choose true b x q f e = f refl
        choose false true x q f e = e refl refl
        choose false false x q f e = refl

        go : (eqb r.kind commit_kind ≡ true) ⊎ (eqb r.kind commit_kind ≡ false) → (eqb r.kind synced_kind ≡ true) ⊎ (eqb r.kind synced_kind ≡ false)
            → appendable z.desk.holds rs r ≡ true
        go c t =
            choose (eqb r.kind commit_kind) (eqb r.kind synced_kind) held_all may_sync commit_held
            (λ n e. note_free (picks_first (eqb r.kind synced_kind) noted true e (picks_second (eqb r.kind commit_kind) ready_all (cond (eqb r.kind synced_kind) noted true) n h)))

    -- A card that is seen without the mark is none of a commit's.
    apart : (j : ℕ) → eqb (z.minds j).seen.mark d ≡ false → eqb r.kind commit_kind ≡ true → (i : ℕ) → i < length rs → update_in rs (record_transaction r) i ≡ true
        → eqb (record_card (record_in rs i)) j ≡ false
    apart j n c i q u = go (cases (eqb (record_card (record_in rs i)) j))
      where
        go : (eqb (record_card (record_in rs i)) j ≡ true) ⊎ (eqb (record_card (record_in rs i)) j ≡ false) → eqb (record_card (record_in rs i)) j ≡ false
        go (inr e) = e
        go (inl e) =
            let k : ℕ = record_card (record_in rs i) in
            let told = when_ready d rs k true (z.minds k).seen (is_ready c i q u) in
            absurd (never_both (subst (λ (m : ℕ). eqb (z.minds m).seen.mark d ≡ true) (eqb-true k j e) told.1) n)

-- ---- a run

pub record Ran (d : ℕ) (y end : OneDesk) : Type 0 where
  pub steps : List Step
  pub sent : AllSteps steps
  pub rules : lawful_all d y steps ≡ true
  pub led : after_steps d y steps ≡ end

none_lawful : (d : ℕ) (y : OneDesk) → lawful_all d y [] ≡ true
unfolding every_along
none_lawful d y = refl

none_led : (d : ℕ) (y : OneDesk) → after_steps d y [] ≡ y
unfolding foldl
none_led d y = refl

ran_none : (d : ℕ) (y : OneDesk) → Ran d y y
ran_none d y = record { steps = []; sent = tt; rules = none_lawful d y; led = none_led d y }

ran_more : (d : ℕ) (y end : OneDesk) (m : Step) → StepBytes m → lawful d y m ≡ true → Ran d (after_step d y m) end → Ran d y end
unfolding every_along foldl
ran_more d y end m b h r = record { steps = m ∷ r.steps; sent = (b, r.sent); rules = and_in h r.rules; led = r.led }

-- One thing more: a step by the rules, or none; and what holds goes on holding.
pub record One (d : ℕ) (z : Follower) (a : Doing) : Type 0 where
  pub going : Going d (after_doing d z a)
  pub ran : (end : OneDesk) → Ran d (after_doing d z a).desk end → Ran d z.desk end

module _ (d : ℕ) (z : Follower) (g : Going d z) where
  stepped : (a : Doing) (m : Step) → StepBytes m → lawful d z.desk m ≡ true → (after_doing d z a).desk ≡ after_step d z.desk m
      → ((k : ℕ) → Minded d (after_step d z.desk m) k ((after_doing d z a).minds k)) → One d z a
  stepped a m b h e q =
      record {
        going = record {
          kept = subst (Kept d) (sym e) (kept_next d z.desk m g.kept b h);
          minded = λ k. subst (λ (y : OneDesk). Minded d y k ((after_doing d z a).minds k)) (sym e) (q k);
        };
        ran = λ end r. ran_more d z.desk end m b h (subst (λ (y : OneDesk). Ran d y end) e r);
      }

  pub one : (a : Doing) → DoingBytes a → as_told d z a ≡ true → One d z a
  unfolding after_doing
  one (incoming s true) b h =
      stepped (incoming s true) (other s) b h refl
      (minds_with (Minded d (after_step d z.desk (other s))) (command_in s).card _ z.minds (looks_new d z.desk g.kept s h)
      (λ j e k. sees_other d z.desk g.kept s h j (z.minds j).seen (g.minded j k)))
  one (incoming s false) b h = stepped (incoming s false) (other s) b h refl (λ j k. sees_other d z.desk g.kept s h j (z.minds j).seen (g.minded j k))
  one (arriving i true) b h =
      stepped (arriving i true) (arrive i) b h refl
      (minds_with (Minded d (after_step d z.desk (arrive i))) _ _ z.minds (arrives_new d z.desk g.kept i h)
      (λ j e k. sees_arrive d z.desk g.kept i h j (z.minds j).seen (g.minded j k)))
  one (arriving i false) b h = stepped (arriving i false) (arrive i) b h refl (λ j k. sees_arrive d z.desk g.kept i h j (z.minds j).seen (g.minded j k))
  one (sending s going line from) b h =
      stepped (sending s going line from) (order s line from) b (sends_lawful d z g s going line from h) refl
      (minds_with (Minded d (after_step d z.desk (order s line from))) (command_in s).card no_mind z.minds (nothing_minded d (after_step d z.desk (order s line from)) (command_in s).card)
      (λ j e k. sees_order d z.desk s line from j (z.minds j).seen e (g.minded j k)))
  one (logging budget r) b h =
      let w = logs_lawful d z g r h budget in
      stepped (logging budget r) (append budget r) b w refl
      (λ j k. sees_append d z.desk g.kept budget r b w j (z.minds j).seen (apart d z g r h j) (g.minded j k))
  one renewing b h = stepped renewing renew tt h refl (λ j k. sees_renew d z.desk g.kept j (z.minds j).seen (g.minded j k))
  one (dropping k) b h =
      record {
        going = record {
          kept = g.kept;
          minded = minds_with (Minded d z.desk) k no_mind z.minds (nothing_minded d z.desk k) (λ j e. g.minded j);
        };
        ran = λ end r. r;
      }
  one falling b h = stepped falling crash tt refl refl (λ j. nothing_minded d (after_step d z.desk crash) j)

run : (d : ℕ) (z : Follower) (doings : List Doing) → Going d z → AllDoings doings → all_as_told d z doings ≡ true → Ran d z.desk (after_doings d z doings).desk
unfolding foldl every_along
run d z [] g b h = ran_none d z.desk
run d z (a ∷ doings) g b h =
    let o = one d z g a b.0 (and_left (as_told d z a) (all_as_told d (after_doing d z a) doings) h) in
    o.ran (after_doings d (after_doing d z a) doings).desk
    (run d (after_doing d z a) doings o.going b.1 (and_right (as_told d z a) (all_as_told d (after_doing d z a) doings) h))

pub followers_keep_the_rules : FollowersKeepTheRules
followers_keep_the_rules d image log doings store blank b h =
    let opening : Moment d (follower_opening image log).desk = record {
      image = image;
      log = log;
      steps = [];
      store = store;
      blank = blank;
      sent = tt;
      rules = none_lawful d (follower_opening image log).desk;
      led = none_led d (follower_opening image log).desk;
    } in
    let start : Going d (follower_opening image log) = record {
      kept = kept_opening d (follower_opening image log).desk opening;
      minded = λ k. nothing_minded d (follower_opening image log).desk k;
    } in
    let r = run d (follower_opening image log) doings start b h in
    record { image = image; log = log; steps = r.steps; store = store; blank = blank; sent = r.sent; rules = r.rules; led = r.led }
