-- The claims on proposals. Assumes nothing.
use Prim.Native.Nat.{ℕ, zero, suc, ◌+◌, ◌*◌, ◌/◌, ◌≤◌, ◌<◌}
use native.Mathlib.Omega.{arith}
use mathlib.Core.Path.{◌≡◌, refl, sym, ap, subst, ◌∙◌}
use mathlib.Core.Logic.{◌⊎◌, inl, inr}
use mathlib.Core.List.{List, [], ◌∷◌}
use mathlib.Core.Bool.{Bool, true, false, cond, not, ◌&&◌}
use borrow.Author.Tests.{eqb-false, ltb-true, ltb-false, ne_eqb, not-true}
use lib.Dec.{T, eqb, ltb, ltb→lt}
use Rattle.lists.specs.Table.{row, first, all, all_from, listed}
use Rattle.lists.proofs.Tests.{to_T, from_T, cases, and_left, and_right, T_or_cases, T_and_right, not_in}
use Rattle.stamps.specs.Stamp.{stamp, desk_start, desk_of, stamp_valid, session_checks, shared, exclusive, stale, larger_of_each}
use Rattle.stamps.specs.declared.Pair.{Pair}
use Rattle.lists.proofs.Table.{given, first_all}
use Rattle.stamps.proofs.Stamp.{stamp_desk, stamp_desk_start, stamp_valid_lem}
use lib.ListN.{length}
use Rattle.lock_queue.specs.Good.{waiting_formed, good}
use Rattle.lock_queue.specs.Queue.{State, standing, desk, desks}
use Rattle.lock_queue.specs.declared.Waiting.{Waiting}
use Rattle.lock_queue.specs.declared.LeaseExpiry.{LeaseExpiry}
use Rattle.lock_queue.specs.Requests.{joined, without, upgrading, denied, already, full, Request, asks, leaves, lapses, answered, number, after, answer}
use Rattle.lock_queue.proofs.Judged.{accepted_after}
use Rattle.lock_queue.proofs.After.{refusal_leaves, queue_joined_largest}
use Rattle.lock_queue_claims.proofs.Claims.{each_number, others_kept, stays_good}
use Rattle.lock_queue_claims.specs.Traces.{queue_after}
use Rattle.desk_proposals.specs.declared.Known.{Known}
use Rattle.desk_proposals.specs.Propose.{learnt, next_t, own_above, last_t, pair_for, proposal_rows, proposed}
use Rattle.desk_proposals.proofs.Propose.{made_rules, own_above_lem, own_least, pair_exclusive, made_pair}
use Rattle.desk_proposal_claims.specs.Claims.{
  OfDesk,
  Smallest,
  Spent,
  WellProposed,
  PassesPair,
  PassesLearnt,
  entered,
  quiet,
  retried,
  NotDenied,
  retry_numbers,
  RetryListed,
  EachProposal,
  Unmoved,
  proposal_numbers,
  ProposalListed,
}

-- A number with this desk and start is the stamp of its T.
own_stamp_lem : (desk start m : ℕ) → OfDesk desk start m → m ≡ stamp (m / 4294967296) desk start
own_stamp_lem desk start m o = omega arith

pub smallest : Smallest
smallest desk start n d i =
    record {
      mine = record { desk_is = stamp_desk (next_t desk start n) d i; start_is = omega arith };
      above = own_above_lem desk start n d i;
      smallest = λ m o h. least m o h;
    }
  where
    least : (m : ℕ) → OfDesk desk start m → n < m → own_above desk start n ≤ m
    least m o h =
        let same = own_stamp_lem desk start m o in
        let below = own_least desk start n d i (m / 4294967296) (omega arith) in
        omega arith

pub spent : Spent
spent desk start n d i = (out, back)
  where
    out : last_t < next_t desk start n → (m : ℕ) → m < 18446744073709551616 → OfDesk desk start m → m ≤ n
    out h m w o = go (cases (ltb n m))
      where
        go : (ltb n m ≡ true) ⊎ (ltb n m ≡ false) → m ≤ n
        go (inl e) = let below = (smallest desk start n d i).smallest m o (ltb-true n m e) in absurd (omega arith)
        go (inr e) = ltb-false n m e

    back : ((m : ℕ) → m < 18446744073709551616 → OfDesk desk start m → m ≤ n) → last_t < next_t desk start n
    back f =
        let most = f (stamp last_t desk start) (omega arith) (record { desk_is = stamp_desk last_t d i; start_is = omega arith }) in
        let above = own_above_lem desk start n d i in
        omega arith

-- A proposal in each mode keeps the rules, and its own stamp is the desk's.
module _ (k : Known) (d : k.desk < 65536) (i : k.start < 65536) (some : k.desk ≡ 0 → ⊥) where
  own_valid : (n : ℕ) → stamp_valid (own_above k.desk k.start n) ≡ true
  own_valid n = stamp_valid_lem (next_t k.desk k.start n) d i some

  own_some : (n : ℕ) → not (eqb (own_above k.desk k.start n) 0) ≡ true
  own_some n = let up = own_above_lem k.desk k.start n d i in not_in (ne_eqb (own_above k.desk k.start n) 0 (λ z. omega arith))

  own_desk : (n : ℕ) → desk_start (own_above k.desk k.start n) ≡ k.desk * 65536 + k.start
  own_desk n = stamp_desk_start (next_t k.desk k.start n) d i

  fine : (mode : ℕ) → stamp_valid k.pair.s ≡ true → stamp_valid k.pair.x ≡ true → (mode ≡ shared) ⊎ (mode ≡ exclusive)
      → (all (session_checks mode (pair_for k mode)) ≡ true) × (desk_of mode (pair_for k mode) ≡ k.desk * 65536 + k.start)
  unfolding all all_from pair_for
  fine mode vs vx (inl e) = (rw (e, own_valid k.pair.s, vx, own_some k.pair.s), rw e (own_desk k.pair.s))
  fine mode vs vx (inr e) = (rw (e, vs, own_valid k.pair.x, own_some k.pair.x), rw e (own_desk k.pair.x))

pub well_proposed : WellProposed
unfolding proposed
well_proposed k mode d i vs vx e =
    let rules = made_rules k mode e in
    let both = fine k d i rules.1 mode vs vx rules.0 in
    record { rules = rw (made_pair k mode e) both.0; desk = rw (made_pair k mode e) both.1 }

-- ---- a proposal made from a denial's pair

-- An accepted ask raises the largest pair, and leaving keeps it.
pub asked_largest : (lent : ℕ) (q : State) (new : Waiting) → number lent q (asks new) ≡ 0 → (after lent q (asks new)).largest ≡ larger_of_each q.largest new.pair
unfolding joined
asked_largest lent q new e = ap (λ (s : State). s.largest) (accepted_after lent q (asks new) e) ∙ rw (queue_joined_largest new.mode (desk new) q)

pub left_largest : (lent : ℕ) (q : State) (d : ℕ) → number lent q (leaves d) ≡ 0 → (after lent q (leaves d)).largest ≡ q.largest
unfolding without
left_largest lent q d e = ap (λ (s : State). s.largest) (accepted_after lent q (leaves d) e)

pub lapsed_largest : (lent : ℕ) (q : State) (r : LeaseExpiry) → number lent q (lapses r) ≡ 0 → (after lent q (lapses r)).largest ≡ q.largest
unfolding without
lapsed_largest lent q r e = ap (λ (s : State). s.largest) (accepted_after lent q (lapses r) e)

-- While nothing is accepted, the largest pair stays.
one_quiet : (lent : ℕ) (q : State) (r : Request) → entered lent q r ≡ false → (after lent q r).largest ≡ q.largest
one_quiet lent q (asks new) h = go (number lent q (asks new)) refl
  where
    go : (n : ℕ) → number lent q (asks new) ≡ n → (after lent q (asks new)).largest ≡ q.largest
    go zero e = absurd (eqb-false (number lent q (asks new)) 0 h e)
    go (suc n) e = ap (λ (s : State). s.largest) (refusal_leaves lent q (asks new) n e)
one_quiet lent q (leaves d) h = go (number lent q (leaves d)) refl
  where
    go : (n : ℕ) → number lent q (leaves d) ≡ n → (after lent q (leaves d)).largest ≡ q.largest
    go zero e = left_largest lent q d e
    go (suc n) e = ap (λ (s : State). s.largest) (refusal_leaves lent q (leaves d) n e)
one_quiet lent q (lapses r) h = go (number lent q (lapses r)) refl
  where
    go : (n : ℕ) → number lent q (lapses r) ≡ n → (after lent q (lapses r)).largest ≡ q.largest
    go zero e = lapsed_largest lent q r e
    go (suc n) e = ap (λ (s : State). s.largest) (refusal_leaves lent q (lapses r) n e)

all_quiet : (lent : ℕ) (q : State) (rs : List Request) → quiet lent q rs ≡ true → (queue_after lent q rs).largest ≡ q.largest
unfolding quiet queue_after
all_quiet lent q [] h = refl
all_quiet lent q (r ∷ rs) h =
    all_quiet lent (after lent q r) rs (and_right (not (entered lent q r)) (quiet lent (after lent q r) rs) h)
    ∙ one_quiet lent q r (not-true (entered lent q r) (and_left (not (entered lent q r)) (quiet lent (after lent q r) rs) h))

-- A denial's pair is the queue's largest, as it was.
denial_pair : (lent : ℕ) (q : State) (new : Waiting) → number lent q (asks new) ≡ 11 → (answer lent q (asks new)).largest ≡ q.largest
unfolding answer answered
denial_pair lent q new e = rw e (ap (λ (s : State). s.largest) (refusal_leaves lent q (asks new) 10 e))

-- A proposal is not below what the desk knows.
above : (desk start n : ℕ) → n ≤ own_above desk start n
unfolding next_t
above desk start n = pick (ltb n (stamp (n / 4294967296) desk start)) refl
  where
    pick : (b : Bool) → ltb n (stamp (n / 4294967296) desk start) ≡ b → n ≤ stamp (cond b (n / 4294967296) (n / 4294967296 + 1)) desk start
    pick true h = let low = ltb-true n (stamp (n / 4294967296) desk start) h in omega arith
    pick false h = omega arith

pub reaches : (k : Known) (mode : ℕ) → (k.pair.s ≤ (pair_for k mode).s) × (k.pair.x ≤ (pair_for k mode).x)
unfolding pair_for
reaches k mode = go (eqb mode exclusive)
  where
    go : (b : Bool) → (k.pair.s ≤ cond b k.pair.s (own_above k.desk k.start k.pair.s)) × (k.pair.x ≤ cond b (own_above k.desk k.start k.pair.x) k.pair.x)
    go true = (omega arith, above k.desk k.start k.pair.x)
    go false = (above k.desk k.start k.pair.s, omega arith)

-- A pair that is not below the largest is not denied.
not_stale : (mode : ℕ) (largest new : Pair) → largest.s ≤ new.s → largest.x ≤ new.x → T (stale mode largest new) → ⊥
not_stale mode largest new s x t = go (T_or_cases (ltb new.x largest.x) (eqb mode exclusive && ltb new.s largest.s) t)
  where
    go : T (ltb new.x largest.x) ⊎ T (eqb mode exclusive && ltb new.s largest.s) → ⊥
    go (inl h) = omega (arith, ltb→lt new.x largest.x h)
    go (inr h) = omega (arith, ltb→lt new.s largest.s (T_and_right (eqb mode exclusive) (ltb new.s largest.s) h))

pub not_denied : NotDenied
not_denied lent q new between k mode r d =
    let back = (answer lent q (asks new)).largest in
    let now = queue_after lent (after lent q (asks new)) between in
    let stays : now.largest ≡ q.largest =
    all_quiet lent (after lent q (asks new)) between r.still ∙ ap (λ (s : State). s.largest) (refusal_leaves lent q (asks new) 10 r.denial) in
    let same : now.largest ≡ back = stays ∙ sym (denial_pair lent q new r.denial) in
    let pair : (proposed k mode).pair ≡ pair_for k mode = made_pair k mode r.proposes in
    let up = reaches k mode in
    let hs = r.heard_s in
    let hx = r.heard_x in
    not_stale mode now.largest (proposed k mode).pair
    (subst (λ (p : Pair). p.s ≤ (proposed k mode).pair.s) (sym same) (subst (λ (p : Pair). back.s ≤ p.s) (sym pair) (omega arith)))
    (subst (λ (p : Pair). p.x ≤ (proposed k mode).pair.x) (sym same) (subst (λ (p : Pair). back.x ≤ p.x) (sym pair) (omega arith)))
    ((each_number lent now (asks (record { mode = mode; pair = (proposed k mode).pair })) 10).0 d).0

-- A queue that denies is good, and stays so.
denier_good : (lent : ℕ) (q : State) (new : Waiting) → number lent q (asks new) ≡ 11 → T (good lent q)
unfolding number
denier_good lent q new e = go (cases (good lent q))
  where
    go : (good lent q ≡ true) ⊎ (good lent q ≡ false) → T (good lent q)
    go (inl g) = to_T g
    go (inr g) = let ten : number lent q (asks new) ≡ 10 = rw g in absurd (omega (arith, ten, e))

good_through : (lent : ℕ) (q : State) (rs : List Request) → lent ≤ length q.places → T (good lent q) → T (good lent (queue_after lent q rs))
unfolding queue_after
good_through lent q [] l g = g
good_through lent q (r ∷ rs) l g =
    let long = (others_kept lent q r l).1 in
    good_through lent (after lent q r) rs (omega (arith, l, long)) (stays_good lent q r l g)

pub retry_listed : RetryListed
unfolding number
retry_listed lent q new between k mode r l d i vs vx =
    subst (λ (n : ℕ). T (listed retry_numbers n)) (sym is)
    (go (already (upgrading mode (desk asked) (standing now)) (desk asked) (desks (standing now))) (denied now.largest asked) (full (upgrading mode (desk asked) (standing now)) lent now.count)
    (λ e. not_denied lent q new between k mode r (is ∙ e)))
  where
    now : State
    now = queue_after lent (after lent q (asks new)) between

    asked : Waiting
    asked = record { mode = mode; pair = (proposed k mode).pair }

    is_good_lem : good lent now ≡ true
    is_good_lem =
        let g = denier_good lent q new r.denial in
        let same = refusal_leaves lent q (asks new) 10 r.denial in
        from_T (good lent now)
        (good_through lent (after lent q (asks new)) between (subst (λ (p : State). lent ≤ length p.places) (sym same) l) (subst (λ (p : State). T (good lent p)) (sym same) g))

    is_formed : waiting_formed asked ≡ true
    is_formed = (well_proposed k mode d i vs vx r.proposes).rules

    is : retried lent q new between k mode ≡ first
        (row (already (upgrading mode (desk asked) (standing now)) (desk asked) (desks (standing now))) 12 ∷ row (denied now.largest asked) 11
        ∷ row (full (upgrading mode (desk asked) (standing now)) lent now.count) 13 ∷ [])
    is = rw (is_good_lem, is_formed)

    go : (a b c : Bool) → (first (row a 12 ∷ row b 11 ∷ row c 13 ∷ []) ≡ 11 → ⊥) → T (listed retry_numbers (first (row a 12 ∷ row b 11 ∷ row c 13 ∷ [])))
    go true b c n = tt
    go false true c n = absurd (n refl)
    go false false true n = tt
    go false false false n = tt

pub passes_learnt : PassesLearnt
unfolding learnt
passes_learnt k p d i e =
    let known : Known = learnt k p in
    let up : known.pair.x < own_above k.desk k.start known.pair.x = own_above_lem k.desk k.start known.pair.x d i in
    subst (PassesPair p) (sym (made_pair known exclusive e ∙ pair_exclusive known))
    (record { x = omega (arith, up); s = omega arith })

-- ---- the numbers

pub each_proposal : EachProposal
unfolding proposed
each_proposal k mode n = given (proposal_rows k mode) tt n

pub unmoved : Unmoved
unfolding proposed
unmoved k mode n e = (rw e, rw e)

pub proposal_listed : ProposalListed
unfolding proposed
proposal_listed k mode = first_all (listed proposal_numbers) (proposal_rows k mode) tt tt
