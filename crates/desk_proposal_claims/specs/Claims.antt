-- What is claimed of a desk's proposals, by themselves and with the lock queue of one card (docs/RULES.md, section
-- 10). The theorems stand in proofs/.
-- Assumes nothing.
use Rattle.std.specs.Prelude.{ℕ, suc, ◌+◌, ◌*◌, ◌%◌, ◌≤◌, ◌<◌, ◌≡◌, ◌↔◌, List, [], ◌∷◌, Bool, true, false, not, ◌&&◌, T, eqb, length}
use Rattle.lists.specs.Table.{all, applies, no_row, earlier, listed}
use Rattle.stamps.specs.Stamp.{desk_number, desk_of, stamp_valid, session_checks, exclusive, no_pair}
use Rattle.stamps.specs.declared.Pair.{Pair}
use Rattle.lock_queue.specs.Queue.{State}
use Rattle.lock_queue.specs.declared.Waiting.{Waiting}
use Rattle.numbers.specs.Numbers.{MALFORMED, PAIR_DENIED, STANDS_ALREADY, QUEUE_FULL, NO_STAMP_LEFT}
use Rattle.lock_queue.specs.Requests.{Request, asks, leaves, lapses, number, after, answer}
use Rattle.lock_queue_claims.specs.Traces.{queue_after}
use Rattle.desk_proposals.specs.declared.Known.{Known}
use Rattle.desk_proposals.specs.Propose.{learnt, next_t, own_above, last_t, proposal_rows, proposed}

-- A stamp of this desk and start.
pub record OfDesk (desk start n : ℕ) : Type 0 where
  pub desk_is : desk_number n ≡ desk
  pub start_is : n % 65536 ≡ start

-- Rule 10.3: it is the desk's own, it is above n, and no stamp of the desk's own above n is smaller.
pub record SmallestAbove (desk start n r : ℕ) : Type 0 where
  pub mine : OfDesk desk start r
  pub above : n < r
  pub smallest : (m : ℕ) → OfDesk desk start m → n < m → r ≤ m

abbrev pub Smallest : Type 0
Smallest = (desk start n : ℕ) → desk < 65536 → start < 65536 → SmallestAbove desk start n (own_above desk start n)

-- Rule 10.6: the test for 16 holds exactly where none of the desk's own stamps, which are numbers of 64 bits, is above
-- n.
abbrev pub Spent : Type 0
Spent =
    (desk start n : ℕ) → desk < 65536 → start < 65536 →
    (last_t < next_t desk start n) ↔ ((m : ℕ) → m < 18446744073709551616 → OfDesk desk start m → m ≤ n)

-- Rules 10.4, 10.5 and 1: a proposal made from valid stamps keeps a session's rules, and names the desk and start that
-- makes it.
pub record Fine (k : Known) (mode : ℕ) : Type 0 where
  pub rules : all (session_checks mode (proposed k mode).pair) ≡ true
  pub desk : desk_of mode (proposed k mode).pair ≡ k.desk * 65536 + k.start

abbrev pub WellProposed : Type 0
WellProposed =
    (k : Known) (mode : ℕ) → k.desk < 65536 → k.start < 65536 → stamp_valid k.pair.s ≡ true → stamp_valid k.pair.x ≡ true →
    (proposed k mode).number ≡ 0 → Fine k mode

-- Rule 10.18: an exclusive proposal passes every pair that the desk has learnt: its x is larger, and its s is no smaller.
pub record PassesPair (p made : Pair) : Type 0 where
  pub x : p.x < made.x
  pub s : p.s ≤ made.s

abbrev pub PassesLearnt : Type 0
PassesLearnt =
    (k : Known) (p : Pair) → k.desk < 65536 → k.start < 65536 →
    (proposed (learnt k p) exclusive).number ≡ 0 → PassesPair p (proposed (learnt k p) exclusive).pair

-- A request that the queue accepts as an entry: leaving, also by lease, accepts nothing.
abbrev pub entered : ℕ → State → Request → Bool
entered lent q (asks new) = eqb (number lent q (asks new)) 0
entered lent q (leaves d) = false
entered lent q (lapses r) = false

-- None of these requests, in the order in which they come, is accepted as an entry.
unfoldable pub quiet : ℕ → State → List Request → Bool
quiet lent q [] = true
quiet lent q (r ∷ rs) = not (entered lent q r) && quiet lent (after lent q r) rs

-- An ask is denied, requests come of which none enters, and a desk that knows at least the denial's pair proposes. Of
-- any queue, whoever was denied, in either mode.
pub record Retries (lent : ℕ) (q : State) (new : Waiting) (between : List Request) (k : Known) (mode : ℕ) : Type 0 where
  pub denial : number lent q (asks new) ≡ PAIR_DENIED
  pub still : quiet lent (after lent q (asks new)) between ≡ true
  pub heard_s : (answer lent q (asks new)).largest.s ≤ k.pair.s
  pub heard_x : (answer lent q (asks new)).largest.x ≤ k.pair.x
  pub proposes : (proposed k mode).number ≡ 0

-- The number that it gets when it then asks with its proposal.
abbrev pub retried : ℕ → State → Waiting → List Request → Known → ℕ → ℕ
retried lent q new between k mode = number lent (queue_after lent (after lent q (asks new)) between) (asks (record { mode = mode; pair = (proposed k mode).pair }))

-- Rule 10.10: it is not denied.
abbrev pub NotDenied : Type 0
NotDenied =
    (lent : ℕ) (q : State) (new : Waiting) (between : List Request) (k : Known) (mode : ℕ) → Retries lent q new between k mode →
    retried lent q new between k mode ≡ PAIR_DENIED → ⊥

-- Rule 10.10: where what it knows are valid stamps, it is accepted, or it stands already, or the queue is full. The
-- places are at least as many as are lent.
abbrev pub retry_numbers : List ℕ
retry_numbers = STANDS_ALREADY ∷ QUEUE_FULL ∷ []

abbrev pub RetryListed : Type 0
RetryListed =
    (lent : ℕ) (q : State) (new : Waiting) (between : List Request) (k : Known) (mode : ℕ) → Retries lent q new between k mode →
    lent ≤ length q.places → k.desk < 65536 → k.start < 65536 → stamp_valid k.pair.s ≡ true → stamp_valid k.pair.x ≡ true →
    T (listed retry_numbers (retried lent q new between k mode))

-- Rule 10.6: each number exactly when its row applies and none above it does.
abbrev pub EachProposal : Type 0
EachProposal =
    (k : Known) (mode n : ℕ) →
    ((proposed k mode).number ≡ suc n) ↔ (T (applies (suc n) (proposal_rows k mode)) × T (no_row (earlier (suc n) (proposal_rows k mode))))

-- Rule 10.6: a refusal leaves what the desk knows, and gives no pair.
abbrev pub Unmoved : Type 0
Unmoved = (k : Known) (mode n : ℕ) → (proposed k mode).number ≡ suc n → ((proposed k mode).known ≡ k) × ((proposed k mode).pair ≡ no_pair)

-- Rule 5.1: what a proposal may answer, besides 0.
abbrev pub proposal_numbers : List ℕ
proposal_numbers = MALFORMED ∷ NO_STAMP_LEFT ∷ []

abbrev pub ProposalListed : Type 0
ProposalListed = (k : Known) (mode : ℕ) → T (listed proposal_numbers (proposed k mode).number)
