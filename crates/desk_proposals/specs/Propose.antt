-- What a desk knows of one card, what it learns and the pairs that it proposes (docs/RULES.md, section 10; Minuet, section 3.2: a client's MaxTs and MaxTx
-- for a resource, and ProposedTs, ProposedTx).
-- Assumes nothing.
use Rattle.std.specs.Prelude.{ℕ, ◌+◌, List, [], ◌∷◌, cond, not, ◌&&◌, ◌||◌, ltb, eqb}
use Rattle.lists.specs.Table.{Row, row, first, settled}
use Rattle.stamps.specs.Stamp.{stamp, stamp_t, shared, exclusive, own, larger_of_each, no_pair}
use Rattle.stamps.specs.declared.Pair.{Pair}
use Rattle.desk_proposals.specs.declared.Known.{Known}
use Rattle.desk_proposals.specs.declared.Proposed.{Proposed}
use Rattle.numbers.specs.Numbers.{MALFORMED, NO_STAMP_LEFT}

-- Rule 10.2: a desk learns a pair, both stamps at once, and then knows the larger of each.
unfoldable pub learnt : Known → Pair → Known
learnt k p = record { desk = k.desk; start = k.start; pair = larger_of_each k.pair p }

-- Rule 10.3: the T of the smallest stamp of this desk and start above n: n's own T if the stamp made with it is above n, else one more.
unfoldable pub next_t : ℕ → ℕ → ℕ → ℕ
next_t desk start n = cond (ltb n (stamp (stamp_t n) desk start)) (stamp_t n) (stamp_t n + 1)

-- That stamp. (The claim `Smallest` says that there is no smaller one.)
abbrev pub own_above : ℕ → ℕ → ℕ → ℕ
own_above desk start n = stamp (next_t desk start n) desk start

-- The largest T that a stamp has room for: 32 bits.
abbrev pub last_t : ℕ
last_t = 4294967295

-- Rules 10.4 and 10.5: a shared proposal keeps the known x and passes the known s, an exclusive one keeps the known s and passes the known x.
unfoldable pub pair_for : Known → ℕ → Pair
pair_for k mode =
    record {
      s = cond (eqb mode exclusive) k.pair.s (own_above k.desk k.start k.pair.s);
      x = cond (eqb mode exclusive) (own_above k.desk k.start k.pair.x) k.pair.x;
    }

-- Rule 10.6: the numbers of a proposal, in their order.
abbrev pub proposal_rows : Known → ℕ → List Row
proposal_rows k mode =
    -- a mode that is none, or desk 0
    row (not ((eqb mode shared || eqb mode exclusive) && not (eqb k.desk 0))) MALFORMED
    ∷ row (ltb last_t (next_t k.desk k.start (own mode k.pair))) NO_STAMP_LEFT
    ∷ []

-- Rules 10.6 and 10.7: the number of a proposal, its pair (none with a refusal), and what the desk knows then: its own proposal too, or what it knew.
unfoldable pub proposed : Known → ℕ → Proposed
proposed k mode =
    record {
      number = first (proposal_rows k mode);
      pair = settled (first (proposal_rows k mode)) (pair_for k mode) no_pair;
      known = settled (first (proposal_rows k mode)) (learnt k (pair_for k mode)) k;
    }
