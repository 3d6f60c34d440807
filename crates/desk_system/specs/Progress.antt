-- That desks get on (docs/RULES.md, rules 10.19 to 10.22): what stops a desk that relies on a reply of the guard, what
-- it never gets for its own pair, and how long its stamps last. The theorems stand in proofs/Progress.antt and
-- proofs/Stamps.antt.
-- Assumes nothing.
use Rattle.std.specs.Prelude.{ℕ, ◌+◌, ◌*◌, ◌/◌, ◌≤◌, ◌<◌, ◌≡◌, ◌⊎◌, List, [], ◌∷◌, Bool, true, false, ◌&&◌, T, eqb, length}
use Rattle.formats.specs.Format.{Format}
use Rattle.lists.specs.Parts.{Bytes}
use Rattle.lists.specs.Search.{any, none, filter}
use Rattle.lists.specs.Table.{all, listed}
use Rattle.numbers.specs.Numbers.{MALFORMED, MARK_DIFFERS, PAYLOAD_LONG, EDITION_WRONG, EDITIONS_SPENT, REPLY_SHORT, STANDS_ALREADY, NO_STAMP_LEFT}
use Rattle.stamps.specs.Stamp.{stamp_t, shared, exclusive, most_ahead, no_pair}
use Rattle.stamps.specs.declared.Pair.{Pair}
use Rattle.commands.specs.Command.{verifier, update, pair_checks}
use Rattle.commands.specs.declared.Command.{Command}
use Rattle.commands.specs.Bytes.{fields_of, formed}
use Rattle.guard.specs.Replies.{blank_reply}
use Rattle.image.specs.Layout.{shape_ok}
use Rattle.store_model.specs.Serve.{serve}
use Rattle.store_model.specs.Words.{Sent, Event, command_of, accepted, image_after, trace_from}
use Rattle.store_model.specs.Claims.{SentBytes, AllBytes}
use Rattle.lock_queue.specs.Queue.{State, empty_queue, standing, desks, stands}
use Rattle.lock_queue.specs.Requests.{Request, asks, number}
use Rattle.lock_queue_claims.specs.Traces.{queue_after}
use Rattle.lock_queue_claims.specs.Stability.{untouched}
use Rattle.lock_queue.specs.declared.Waiting.{Waiting}
use Rattle.desk_proposals.specs.declared.Known.{Known}
use Rattle.desk_proposals.specs.Propose.{learnt, last_t, proposed}
use Rattle.desk_system.specs.System.{System, Move, Made, same_pair, in_use, knows, AllFit}
use Rattle.desk_system.specs.Claims.{ByRules, finally}

-- ---- a command on the word of a reply

-- The pair in the reply to a request, the card that it names, and the store that it leaves.
abbrev pub reply_pair : Format → List ℕ → Sent → Pair
reply_pair f image s = (serve f image s.command s.lent).answer.pair

abbrev pub card_asked : Format → Sent → ℕ
card_asked f s = (fields_of f s.command).card

abbrev pub image_left : Format → List ℕ → Sent → List ℕ
image_left f image s = (serve f image s.command s.lent).image

-- The guard replies to a request with the entry of its card (whatever the number, but 9, 1 and 2). Requests come, latest
-- first, of which none is accepted for the card. A desk that knows at least the reply's pair, and on neither side a T
-- that is 1,000,000 or more above it, proposes, and sends a well-formed command for the card under its proposal, that
-- relies on no less than the reply's pair.
pub record Resumes (f : Format) (image : List ℕ) (asked : Sent) (between : List Sent) (k : Known) (mode : ℕ) (s : Sent) : Type 0 where
  pub replied : blank_reply (serve f image asked.command asked.lent).answer.number ≡ false
  pub still : none (accepted (card_asked f asked)) (trace_from f (image_left f image asked) between) ≡ true
  pub proposes : (proposed k mode).number ≡ 0
  pub heard_s : (reply_pair f image asked).s ≤ k.pair.s
  pub heard_x : (reply_pair f image asked).x ≤ k.pair.x
  pub near_s : stamp_t k.pair.s < stamp_t (reply_pair f image asked).s + most_ahead
  pub near_x : stamp_t k.pair.x < stamp_t (reply_pair f image asked).x + most_ahead
  pub is_formed : formed f s.command ≡ true
  pub card_is : (fields_of f s.command).card ≡ card_asked f asked
  pub opens : update (fields_of f s.command) ≡ (proposed k mode).pair
  pub relies_s : (reply_pair f image asked).s ≤ (verifier (fields_of f s.command)).s
  pub relies_x : (reply_pair f image asked).x ≤ (verifier (fields_of f s.command)).x

-- Rule 10.19: it is neither stale nor from too far ahead. It is accepted, or refused for its mark, its payload, the
-- edition or the reply buffer, and for nothing else. Of any sound store, in either version.
abbrev pub guard_numbers : List ℕ
guard_numbers = MARK_DIFFERS ∷ PAYLOAD_LONG ∷ EDITION_WRONG ∷ EDITIONS_SPENT ∷ REPLY_SHORT ∷ []

abbrev pub NotStale : Type 0
NotStale =
    (f : Format) (image : List ℕ) (asked : Sent) (between : List Sent) (k : Known) (mode : ℕ) (s : Sent) →
    k.desk < 65536 → k.start < 65536 → Bytes image → SentBytes asked → AllBytes between → Resumes f image asked between k mode s →
    T (listed guard_numbers (serve f (image_after f (image_left f image asked) between) s.command s.lent).answer.number)

-- ---- a desk's own pair

-- The entry with which a desk asks in a mode under its proposal.
abbrev pub own_entry : System → ℕ → ℕ → ℕ → Waiting
own_entry y who card mode = record { mode = mode; pair = (proposed (knows y who card) mode).pair }

-- Rule 10.20: of a desk with a number of 1 or more. In either mode it makes a proposal or has no stamp left. Under a
-- proposal no ask of it is malformed, at any queue; it is told that it stands already only where an entry under its own
-- desk and start stands, so at no queue that has accepted nothing from it. And a command of it that relies on that pair,
-- or on what the desk knew, breaks no rule of pairs.
pub record OwnPair (y : System) (who card mode : ℕ) : Type 0 where
  pub proposes :
      (who / 65536 ≡ 0 → ⊥) → (mode ≡ shared) ⊎ (mode ≡ exclusive)
      → T (listed (NO_STAMP_LEFT ∷ []) (proposed (knows y who card) mode).number)
  pub asked : (proposed (knows y who card) mode).number ≡ 0 → (lent : ℕ) (q : State) → number lent q (asks (own_entry y who card mode)) ≡ MALFORMED → ⊥
  pub stands_itself :
      (proposed (knows y who card) mode).number ≡ 0 → (lent : ℕ) (q : State)
      → number lent q (asks (own_entry y who card mode)) ≡ STANDS_ALREADY
      → T (stands who (desks (standing q)))
  pub unasked :
      (proposed (knows y who card) mode).number ≡ 0 → (lent : ℕ) (places : List Waiting) (rs : List Request) → lent ≤ length places
      → untouched who lent (empty_queue places) rs ≡ true
      → number lent (queue_after lent (empty_queue places) rs) (asks (own_entry y who card mode)) ≡ STANDS_ALREADY → ⊥
  pub sent :
      (proposed (knows y who card) mode).number ≡ 0 → (c : Command) → c.mode ≡ mode
      → update c ≡ (proposed (knows y who card) mode).pair
      → (verifier c ≡ (proposed (knows y who card) mode).pair) ⊎ (verifier c ≡ y.desks.known who card)
      → all (pair_checks c) ≡ true

abbrev pub OwnPairs : Type 0
OwnPairs =
    (v : Format) (n c : ℕ) (places : ℕ → ℕ → List Waiting) (logs : ℕ → List ℕ) (steps : List Move) → ByRules v n c places logs steps →
    (who card mode : ℕ) → in_use (finally v n c places logs steps) who ≡ true → OwnPair (finally v n c places logs steps) who card mode

-- ---- how long stamps last

-- The proposals that were made for a card in a mode.
abbrev pub made_for : ℕ → ℕ → Made → Bool
made_for card mode m = eqb m.card card && eqb m.mode mode

abbrev pub proposals_for : ℕ → ℕ → List Made → ℕ
proposals_for card mode made = length (filter (made_for card mode) made)

-- Rule 10.21: among desks by the rules a desk has no stamp left only after 4,294,967,296 proposals for the card in that
-- mode, all desks counted: each of them uses up one T at the most.
abbrev pub StampsLast : Type 0
StampsLast =
    (v : Format) (n c : ℕ) (places : ℕ → ℕ → List Waiting) (logs : ℕ → List ℕ) (steps : List Move) → ByRules v n c places logs steps →
    (who card mode : ℕ) → in_use (finally v n c places logs steps) who ≡ true →
    (proposed (knows (finally v n c places logs steps) who card) mode).number ≡ NO_STAMP_LEFT →
    4294967296 ≤ proposals_for card mode (finally v n c places logs steps).desks.made

-- What a desk does for one card that listens to the guard alone: it hears a pair, or proposes. Latest first.
pub data Listening : Type 0 where
  hears : Pair → Listening
  makes_pair : (mode : ℕ) → Listening

-- What it knows then, having begun with nothing.
unfoldable pub known_by : ℕ → ℕ → List Listening → Known
known_by desk start [] = record { desk = desk; start = start; pair = no_pair }
known_by desk start (hears p ∷ before) = learnt (known_by desk start before) p
known_by desk start (makes_pair mode ∷ before) = (proposed (known_by desk start before) mode).known

-- Every pair that it heard stood in a reply for the card.
abbrev pub shown_for : ℕ → Pair → Event → Bool
shown_for card pair e = eqb (command_of e).card card && same_pair e.answer.pair pair

unfoldable pub heard_in : List Event → ℕ → List Listening → Bool
heard_in log card [] = true
heard_in log card (hears p ∷ before) = any (shown_for card p) log && heard_in log card before
heard_in log card (makes_pair mode ∷ before) = heard_in log card before

-- How many commands were accepted for the card, and how often the desk proposed.
abbrev pub accepted_for : ℕ → List Event → ℕ
accepted_for card log = length (filter (accepted card) log)

unfoldable pub own_made : List Listening → ℕ
own_made [] = 0
own_made (hears p ∷ before) = own_made before
own_made (makes_pair mode ∷ before) = own_made before + 1

-- Rule 10.22: whatever anybody sends to the store, by the rules or not, a desk that listens to the guard has no stamp
-- left only after so much: each accepted command for the card has raised the T by 1,000,000 at the most, each proposal
-- of its own by 1. So it takes at least 4,295 of both together: no command alone, and no broken clock, uses a card up.
pub record Spends (commands proposals : ℕ) : Type 0 where
  pub raised : last_t ≤ most_ahead * commands + proposals
  pub together : 4295 ≤ commands + proposals

abbrev pub GuardSpends : Type 0
GuardSpends =
    (v : Format) (n c : ℕ) (places : ℕ → ℕ → List Waiting) (logs : ℕ → List ℕ) (steps : List Move) → T (shape_ok v n c) → AllFit steps →
    (card desk start mode : ℕ) (doings : List Listening) → desk < 65536 → start < 65536 → heard_in (finally v n c places logs steps).store.trace card doings ≡ true →
    (proposed (known_by desk start doings) mode).number ≡ NO_STAMP_LEFT →
    Spends (accepted_for card (finally v n c places logs steps).store.trace) (own_made doings)
