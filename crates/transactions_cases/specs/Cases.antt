-- Worked runs of desk 5, by computation on bytes: an ordinary one, a commit that is cut, a crash with its recovery, the
-- hazard of an update that was written out but not noted as synced; and for each rule a run in which it alone is
-- broken, and with it the claim. Proved in proofs/Cases.antt.
-- Assumes nothing.
use Rattle.std.specs.Prelude.{ℕ, ◌≡◌, List, [], ◌∷◌, ◌++◌, Bool, true, false, cond, ◌&&◌, ◌||◌, length, take, drop, eqb}
use Rattle.formats.specs.Format.{V1}
use Rattle.stamps.specs.Stamp.{stamp, exclusive, no_mark}
use Rattle.stamps.specs.declared.Mark.{Mark}
use Rattle.commands.specs.Command.{original}
use Rattle.image.specs.Image.{fresh}
use Rattle.store_model.specs.Words.{Sent}
use Rattle.store_model.specs.Cases.{pair, with_pairs, sends, mark_of, text205, text401, long}
use Rattle.redo_log.specs.Log.{LogRecord, records}
use Rattle.redo_log_claims.specs.Cases.{begin_of, update_of, commit_of, synced_of, empty_log}
use Rattle.redo_recovery_model.specs.Recovery.{Pairs, recovered}
use Rattle.redo_recovery_model.specs.Claims.{text_in, text_of}
use Rattle.transactions.specs.Claims.{Moment}
use Rattle.transactions.specs.Desks.{Desks, DeskStep, outside, by_desk, desks_opening, lawful_desk_step, after_desk_steps, lawful_desk_steps}
use Rattle.transactions.specs.System.{OneDesk, Step, other, order, arrive, append, crash, recover, renew, one_desk_opening, mark_in, same_bytes, lawful, outcome, after_step, after_steps, lawful_all}

-- ---- who sends what

-- Two cards with room 16, and an empty log.
abbrev pub at_first : OneDesk
at_first = one_desk_opening (fresh V1 2 16) (empty_log 64)

-- The texts `190`, `380` and `210`.
abbrev pub text190 : List ℕ
text190 = 49 ∷ 57 ∷ 48 ∷ []

abbrev pub text380 : List ℕ
text380 = 51 ∷ 56 ∷ 48 ∷ []

abbrev pub text210 : List ℕ
text210 = 50 ∷ 49 ∷ 48 ∷ []

-- Stamps of desk 1, of desk 5 and of desk 5 started again, by their T.
abbrev pub one : ℕ → ℕ
one t = stamp t 1 0

abbrev pub five : ℕ → ℕ
five t = stamp t 5 0

abbrev pub restarted : ℕ → ℕ
restarted t = stamp t 5 1

-- A command for card k that relies on x and opens a session under y, from one mark to another.
abbrev pub command : ℕ → ℕ → ℕ → ℕ → Mark → Mark → List ℕ → List ℕ → Sent
command act k x y expected next text lent = sends (with_pairs act exclusive k (pair 0 x) (pair 0 y) expected next 0 (length text)) text lent

-- Desk 1 writes card k, and anybody reads it; neither has a mark.
abbrev pub writes1 : ℕ → ℕ → List ℕ → Step
writes1 k x text = other (command 3 k x x no_mark no_mark text [])

abbrev pub reading : ℕ → ℕ → Sent
reading k x = command 1 k x x no_mark no_mark [] (long 3)

-- Desk 5's mark, and its three orders.
abbrev pub ours : Mark
ours = mark_of 5 1

abbrev pub prepare : ℕ → ℕ → ℕ → Sent
prepare k x y = command 5 k x y no_mark ours [] []

abbrev pub write_out : ℕ → ℕ → ℕ → List ℕ → Sent
write_out k x y text = command 3 k x y ours ours text []

abbrev pub release : ℕ → ℕ → ℕ → Sent
release k x y = command 5 k x y ours no_mark [] []

-- An append that is not cut.
abbrev pub logs : LogRecord → Step
logs r = append 99 r

-- What stands on both cards, and what is meant to.
pub record Seen : Type 0 where
  pub stands0 : List ℕ
  pub stands1 : List ℕ
  pub meant0 : List ℕ
  pub meant1 : List ℕ

abbrev pub seeing : List ℕ → List ℕ → List ℕ → List ℕ → Seen
seeing a b c d = record { stands0 = a; stands1 = b; meant0 = c; meant1 = d }

abbrev pub see : OneDesk → Seen
see y = seeing (text_in y.image original 0) (text_in y.image original 1) (y.meant 0 original) (y.meant 1 original)

-- What is seen after each part of a run, and whether all of it is by the rules.
abbrev pub seen_after : OneDesk → List (List Step) → List Seen
seen_after y [] = []
seen_after y (part ∷ parts) = see (after_steps 5 y part) ∷ seen_after (after_steps 5 y part) parts

abbrev pub in_order : OneDesk → List (List Step) → Bool
in_order y [] = true
in_order y (part ∷ parts) = lawful_all 5 y part && in_order (after_steps 5 y part) parts

abbrev pub after_all : OneDesk → List (List Step) → OneDesk
after_all y [] = y
after_all y (part ∷ parts) = after_all (after_steps 5 y part) parts

-- The number that a read gets, and what it shows.
pub record Shows : Type 0 where
  pub number : ℕ
  pub text : List ℕ

abbrev pub read_now : OneDesk → ℕ → ℕ → Shows
read_now y k x = record { number = (outcome y (reading k x)).answer.number; text = take (outcome y (reading k x)).answer.length (outcome y (reading k x)).reply }

-- ---- an ordinary run

-- Desk 1 has written both cards. Desk 5 logs a transaction that changes both, and prepares them.
abbrev pub begins : List Step
begins =
    writes1 0 (one 1) text190
    ∷ writes1 1 (one 1) text380
    ∷ logs (begin_of 1)
    ∷ logs (update_of 0 1 text205)
    ∷ logs (update_of 1 1 text401)
    ∷ []

abbrev pub prepares_both : List Step
prepares_both = order (prepare 0 (one 1) (five 2)) 0 1 ∷ order (prepare 1 (one 1) (five 2)) 0 0 ∷ arrive 1 ∷ arrive 0 ∷ []

abbrev pub commits : List Step
commits = logs (commit_of 1) ∷ []

-- It writes card 0 out, releases it, and notes it as synced; then card 1.
abbrev pub writes_out0 : List Step
writes_out0 = order (write_out 0 (five 2) (five 3) text205) 1 1 ∷ arrive 0 ∷ []

abbrev pub releases0 : List Step
releases0 = order (release 0 (five 3) (five 4)) 0 0 ∷ arrive 0 ∷ []

abbrev pub syncs0 : List Step
syncs0 = logs (synced_of 0 1) ∷ []

abbrev pub finishes1 : List Step
finishes1 =
    order (write_out 1 (five 2) (five 3) text401) 2 2 ∷ arrive 0 ∷ order (release 1 (five 3) (five 4)) 0 0 ∷ arrive 0 ∷ logs (synced_of 1 1) ∷ []

pub record Ordinary : Type 0 where
  pub rules : in_order at_first (begins ∷ prepares_both ∷ commits ∷ writes_out0 ∷ releases0 ∷ syncs0 ∷ finishes1 ∷ []) ≡ true
  -- both texts change at the commit, before either card does
  pub sees :
      seen_after at_first (begins ∷ prepares_both ∷ commits ∷ writes_out0 ∷ releases0 ∷ syncs0 ∷ finishes1 ∷ [])
      ≡ seeing text190 text380 text190 text380
      ∷ seeing text190 text380 text190 text380
      ∷ seeing text190 text380 text205 text401
      ∷ seeing text205 text380 text205 text401
      ∷ seeing text205 text380 text205 text401
      ∷ seeing text205 text380 text205 text401
      ∷ seeing text205 text401 text205 text401
      ∷ []
  -- between the two cards a reader is shown the new one, and of the other nothing
  pub new : read_now (after_all at_first (begins ∷ prepares_both ∷ commits ∷ writes_out0 ∷ releases0 ∷ [])) 0 (five 4) ≡ record { number = 0; text = text205 }
  pub marked : read_now (after_all at_first (begins ∷ prepares_both ∷ commits ∷ writes_out0 ∷ releases0 ∷ [])) 1 (five 2) ≡ record { number = 4; text = [] }

-- ---- the commit is cut, one store before its end and at its end

abbrev pub cut_at : ℕ → List Step
cut_at stores = append stores (commit_of 1) ∷ crash ∷ []

-- Started again without its commit, the desk gives the transaction up: it finds both cards marked, and releases them as
-- they are.
abbrev pub gives_up : List Step
gives_up =
    other (reading 0 (five 2))
    ∷ order (release 0 (five 2) (restarted 3)) 0 0
    ∷ other (reading 1 (five 2))
    ∷ order (release 1 (five 2) (restarted 3)) 0 0
    ∷ arrive 1
    ∷ arrive 0
    ∷ []

pub record Cut : Type 0 where
  pub rules : in_order at_first (begins ∷ prepares_both ∷ cut_at 15 ∷ gives_up ∷ []) ≡ true
  pub sees15 :
      seen_after at_first (begins ∷ prepares_both ∷ cut_at 15 ∷ gives_up ∷ [])
      ≡ seeing text190 text380 text190 text380
      ∷ seeing text190 text380 text190 text380
      ∷ seeing text190 text380 text190 text380
      ∷ seeing text190 text380 text190 text380
      ∷ []
  pub freed : read_now (after_all at_first (begins ∷ prepares_both ∷ cut_at 15 ∷ gives_up ∷ [])) 1 (restarted 3) ≡ record { number = 0; text = text380 }
  pub rules16 : in_order at_first (begins ∷ prepares_both ∷ cut_at 16 ∷ []) ≡ true
  pub sees16 : see (after_all at_first (begins ∷ prepares_both ∷ cut_at 16 ∷ [])) ≡ seeing text190 text380 text205 text401

-- ---- a crash between the commit and the write-out, and recovery

-- An order of the first start comes once more, late. Started again, the desk reads its log back, asks for both cards,
-- and writes out what is due.
abbrev pub recovers : List Step
recovers =
    crash
    ∷ arrive 1
    ∷ other (reading 0 (five 2))
    ∷ order (write_out 0 (five 2) (restarted 3) text205) 1 0
    ∷ arrive 0
    ∷ order (release 0 (restarted 3) (restarted 4)) 0 0
    ∷ arrive 0
    ∷ logs (synced_of 0 1)
    ∷ other (reading 1 (five 2))
    ∷ order (write_out 1 (five 2) (restarted 3) text401) 2 0
    ∷ arrive 0
    ∷ order (release 1 (restarted 3) (restarted 4)) 0 0
    ∷ arrive 0
    ∷ logs (synced_of 1 1)
    ∷ []

pub record CrashRecovered : Type 0 where
  pub rules : in_order at_first (begins ∷ prepares_both ∷ commits ∷ recovers ∷ []) ≡ true
  pub sees :
      seen_after at_first (begins ∷ prepares_both ∷ commits ∷ recovers ∷ [])
      ≡ seeing text190 text380 text190 text380
      ∷ seeing text190 text380 text190 text380
      ∷ seeing text190 text380 text205 text401
      ∷ seeing text205 text401 text205 text401
      ∷ []

-- ---- the hazard: card 0 is written out and released, but not noted as synced when the desk goes down, and then desk 1 writes it

abbrev pub overtaken : List Step
overtaken = crash ∷ writes1 0 (one 9) text210 ∷ []

-- By the rules the desk, started again, finds that the card does not bear its mark, and notes it as synced without a
-- write.
abbrev pub notes : List Step
notes = other (reading 0 (one 9)) ∷ logs (synced_of 0 1) ∷ []

-- The pairs that recovery is given: this x for both cards.
abbrev pub both_under : ℕ → Pairs
both_under x = record { s = []; x = x ∷ x ∷ [] }

-- What recovery's writes make of the original of card 0, by the log as it is.
abbrev pub after_recovery : OneDesk → List ℕ
after_recovery y = text_in (recovered (both_under (restarted 10)) y.log y.image).image original 0

pub record Hazard : Type 0 where
  pub rules : in_order at_first (begins ∷ prepares_both ∷ commits ∷ writes_out0 ∷ releases0 ∷ overtaken ∷ notes ∷ []) ≡ true
  pub sees :
      see (after_all at_first (begins ∷ prepares_both ∷ commits ∷ writes_out0 ∷ releases0 ∷ overtaken ∷ notes ∷ []))
      ≡ seeing text210 text380 text210 text401
  -- before the note recovery would write the old text over desk 1's; after it, not
  pub before : after_recovery (after_all at_first (begins ∷ prepares_both ∷ commits ∷ writes_out0 ∷ releases0 ∷ overtaken ∷ [])) ≡ text205
  pub after : after_recovery (after_all at_first (begins ∷ prepares_both ∷ commits ∷ writes_out0 ∷ releases0 ∷ overtaken ∷ notes ∷ [])) ≡ text210

-- ---- recovery as a step: it is cut behind the line of card 0, run again, and both cards are released on its word

abbrev pub rewrites_half : List Step
rewrites_half = crash ∷ recover (both_under (restarted 3)) 2 ∷ crash ∷ []

abbrev pub rewrites_all : List Step
rewrites_all = recover (both_under (restarted 4)) 4 ∷ []

abbrev pub releases_both : List Step
releases_both =
    order (release 0 (restarted 4) (restarted 5)) 0 1
    ∷ order (release 1 (restarted 4) (restarted 5)) 0 0
    ∷ arrive 0
    ∷ arrive 1
    ∷ logs (synced_of 0 1)
    ∷ logs (synced_of 1 1)
    ∷ []

pub record Rewritten : Type 0 where
  pub rules : in_order at_first (begins ∷ prepares_both ∷ commits ∷ rewrites_half ∷ rewrites_all ∷ releases_both ∷ []) ≡ true
  pub sees :
      seen_after at_first (begins ∷ prepares_both ∷ commits ∷ rewrites_half ∷ rewrites_all ∷ releases_both ∷ [])
      ≡ seeing text190 text380 text190 text380
      ∷ seeing text190 text380 text190 text380
      ∷ seeing text190 text380 text205 text401
      ∷ seeing text205 text380 text205 text401
      ∷ seeing text205 text401 text205 text401
      ∷ seeing text205 text401 text205 text401
      ∷ []
  -- it is a run of which the claims speak
  pub met : Moment 5 (after_steps 5 at_first (begins ++ (prepares_both ++ (commits ++ (rewrites_half ++ rewrites_all)))))

-- ---- the log begins again, once both cards are noted as synced, and a second transaction follows

abbrev pub renews_log : List Step
renews_log = renew ∷ []

abbrev pub second : List Step
second =
    logs (begin_of 2)
    ∷ logs (update_of 0 1 text210)
    ∷ order (prepare 0 (five 4) (five 5)) 0 2
    ∷ arrive 0
    ∷ logs (commit_of 2)
    ∷ []

abbrev pub around_renewal : List (List Step)
around_renewal = begins ∷ prepares_both ∷ commits ∷ writes_out0 ∷ releases0 ∷ syncs0 ∷ finishes1 ∷ renews_log ∷ second ∷ []

pub record Renewed : Type 0 where
  pub rules : in_order at_first around_renewal ≡ true
  pub sees : see (after_all at_first around_renewal) ≡ seeing text205 text401 text210 text401
  pub lines : length (records (after_all at_first around_renewal).log) ≡ 3

-- ---- one rule broken (rule 16.15)

-- The claim, of the original of card k.
abbrev pub agrees : OneDesk → ℕ → Bool
agrees y k =
    same_bytes
    (cond (eqb (mark_in y.image k).desk 5) (text_of (records y.log) original k (text_in y.image original k)) (text_in y.image original k))
    (y.meant k original)

-- Rule 16.15: steps by the rules, one that is not, and steps by the rules: the claim fails of the original of card 0.
pub record BrokenAt (lead : List Step) (wrong : Step) (rest : List Step) : Type 0 where
  pub before : lawful_all 5 at_first lead ≡ true
  pub refused : lawful 5 (after_steps 5 at_first lead) wrong ≡ false
  pub after : lawful_all 5 (after_step 5 (after_steps 5 at_first lead) wrong) rest ≡ true
  pub broken : agrees (after_steps 5 at_first (lead ++ wrong ∷ rest)) 0 ≡ false

-- Desk 1 has written card 0; the desk logs a transaction with these updates, prepares the card, and commits.
abbrev pub logs_all : List LogRecord → List Step
logs_all [] = []
logs_all (u ∷ us) = logs u ∷ logs_all us

abbrev pub ready : List LogRecord → List Step
ready us = writes1 0 (one 1) text190 ∷ logs (begin_of 1) ∷ logs_all us ++ (order (prepare 0 (one 1) (five 2)) 0 0 ∷ arrive 0 ∷ [])

abbrev pub single : List LogRecord
single = update_of 0 1 text205 ∷ []

abbrev pub up_to_commit : List Step
up_to_commit = ready single ++ (logs (commit_of 1) ∷ [])

-- It is written out and released, and not noted; desk 1 writes the card.
abbrev pub unnoted : List Step
unnoted =
    up_to_commit
    ++ (order (write_out 0 (five 2) (five 3) text205) 1 0
    ∷ arrive 0
    ∷ order (release 0 (five 3) (five 4)) 0 0
    ∷ arrive 0
    ∷ writes1 0 (one 9) text210
    ∷ [])

-- After a write the card is released.
abbrev pub releases_next : List Step
releases_next = arrive 0 ∷ order (release 0 (five 3) (five 4)) 0 0 ∷ arrive 0 ∷ []

-- Updates of both languages, and the write of the translation; two updates of the original.
abbrev pub both : List LogRecord
both = update_of 0 1 text205 ∷ update_of 0 2 text401 ∷ []

abbrev pub write_translated : Sent
write_translated = sends (with_pairs 4 exclusive 0 (pair 0 (five 2)) (pair 0 (five 3)) ours ours 1 3) text401 []

abbrev pub twice : List LogRecord
twice = update_of 0 1 text205 ∷ update_of 0 1 text401 ∷ []

-- Two orders that open no session of their own, and so do not make each other stale: the first is repeated after the
-- second.
abbrev pub sessionless : ℕ → List ℕ → Step
sessionless line text = order (write_out 0 (five 2) (five 2) text) line 0

abbrev pub repeated : List Step
repeated =
    ready twice
    ++ (logs (commit_of 1)
    ∷ sessionless 1 text205
    ∷ arrive 0
    ∷ sessionless 2 text401
    ∷ arrive 0
    ∷ arrive 1
    ∷ order (release 0 (five 2) (five 3)) 0 1
    ∷ arrive 0
    ∷ [])

pub record Sessionless : Type 0 where
  pub before : lawful_all 5 at_first (take 7 repeated) ≡ true
  pub refused : lawful 5 (after_steps 5 at_first (take 7 repeated)) (sessionless 1 text205) ≡ false
  pub refused_too : lawful 5 (after_steps 5 at_first (take 9 repeated)) (sessionless 2 text401) ≡ false
  pub after : lawful_all 5 (after_steps 5 at_first (take 10 repeated)) (drop 10 repeated) ≡ true
  pub broken : agrees (after_steps 5 at_first repeated) 0 ≡ false

pub record OrderRulesNeeded : Type 0 where
  -- a commit of a card that is not prepared; one after a release was sent
  pub unprepared : BrokenAt (writes1 0 (one 1) text190 ∷ logs (begin_of 1) ∷ logs (update_of 0 1 text205) ∷ []) (logs (commit_of 1)) []
  pub released : BrokenAt (ready single ++ (order (release 0 (five 2) (five 3)) 0 0 ∷ [])) (logs (commit_of 1)) (arrive 0 ∷ [])
  -- a card is prepared while an update of it is due
  pub prepared_due : BrokenAt unnoted (order (prepare 0 (one 9) (five 10)) 0 0) (arrive 0 ∷ [])
  -- a release before the write-out
  pub unwritten : BrokenAt up_to_commit (order (release 0 (five 2) (five 3)) 0 0) (arrive 0 ∷ [])
  -- a write of a line that is not due, before the commit; of another text than the line's; of a line with one before it
  -- that is not written out
  pub not_due : BrokenAt (ready single) (order (write_out 0 (five 2) (five 3) text205) 1 0) (arrive 0 ∷ [])
  pub other_text : BrokenAt up_to_commit (order (write_out 0 (five 2) (five 3) text401) 1 0) releases_next
  pub passed_over : BrokenAt (ready both ++ (logs (commit_of 1) ∷ [])) (order write_translated 2 0) releases_next
  -- a synced record of a card that bears the mark; of a transaction that is not committed
  pub not_free : BrokenAt up_to_commit (logs (synced_of 0 1)) []
  pub uncommitted :
      BrokenAt (writes1 0 (one 1) text190 ∷ logs (begin_of 1) ∷ logs (update_of 0 1 text205) ∷ []) (logs (synced_of 0 1))
      (order (prepare 0 (one 1) (five 2)) 0 0 ∷ arrive 0 ∷ logs (commit_of 1) ∷ [])
  -- somebody else takes the mark off; somebody else puts it on
  pub taken_off : BrokenAt up_to_commit (other (command 5 0 (five 2) (one 3) ours no_mark [] [])) []
  pub put_on : BrokenAt unnoted (other (command 5 0 (one 9) (one 10) no_mark ours [] [])) []
  -- an order that relies on an x which no answer has shown: it comes late, and is not stale
  pub guessed :
      BrokenAt (writes1 0 (one 1) text190 ∷ []) (order (prepare 0 (five 20) (five 21)) 0 0)
      (logs (begin_of 1)
      ∷ logs (update_of 0 1 text205)
      ∷ order (prepare 0 (one 1) (five 2)) 0 0
      ∷ arrive 0
      ∷ logs (commit_of 1)
      ∷ order (write_out 0 (five 2) (five 3) text205) 1 0
      ∷ arrive 0
      ∷ order (release 0 (five 3) (five 4)) 0 0
      ∷ arrive 0
      ∷ writes1 0 (one 9) text210
      ∷ arrive 3
      ∷ [])
  -- orders that open no session of their own
  pub sessions : Sessionless
  -- a recovery over a card that no longer bears the mark; one under an x that is stored already, cut between two lines
  -- of the card, with a release under way
  pub unmarked : BrokenAt unnoted (recover (both_under (restarted 10)) 3) []
  pub unraised :
      BrokenAt
      (ready twice
      ++ (logs (commit_of 1)
      ∷ order (write_out 0 (five 2) (five 3) text205) 1 0
      ∷ arrive 0
      ∷ order (write_out 0 (five 3) (five 4) text401) 2 0
      ∷ arrive 0
      ∷ order (release 0 (five 4) (five 5)) 0 0
      ∷ []))
      (recover (both_under (five 4)) 2)
      (arrive 0 ∷ [])
  -- the log begins again while an update is due
  pub still_due : BrokenAt up_to_commit renew []

-- ---- two desks

-- Desk 6, its stamps and its mark.
abbrev pub six : ℕ → ℕ
six t = stamp t 6 0

abbrev pub theirs : Mark
theirs = mark_of 6 7

abbrev pub both_ruled : ℕ → Bool
both_ruled d = eqb d 5 || eqb d 6

abbrev pub two_desks : Desks
two_desks = desks_opening (fresh V1 2 16) (λ d. empty_log 64)

-- Desk 5 is to change both cards, and desk 6 card 1. Each logs its transaction and sends its prepares; desk 6 is first
-- on card 1.
abbrev pub both_begin : List DeskStep
both_begin =
    outside (command 3 0 (one 1) (one 1) no_mark no_mark text190 [])
    ∷ outside (command 3 1 (one 1) (one 1) no_mark no_mark text380 [])
    ∷ by_desk 5 (logs (begin_of 1))
    ∷ by_desk 5 (logs (update_of 0 1 text205))
    ∷ by_desk 5 (logs (update_of 1 1 text401))
    ∷ by_desk 6 (logs (begin_of 7))
    ∷ by_desk 6 (logs (update_of 1 1 text210))
    ∷ by_desk 5 (order (prepare 0 (one 1) (five 2)) 0 1)
    ∷ by_desk 5 (order (prepare 1 (one 1) (five 2)) 0 0)
    ∷ by_desk 6 (order (command 5 1 (one 1) (six 2) no_mark theirs [] []) 0 0)
    ∷ by_desk 6 (arrive 0)
    ∷ by_desk 5 (arrive 1)
    ∷ by_desk 5 (arrive 0)
    ∷ []

-- Desk 6 commits, writes out and releases.
abbrev pub six_commits : List DeskStep
six_commits = by_desk 6 (logs (commit_of 7)) ∷ []

abbrev pub six_finishes : List DeskStep
six_finishes =
    by_desk 6 (order (command 3 1 (six 2) (six 3) theirs theirs text210 []) 1 0)
    ∷ by_desk 6 (arrive 0)
    ∷ by_desk 6 (order (command 5 1 (six 3) (six 4) theirs no_mark [] []) 0 0)
    ∷ by_desk 6 (arrive 0)
    ∷ by_desk 6 (logs (synced_of 1 7))
    ∷ []

-- Then desk 5 prepares card 1, and commits.
abbrev pub five_commits : List DeskStep
five_commits = by_desk 5 (order (prepare 1 (six 4) (five 5)) 0 0) ∷ by_desk 5 (arrive 0) ∷ by_desk 5 (logs (commit_of 1)) ∷ []

abbrev pub see_desks : Desks → Seen
see_desks y = seeing (text_in y.image original 0) (text_in y.image original 1) (y.meant 0 original) (y.meant 1 original)

pub record TwoDesks : Type 0 where
  pub rules : lawful_desk_steps both_ruled two_desks (both_begin ++ (six_commits ++ (six_finishes ++ five_commits))) ≡ true
  -- while desk 6 has card 1, desk 5 may not commit
  pub early : lawful_desk_step both_ruled (after_desk_steps two_desks both_begin) (by_desk 5 (logs (commit_of 1))) ≡ false
  pub first : see_desks (after_desk_steps two_desks (both_begin ++ six_commits)) ≡ seeing text190 text380 text190 text210
  pub last : see_desks (after_desk_steps two_desks (both_begin ++ (six_commits ++ (six_finishes ++ five_commits)))) ≡ seeing text190 text210 text205 text401

-- ---- all of them

-- One table of runs: an ordinary one, a commit that is cut, a crash, the hazard, a recovery that is cut, a log that begins
-- again, two desks; and for each rule a run that breaks it.
abbrev pub TransactionRuns : Type 0
TransactionRuns = Ordinary × (Cut × (CrashRecovered × (Hazard × (Rewritten × (Renewed × (TwoDesks × OrderRulesNeeded))))))
