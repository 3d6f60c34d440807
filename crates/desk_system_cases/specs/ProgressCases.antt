-- Worked cases of desks that get on, and of what stops them: a command on the word of a reply, with something accepted in
-- between and without, by what its desk knows; and stamps that are used up. Proved in proofs/Runs.antt.
-- Assumes nothing.
use Rattle.std.specs.Prelude.{ℕ, ◌≡◌, List, [], ◌∷◌, map, true, false}
use Rattle.formats.specs.Format.{V1}
use Rattle.stamps.specs.Stamp.{stamp, exclusive}
use Rattle.lock_queue.specs.Queue.{waiting}
use Rattle.image.specs.Image.{fresh}
use Rattle.store_model.specs.Serve.{serve}
use Rattle.store_model.specs.Words.{Sent, image_after}
use Rattle.store_model.specs.Cases.{pair, mark_of, with_pairs, sends, request_opening, write_original, text205, text401, long}
use Rattle.desk_proposals.specs.declared.Known.{Known}
use Rattle.desk_proposals.specs.Propose.{last_t, proposed}
use Rattle.desk_system.specs.System.{Move, begin, learn, allowed, knows, step_to, system_after, by_rules}
use Rattle.desk_system.specs.Progress.{image_left, proposals_for, Spends}
use Rattle.desk_system_cases.specs.Trials.{desk_one, single_card, ask, write_opening}

-- ---- a command on the word of a reply

-- Desk 1 writes the one card of a fresh store, under (0, 0.1.0), and the reply shows that pair.
abbrev pub fresh_store : List ℕ
fresh_store = fresh V1 1 16

abbrev pub first_write : Sent
first_write = write_original 0 (stamp 0 1 0) text205

-- Requests that are refused, latest first: malformed bytes, and a write from too far ahead.
abbrev pub refused_since : List Sent
refused_since = record { command = 1 ∷ 2 ∷ 0 ∷ []; lent = [] } ∷ write_original 0 (stamp 1000001 9 0) text401 ∷ []

-- What desk 2 knows: no s, and an x.
abbrev pub two_knows : ℕ → Known
two_knows x = record { desk = 2; start = 0; pair = pair 0 x }

-- Its command relies on the reply's pair, and opens the session of its proposal.
abbrev pub resumed : ℕ → List ℕ → Sent
resumed x text = write_opening (pair 0 (stamp 0 1 0)) (pair 0 x) text

-- The numbers of requests, each of which comes after the first write and these.
abbrev pub answers_after : List Sent → List Sent → List ℕ
answers_after between asked = map (λ s. (serve V1 (image_after V1 (image_left V1 fresh_store first_write) between) s.command s.lent).answer.number) asked

pub record GuardCases : Type 0 where
  -- what it proposes: from the reply's pair, and with an x that it has heard of elsewhere and that is 999,999 ahead
  pub near : (proposed (two_knows (stamp 0 1 0)) exclusive).pair ≡ pair 0 (stamp 0 2 0)
  pub edge : (proposed (two_knows (stamp 999999 9 0)) exclusive).pair ≡ pair 0 (stamp 1000000 2 0)
  -- with nothing accepted in between both are accepted, and refused only for the mark, the payload, the edition, the
  -- reply buffer
  pub passes :
      answers_after refused_since
      (resumed (stamp 0 2 0) text401
      ∷ resumed (stamp 1000000 2 0) text401
      ∷ sends (with_pairs 3 exclusive 0 (pair 0 (stamp 0 1 0)) (pair 0 (stamp 0 2 0)) (mark_of 2 7) (mark_of 2 7) 0 3) text401 []
      ∷ resumed (stamp 0 2 0) (long 17)
      ∷ request_opening 4 exclusive (pair 0 (stamp 0 1 0)) (pair 0 (stamp 0 2 0)) 2 text401 []
      ∷ request_opening 1 exclusive (pair 0 (stamp 0 1 0)) (pair 0 (stamp 0 2 0)) 0 [] []
      ∷ [])
      ≡ 0 ∷ 0 ∷ 4 ∷ 5 ∷ 6 ∷ 8 ∷ []
  -- an x that is 1,000,000 ahead is too much: the proposal gets 17
  pub too_far : (proposed (two_knows (stamp 1000000 9 0)) exclusive).pair ≡ pair 0 (stamp 1000001 2 0)
  pub far : answers_after refused_since (resumed (stamp 1000001 2 0) text401 ∷ []) ≡ 17 ∷ []
  -- one that relies on less than the reply's pair is stale
  pub unrelying : answers_after refused_since (write_opening (pair 0 0) (pair 0 (stamp 0 2 0)) text401 ∷ []) ≡ 3 ∷ []
  -- a write of desk 3 that was accepted in between makes it stale
  pub overtaken : answers_after (write_original 0 (stamp 0 3 0) text401 ∷ []) (resumed (stamp 0 2 0) text401 ∷ []) ≡ 3 ∷ []

-- ---- stamps that are used up

-- Desk 9 asks with the last T, which nobody proposed: the queue takes it, and desk 1, which learns it, has no stamp left,
-- though nothing was ever proposed. The guard refuses that stamp.
abbrev pub last_ask : Move
last_ask = ask 0 (waiting exclusive 0 (stamp last_t 9 0))

pub record SpendCases : Type 0 where
  pub refused : allowed (system_after single_card (begin desk_one ∷ [])) last_ask ≡ false
  pub after : by_rules (step_to (system_after single_card (begin desk_one ∷ [])) last_ask) (learn desk_one 0 (pair 0 (stamp last_t 9 0)) ∷ []) ≡ true
  pub spent :
      (proposed (knows (system_after single_card (begin desk_one ∷ last_ask ∷ learn desk_one 0 (pair 0 (stamp last_t 9 0)) ∷ [])) desk_one 0) exclusive).number ≡ 16
  pub none_made :
      proposals_for 0 exclusive (system_after single_card (begin desk_one ∷ last_ask ∷ learn desk_one 0 (pair 0 (stamp last_t 9 0)) ∷ [])).desks.made ≡ 0
  pub guarded : (serve V1 fresh_store (write_original 0 (stamp last_t 9 0) text205).command []).answer.number ≡ 17
  -- 4,294 commands are not enough by themselves; with 967,295 proposals they are, and with one less they are not
  pub enough : Spends 4294 967295
  pub not_enough : Spends 4294 967294 → ⊥
  pub alone : Spends 4295 0
