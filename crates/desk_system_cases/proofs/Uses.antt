-- Theorems on desks, used on the long story and where their hypotheses only just hold: a desk that never started, a
-- conversion, a command against the rules. A stricter hypothesis or a sentence left out is noticed here.
-- Assumes nothing.
use Prim.Native.Nat.{ℕ, zero, suc, ◌<◌}
use native.Mathlib.Omega.{arith}
use mathlib.Core.Path.{◌≡◌, refl}
use mathlib.Core.Logic.{◌⊎◌, inl, inr}
use mathlib.Core.List.{List, [], ◌∷◌}
use mathlib.Core.Bool.{true}
use lib.Dec.{T, lit<}
use lib.ListN.{get_or}
use Rattle.formats.specs.Format.{V1}
use Rattle.lists.specs.Le.{le, to_le}
use Rattle.lists.specs.Parts.{part, splice, tabulate, concat_map, every, zeros, Bytes}
use Rattle.lists.specs.Search.{none}
use Rattle.lists.specs.Table.{all, all_from, listed}
use Rattle.lists.specs.Runs.{foldl, every_along}
use Rattle.stamps.specs.Stamp.{stamp, stamp_valid, shared, exclusive}
use Rattle.commands.specs.Command.{well_formed}
use Rattle.commands.specs.Bytes.{fields_of, payload, formed, command_bytes}
use Rattle.guard.specs.Entry.{entry_sound}
use Rattle.guard.specs.Judge.{raise}
use Rattle.guard.specs.Replies.{replied}
use Rattle.image.specs.Layout.{shape_ok}
use Rattle.image.specs.Bytes.{header, entry_bytes, pad, read_entry, entry_at}
use Rattle.image.specs.Image.{bodies, encode, card_at, decode, tail_zero, translation_sound, card_sound, header_sound, sound, fresh}
use Rattle.store_model.specs.Serve.{stepped, serve_by, serve}
use Rattle.store_model.specs.Words.{Event, event_of, premise, commands_in, intrudes}
use Rattle.store_model.proofs.ByTest.{bytes_by_lem, sent_bytes}
use Rattle.redo_log.specs.Log.{shaped, last_begun, opened, follows, total, start_at, record_at, record_ok, good_log}
use Rattle.redo_log.specs.Append.{stored, puts, line_bytes, stores, appended}
use Rattle.redo_log_claims.specs.Claims.{appended_all}
use Rattle.redo_recovery_model.specs.Recovery.{FitsPairs, recovery_pair}
use Rattle.lock_queue.specs.Queue.{no_waiting, empty_queue}
use Rattle.lock_queue.specs.Requests.{asks, number}
use Rattle.lock_queue_claims.specs.Traces.{queue_after, granted}
use Rattle.desk_proposals.specs.Propose.{learnt, next_t, pair_for, proposed}
use Rattle.store_model.specs.Cases.{write_original, text205, text401, long}
use Rattle.desk_system.specs.System.{Move, Made, begin, propose, send, recover_with, is_made, knows, allowed, step_to, AllFit}
use Rattle.desk_system.specs.Claims.{ByRules, finally, StoreOf}
use Rattle.desk_system_cases.specs.Trials.{desk_one, desk_three, two_places, blank_logs, read_under, long_story, committed, pairs_for, send2}
use Rattle.desk_system.proofs.Claims.{premise_kept, desks_isolated, store_follows, stamps_once, desks_valid, recovery_allowed}
use Rattle.desk_system.specs.Progress.{own_entry, Listening, hears, makes_pair, known_by, heard_in, accepted_for, own_made}
use Rattle.desk_system.proofs.Stamps.{stamps_last, guard_spends}
use Rattle.desk_system.proofs.Progress.{own_pairs}
use Rattle.desk_system_cases.proofs.Runs.{desk_runs}

-- ---- what the uses rest on, by computation

shape : T (shape_ok V1 1 16)
unfolding shape_ok all all_from
shape = tt

fits_none : (k : ℕ) → get_or (0 ∷ []) k 0 < 18446744073709551616
fits_none zero = lit< tt
fits_none (suc k) = lit< tt

fits_one : (k : ℕ) → get_or (stamp 0 1 0 ∷ []) k 0 < 18446744073709551616
fits_one zero = lit< tt
fits_one (suc k) = lit< tt

pairs_one : FitsPairs (pairs_for 0 (stamp 0 1 0))
pairs_one = record { s = fits_none; x = fits_one }

pairs_none : FitsPairs (pairs_for 0 0)
pairs_none = record { s = fits_none; x = fits_none }

log_bytes : Bytes committed
unfolding appended_all appended stores line_bytes puts stored shaped last_begun opened follows total start_at record_at record_ok good_log every all all_from le to_le part
log_bytes = bytes_by_lem committed tt

fits : AllFit long_story
unfolding command_bytes to_le
fits = (
  tt,
  (
    tt,
    (
      tt,
      (
        tt,
        (
          (pairs_one, log_bytes),
          (
            (pairs_one, log_bytes),
            (
              (pairs_none, bytes_by_lem [] tt),
              (
                (pairs_none, log_bytes),
                (
                  tt,
                  (
                    tt,
                    (
                      tt,
                      (
                        tt,
                        (
                          tt,
                          (
                            tt,
                            (
                              tt,
                              (
                                tt,
                                (
                                  tt,
                                  (
                                    tt,
                                    (
                                      tt,
                                      (
                                        tt,
                                        (
                                          (pairs_one, log_bytes),
                                          (
                                            tt,
                                            (
                                              sent_bytes (send2 1 0 0 (stamp 0 2 0) 0 [] (long 3)) tt tt,
                                              (sent_bytes (send2 3 0 0 (stamp 0 1 0) 0 text205 []) tt tt, (sent_bytes (send2 4 3 0 (stamp 0 2 0) 2 text401 []) tt tt, tt)),
                                            ),
                                          ),
                                        ),
                                      ),
                                    ),
                                  ),
                                ),
                              ),
                            ),
                          ),
                        ),
                      ),
                    ),
                  ),
                ),
              ),
            ),
          ),
        ),
      ),
    ),
  ),
)

told : ByRules V1 1 16 two_places blank_logs long_story
told = record { shape = shape; fits = fits; rules = desk_runs.1.0.rules }

-- ---- the long story

long_premise : premise 0 (commands_in (finally V1 1 16 two_places blank_logs long_story).store.trace) ≡ true
long_premise = premise_kept V1 1 16 two_places blank_logs long_story told 0

long_store : StoreOf V1 1 16 (finally V1 1 16 two_places blank_logs long_story).store
long_store = store_follows V1 1 16 two_places blank_logs long_story shape fits

-- Also of a desk that never started.
long_valid : stamp_valid ((finally V1 1 16 two_places blank_logs long_story).desks.known desk_three 0).s ≡ true
long_valid = (desks_valid V1 1 16 two_places blank_logs long_story told).known_s desk_three 0

-- ---- recovery under a pair that was proposed for card 0, with none for any other card

abbrev proposing : List Move
proposing = begin desk_one ∷ propose desk_one 0 exclusive ∷ []

proposes : ByRules V1 1 16 two_places blank_logs proposing
unfolding every_along step_to
proposes = record { shape = shape; fits = (tt, (tt, tt)); rules = refl }

recovers_allowed : allowed (finally V1 1 16 two_places blank_logs proposing) (recover_with (pairs_for 0 (stamp 0 1 0)) committed 1) ≡ true
unfolding foldl step_to proposed pair_for next_t learnt
recovers_allowed =
    (recovery_allowed V1 1 16 two_places blank_logs proposing proposes (pairs_for 0 (stamp 0 1 0)) committed pairs_one log_bytes refl given).allows 1
  where
    given : (k : ℕ)
        → ((recovery_pair (pairs_for 0 (stamp 0 1 0)) k).x ≡ 0) ⊎
        (is_made (finally V1 1 16 two_places blank_logs proposing).desks.made k exclusive (recovery_pair (pairs_for 0 (stamp 0 1 0)) k) ≡ true)
    given zero = inr refl
    given (suc k) = inl refl

-- ---- a desk's own pair, and stamps: after one proposal, and after one command against the rules

own_formed : number 0 (empty_queue []) (asks (own_entry (finally V1 1 16 two_places blank_logs proposing) desk_one 0 exclusive)) ≡ 1 → ⊥
unfolding foldl step_to proposed pair_for next_t learnt
own_formed = (own_pairs V1 1 16 two_places blank_logs proposing proposes desk_one 0 exclusive refl).asked refl 0 (empty_queue [])

own_left : T (listed (16 ∷ []) (proposed (knows (finally V1 1 16 two_places blank_logs proposing) desk_one 7) shared).number)
unfolding foldl step_to proposed pair_for next_t learnt
own_left = (own_pairs V1 1 16 two_places blank_logs proposing proposes desk_one 7 shared refl).proposes (λ e. absurd (omega arith)) (inl refl)

-- A queue with as many places as are lent, that has heard of nobody.
own_new : number 1 (queue_after 1 (empty_queue (no_waiting ∷ [])) []) (asks (own_entry (finally V1 1 16 two_places blank_logs proposing) desk_one 0 exclusive)) ≡ 12 → ⊥
unfolding foldl step_to proposed pair_for next_t learnt granted
own_new = (own_pairs V1 1 16 two_places blank_logs proposing proposes desk_one 0 exclusive refl).unasked refl 1 (no_waiting ∷ []) [] (omega arith) refl

not_spent : (proposed (knows (finally V1 1 16 two_places blank_logs proposing) desk_one 0) exclusive).number ≡ 16 → ⊥
unfolding foldl step_to proposed pair_for next_t learnt
not_spent e = let many = stamps_last V1 1 16 two_places blank_logs proposing proposes desk_one 0 exclusive refl e in absurd (omega (arith, many))

-- Desk 9 writes under a stamp that nobody proposed, as far ahead as the guard allows; desk 2 hears of it, and proposes.
abbrev unruled : List Move
unruled = send (write_original 0 (stamp 1000000 9 0) text205) ∷ []

abbrev listens : List Listening
listens = makes_pair exclusive ∷ hears (record { s = 0; x = stamp 1000000 9 0 }) ∷ []

heard_unruled : heard_in (finally V1 1 16 two_places blank_logs unruled).store.trace 0 listens ≡ true
unfolding heard_in foldl step_to serve serve_by stepped sound header_sound card_sound translation_sound tail_zero decode card_at entry_at read_entry encode bodies
    pad entry_bytes header shape_ok fresh replied raise entry_sound command_bytes formed payload fields_of well_formed all all_from le to_le part splice
    tabulate concat_map every zeros
heard_unruled = refl

one_accepted : accepted_for 0 (finally V1 1 16 two_places blank_logs unruled).store.trace ≡ 1
unfolding foldl step_to serve serve_by stepped sound header_sound card_sound translation_sound tail_zero decode card_at entry_at read_entry encode bodies pad
    entry_bytes header shape_ok fresh replied raise entry_sound command_bytes formed payload fields_of well_formed all all_from le to_le part splice tabulate
    concat_map every zeros
one_accepted = refl

unruled_fits : AllFit unruled
unfolding command_bytes to_le
unruled_fits = (sent_bytes (write_original 0 (stamp 1000000 9 0) text205) tt tt, tt)

never_spent : (proposed (known_by 2 65535 listens) exclusive).number ≡ 16 → ⊥
unfolding own_made
never_spent e =
    let s = guard_spends V1 1 16 two_places blank_logs unruled shape unruled_fits 0 2 65535 exclusive listens (omega arith) (omega arith) heard_unruled e in
    absurd (omega (arith, s.raised, one_accepted))

-- ---- stamps are proposed once (rule 10.13): by one desk again, by another that knows nothing, and for another card

abbrev four_made : List Move
four_made = begin desk_one ∷ begin desk_three ∷ propose desk_one 0 exclusive ∷ propose desk_one 7 exclusive ∷ propose desk_three 0 exclusive ∷ propose desk_one 0 exclusive ∷ []

four_rules : ByRules V1 1 16 two_places blank_logs four_made
unfolding every_along step_to proposed pair_for next_t learnt
four_rules = record { shape = shape; fits = (tt, (tt, (tt, (tt, (tt, (tt, tt)))))); rules = refl }

abbrev made_for : ℕ → ℕ → Made
made_for card x = record { card = card; mode = exclusive; pair = record { s = 0; x = x } }

never_again : stamp 1 1 0 ≡ stamp 0 1 0 → ⊥
unfolding foldl step_to proposed pair_for next_t learnt
never_again =
    stamps_once V1 1 16 two_places blank_logs four_made four_rules [] (made_for 0 (stamp 1 1 0)) (made_for 0 (stamp 0 3 0) ∷ made_for 7 (stamp 0 1 0) ∷ [])
    (made_for 0 (stamp 0 1 0)) [] refl refl refl refl

never_both : stamp 0 3 0 ≡ stamp 0 1 0 → ⊥
unfolding foldl step_to proposed pair_for next_t learnt
never_both =
    stamps_once V1 1 16 two_places blank_logs four_made four_rules (made_for 0 (stamp 1 1 0) ∷ []) (made_for 0 (stamp 0 3 0)) (made_for 7 (stamp 0 1 0) ∷ [])
    (made_for 0 (stamp 0 1 0)) [] refl refl refl refl

-- ---- sessions are isolated (rule 10.12): desk 1 writes twice, with nothing in between but a read of desk 3 that is stale

abbrev between : List Move
between =
    begin desk_one
    ∷ begin desk_three
    ∷ propose desk_one 0 exclusive
    ∷ propose desk_three 0 shared
    ∷ send (write_original 0 (stamp 0 1 0) text205)
    ∷ send (read_under (stamp 0 3 0) 0)
    ∷ send (write_original 0 (stamp 0 1 0) text205)
    ∷ []

between_rules : ByRules V1 1 16 two_places blank_logs between
unfolding every_along step_to proposed pair_for next_t learnt command_bytes formed payload fields_of well_formed all all_from le to_le part zeros
between_rules =
    let original = sent_bytes (write_original 0 (stamp 0 1 0) text205) tt tt in
    record {
      shape = shape;
      fits = (tt, (tt, (tt, (tt, (original, (sent_bytes (read_under (stamp 0 3 0) 0) tt tt, (original, tt)))))));
      rules = refl;
    }

-- The event at a place of its log, latest first.
abbrev event_at : ℕ → Event
event_at i = get_or (finally V1 1 16 two_places blank_logs between).store.trace i (event_of V1 (read_under 0 0) (serve V1 [] [] []))

nobody_between_lem : none (intrudes 0 (event_at 0)) (event_at 1 ∷ []) ≡ true
unfolding foldl step_to proposed pair_for next_t learnt serve serve_by stepped sound header_sound card_sound translation_sound tail_zero decode card_at entry_at read_entry encode bodies pad
    entry_bytes header shape_ok fresh replied raise entry_sound command_bytes formed payload fields_of well_formed all all_from le to_le part splice tabulate
    concat_map every zeros
nobody_between_lem = desks_isolated V1 1 16 two_places blank_logs between between_rules 0 [] (event_at 0) (event_at 1 ∷ []) (event_at 2) [] refl refl refl refl
