-- Theorems on transactions, used where their hypotheses only just hold: nothing has happened, an order that comes twice,
-- a transaction without an update whose commit has exactly its stores, a desk of any number, nobody under the rules. A
-- stricter hypothesis or a sentence left out is noticed here.
-- Assumes nothing.
use Prim.Native.Nat.{ℕ, suc}
use native.Mathlib.Omega.{arith}
use mathlib.Core.Path.{◌≡◌, refl}
use mathlib.Core.List.{List, [], ◌∷◌}
use mathlib.Core.Bool.{Bool, true, not}
use lib.Dec.{T, eqb}
use lib.ListN.{length, take}
use Rattle.formats.specs.Format.{V1}
use Rattle.lists.specs.Parts.{part, splice, tabulate, concat_map, every, zeros}
use Rattle.lists.specs.Le.{le, to_le}
use Rattle.lists.specs.Table.{all, all_from}
use Rattle.lists.specs.Runs.{foldl, every_along}
use Rattle.stamps.specs.Stamp.{stamp, exclusive, no_mark}
use Rattle.commands.specs.Command.{original, well_formed}
use Rattle.commands.specs.Bytes.{fields_of, payload, formed, command_bytes}
use Rattle.guard.specs.Entry.{entry_sound}
use Rattle.guard.specs.Judge.{raise}
use Rattle.guard.specs.Replies.{replied}
use Rattle.image.specs.Layout.{shape_ok}
use Rattle.image.specs.Bytes.{header, entry_bytes, pad, read_entry, entry_at}
use Rattle.image.specs.Image.{bodies, encode, card_at, decode, tail_zero, translation_sound, card_sound, header_sound, sound, fresh}
use Rattle.store_model.specs.Serve.{stepped, serve_by, serve}
use Rattle.store_model.specs.Words.{Sent}
use Rattle.store_model.specs.Cases.{pair, with_pairs, sends, mark_of}
use Rattle.store_model.proofs.ByTest.{bytes_by_lem, sent_bytes}
use Rattle.redo_log.specs.Log.{shaped, last_begun, opened, follows, total, start_at, record_at, record_ok, good_log, records}
use Rattle.redo_log.specs.Append.{stored, puts, line_bytes, stores, appended}
use Rattle.redo_log_claims.specs.Cases.{begin_of, commit_of, empty_log}
use Rattle.transactions.specs.System.{OneDesk, Step, other, order, arrive, append, crash, recover, renew, one_desk_opening, with_updates, outcome, after_step, after_steps, lawful_all}
use Rattle.transactions.specs.Claims.{AllSteps, Clean, Blank, Moment, ShowsAll}
use Rattle.transactions.specs.Desks.{Desks, outside, by_desk, desks_opening, after_desk_step, DesksMoment, DesksOnlyThen}
use Rattle.transactions.proofs.Claims.{fresh_clean, zeros_blank, orders_once, reads_meant, never_half}
use Rattle.transactions.proofs.Joint.{desks_reads_meant, desks_meant_only_then}

shape_one : T (shape_ok V1 1 16)
unfolding shape_ok all all_from
shape_one = tt

clean : Clean (λ e. eqb e 5) (fresh V1 1 16)
clean = fresh_clean (λ e. eqb e 5) refl 1 16 shape_one

blank : Blank (empty_log 8)
blank = zeros_blank 2209 (omega arith) (omega arith)

-- A read of the original of card 0, which is empty, into no bytes; it may expect another desk's mark.
abbrev read : Sent
read = sends (with_pairs 1 exclusive 0 (pair 0 0) (pair 0 (stamp 0 1 0)) no_mark no_mark 0 0) [] []

-- ---- a run of some steps from a fresh store

abbrev first : OneDesk
first = one_desk_opening (fresh V1 1 16) (empty_log 8)

moment_of : (steps : List Step) → AllSteps steps → lawful_all 5 first steps ≡ true → Moment 5 (after_steps 5 first steps)
moment_of steps bytes rules =
    record { image = fresh V1 1 16; log = empty_log 8; steps = steps; store = clean; blank = blank; sent = bytes; rules = rules; led = refl }

beginning : Moment 5 first
unfolding every_along foldl
beginning = moment_of [] tt refl

-- ---- what a read shows (rule 16.12)

read_taken : (outcome first read).answer.number ≡ 0
unfolding serve serve_by stepped sound header_sound card_sound translation_sound tail_zero decode card_at entry_at read_entry encode bodies pad entry_bytes header
    shape_ok fresh replied raise entry_sound command_bytes formed payload fields_of well_formed all all_from le to_le part splice tabulate concat_map every zeros
read_taken = refl

read_shows : take (outcome first read).answer.length (outcome first read).reply ≡ first.meant 0 original
unfolding fields_of command_bytes le to_le part
read_shows = reads_meant 5 first beginning read original read_taken refl refl

-- ---- an order comes twice (rule 16.4)

abbrev prepares0 : Sent
prepares0 = sends (with_pairs 5 exclusive 0 (pair 0 (stamp 0 1 0)) (pair 0 (stamp 1 5 0)) no_mark (mark_of 5 1) 0 0) [] []

abbrev ordering : List Step
ordering = other read ∷ order prepares0 0 0 ∷ []

ordering_bytes : AllSteps ordering
unfolding command_bytes to_le
ordering_bytes = (sent_bytes read tt tt, (sent_bytes prepares0 tt tt, tt))

abbrev ordered : OneDesk
ordered = after_steps 5 first ordering

not_twice : (outcome (after_step 5 ordered (arrive 0)) prepares0).answer.number ≡ 0 → ⊥
unfolding every_along foldl after_step records record_at serve serve_by stepped sound header_sound card_sound translation_sound tail_zero decode card_at entry_at read_entry
    encode bodies pad entry_bytes header shape_ok fresh replied raise entry_sound command_bytes formed payload fields_of well_formed all all_from le to_le
    part splice tabulate concat_map every zeros
not_twice = orders_once 5 ordered 0 0 (moment_of ordering ordering_bytes refl) (omega arith) (omega arith) refl refl

-- ---- a transaction without an update, whose commit has exactly its 16 stores (rule 16.12)

abbrev begun : OneDesk
begun = after_steps 5 first (append 16 (begin_of 1) ∷ [])

begun_bytes : AllSteps (append 16 (begin_of 1) ∷ [])
unfolding to_le
begun_bytes = (bytes_by_lem (begin_of 1).body tt, tt)

commit_bytes : AllSteps (append 16 (commit_of 1) ∷ [])
unfolding to_le
commit_bytes = (bytes_by_lem (commit_of 1).body tt, tt)

whole : ShowsAll 5 begun begun.meant × ShowsAll 5 (after_steps 5 begun (append 16 (commit_of 1) ∷ []))
    (λ k l. with_updates (records begun.log) 1 l k (length (records begun.log)) (begun.meant k l))
unfolding every_along foldl after_step stored puts line_bytes stores appended shaped last_begun opened follows total start_at record_at record_ok good_log records
    all all_from le to_le part splice tabulate every zeros
whole = never_half 5 begun 16 (commit_of 1) [] (moment_of (append 16 (begin_of 1) ∷ []) begun_bytes refl) refl refl refl commit_bytes refl

-- ---- many desks: all of them are under the rules but 0; and what is meant, whatever the state (rules 16.2 and 16.12)

abbrev but0 : ℕ → Bool
but0 e = not (eqb e 0)

abbrev logs : ℕ → List ℕ
logs d = empty_log 8

abbrev all_first : Desks
all_first = desks_opening (fresh V1 1 16) logs

all_begin : DesksMoment but0 all_first
unfolding every_along foldl
all_begin =
    record {
      image = fresh V1 1 16;
      logs = logs;
      steps = [];
      store = fresh_clean but0 refl 1 16 shape_one;
      blank = λ d. blank;
      sent = tt;
      rules = refl;
      led = refl;
    }

all_show : take (serve V1 (fresh V1 1 16) read.command []).answer.length (serve V1 (fresh V1 1 16) read.command []).reply ≡ all_first.meant 0 original
unfolding fields_of command_bytes le to_le part
all_show = desks_reads_meant but0 all_first all_begin read original read_taken refl refl

-- Bytes that are no image, and no logs.
abbrev nowhere : Desks
nowhere = desks_opening [] (λ d. [])

only_then : DesksOnlyThen nowhere
only_then = desks_meant_only_then nowhere

refused_then : (n : ℕ) → (serve V1 [] [] []).answer.number ≡ suc n → (after_desk_step nowhere (outside (record { command = []; lent = [] }))).meant ≡ nowhere.meant
refused_then = only_then.refused (record { command = []; lent = [] })

unwritten_then : (after_desk_step nowhere (outside read)).meant ≡ nowhere.meant
unfolding fields_of command_bytes le to_le part
unwritten_then = only_then.unwritten read refl

ordered_then : (after_desk_step nowhere (by_desk 0 (order read 7 8))).meant ≡ nowhere.meant
ordered_then = only_then.ordered 0 read 7 8

arrived_then : (after_desk_step nowhere (by_desk 0 (arrive 9))).meant ≡ nowhere.meant
arrived_then = only_then.arrived 0 9

uncounted_then : (after_desk_step nowhere (by_desk 70000 (append 99 (commit_of 1)))).meant ≡ nowhere.meant
unfolding good_log shaped
uncounted_then = only_then.uncounted 70000 99 (commit_of 1) 22 refl

uncommitted_then : (after_desk_step nowhere (by_desk 0 (append 99 (begin_of 1)))).meant ≡ nowhere.meant
uncommitted_then = only_then.uncommitted 0 99 (begin_of 1) refl

crashed_then : (after_desk_step nowhere (by_desk 0 crash)).meant ≡ nowhere.meant
crashed_then = only_then.crashed 0

recovered_then : (after_desk_step nowhere (by_desk 0 (recover (record { s = []; x = [] }) 9))).meant ≡ nowhere.meant
recovered_then = only_then.recovered 0 (record { s = []; x = [] }) 9

renewed_then : (after_desk_step nowhere (by_desk 0 renew)).meant ≡ nowhere.meant
renewed_then = only_then.renews 0
