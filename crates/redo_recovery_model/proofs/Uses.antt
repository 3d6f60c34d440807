-- Theorems on recovery, used where their hypotheses only just hold: a log that is no log, other pairs in a second run,
-- a cut in front of the last store. A stricter hypothesis or a sentence left out is noticed here. Assumes nothing.
use Prim.Native.Nat.{ℕ, zero, suc, ◌+◌, ◌<◌}
use native.Mathlib.Omega.{arith}
use mathlib.Core.Path.{◌≡◌, refl, sym, ap, ◌∙◌}
use mathlib.Core.List.{List, [], ◌∷◌, ◌++◌, append-nil}
use mathlib.Core.Bool.{true}
use lib.Dec.{T, eqb, lit<, lit≤}
use lib.ListN.{length, get_or, set}
use Rattle.formats.specs.Format.{V1}
use Rattle.lists.specs.Parts.{part, splice, tabulate, concat_map, every, zeros, Bytes}
use Rattle.lists.specs.Le.{le, to_le}
use Rattle.lists.proofs.Parts.{get_d_part}
use Rattle.lists.specs.Search.{none}
use Rattle.lists.specs.Table.{all, all_from}
use Rattle.commands.specs.Command.{original, well_formed}
use Rattle.commands.specs.Bytes.{fields_of, payload, formed, command_bytes}
use Rattle.guard.specs.Entry.{entry_sound}
use Rattle.guard.specs.Judge.{raise}
use Rattle.guard.specs.Replies.{replied}
use Rattle.image.specs.Layout.{shape_ok}
use Rattle.image.specs.Bytes.{header, entry_bytes, pad, read_entry, entry_at}
use Rattle.image.specs.Image.{bodies, encode, card_at, decode, tail_zero, translation_sound, card_sound, header_sound, sound, fresh}
use Rattle.store_model.specs.Words.{trace_from, image_after}
use Rattle.store_model.specs.Serve.{stepped, serve_by, serve}
use Rattle.store_model.specs.Cases.{stamp1, stamp2, text205}
use Rattle.image_claims.proofs.Uses.{nothing_numbered}
use Rattle.store_model.proofs.ByTest.{bytes_by_lem}
use Rattle.redo_log.specs.Log.{LogRecord, shaped, last_begun, opened, follows, length_at, start_at, record_at, good_log, log_number, records}
use Rattle.redo_log.specs.Append.{append_number, appended}
use Rattle.redo_log_claims.specs.Claims.{needed, appended_all, admitted_of, wholly, cut_after, BytesOfRecords}
use Rattle.redo_log_claims.specs.Cases.{begin_of, update_of, commit_of, empty_log}
use Rattle.redo_recovery_model.specs.Recovery.{Pairs, Recovery, FitsPairs, due, recovery_sent, recovery_step, recovering, recovered}
use Rattle.redo_recovery_model.specs.Claims.{NoneRefused, FromRecovery, AllUnder, Mixed, one_recovery, never_answered, text_in, text_of, rewritten, due_below, Untouched}
use Rattle.redo_recovery_model.specs.Cases.{pairs1, pairs2, blank_image}
use Rattle.redo_recovery_model.proofs.Never.{recovery_never}
use Rattle.redo_recovery_model.proofs.Sending.{demand3_mixed}
use Rattle.redo_recovery_model.proofs.Texts.{twice, cut_recovers, cut_anywhere, stopped_texts, cut_recovery}
use Rattle.redo_recovery_model.proofs.Versions.{no_recovery_2, unsound_recovery}
use Rattle.redo_recovery_model.proofs.Pairs.{under}
use Rattle.redo_recovery_model.proofs.Steps.{recovered_by, recovery_listed}
use Rattle.redo_log_claims.proofs.Claims.{appends}
use Rattle.redo_log_claims.proofs.Holding.{Holding, start_by, held_all, count, here, starts, holding_all, holding_none, admitted_by, holding_cut}
use Rattle.redo_log_claims.proofs.Life.{byte_changed}

-- ---- what the uses rest on, by computation

fits1 : FitsPairs pairs1
fits1 = record { s = small; x = small }
  where
    small : (k : ℕ) → get_or (stamp1 ∷ stamp1 ∷ []) k 0 < 18446744073709551616
    small zero = lit< tt
    small (suc zero) = lit< tt
    small (suc (suc k)) = lit< tt

fits2 : FitsPairs pairs2
fits2 = record { s = small; x = small }
  where
    small : (k : ℕ) → get_or (stamp2 ∷ stamp2 ∷ []) k 0 < 18446744073709551616
    small zero = lit< tt
    small (suc zero) = lit< tt
    small (suc (suc k)) = lit< tt

shape : T (shape_ok V1 2 16)
unfolding shape_ok all all_from
shape = tt

blank_bytes : Bytes blank_image
unfolding fresh header to_le
blank_bytes = bytes_by_lem blank_image tt

-- One transaction: 16, 18 and 16 stores.
abbrev three : List LogRecord
three = begin_of 1 ∷ update_of 0 1 text205 ∷ commit_of 1 ∷ []

abbrev before : List ℕ
before = empty_log 16

abbrev after : List ℕ
after = appended_all before three

before_held : Holding 2217 [] before
before_held = holding_none 16 (lit≤ tt)

before_good : good_log before ≡ true
before_good = before_held.good

before_bytes : Bytes before
before_bytes = bytes_by_lem before tt

three_bytes : BytesOfRecords three
unfolding to_le
three_bytes = (bytes_by_lem (begin_of 1).body tt, (bytes_by_lem (update_of 0 1 text205).body tt, (bytes_by_lem (commit_of 1).body tt, tt)))

after_held : Holding 2217 three after
unfolding held_all start_by shaped last_begun opened follows le to_le part
after_held = holding_all 2217 [] three before before_held

after_good : good_log after ≡ true
after_good = after_held.good

all_bytes : (rs : List LogRecord) (log : List ℕ) → Bytes log → BytesOfRecords rs → Bytes (appended_all log rs)
unfolding appended_all
all_bytes [] log lb rb = lb
all_bytes (r ∷ rs) log lb rb = all_bytes rs (appended (needed r) log r) ((appends (needed r) log r).bytes lb rb.0) rb.1

after_bytes : Bytes after
after_bytes = all_bytes three before before_bytes three_bytes

-- Recovery from it, by its records.
after_by : (pairs : Pairs) (image : List ℕ) → recovered pairs after image ≡ recovering pairs three image 3
after_by pairs image = recovered_by after_held pairs image

-- ---- demand 3 over a recovery from no log at all (rule 11.20)

mixed : Mixed 2 16 (one_recovery pairs1 [] ∷ [])
mixed = demand3_mixed 2 16 shape (one_recovery pairs1 [] ∷ []) ((fits1, bytes_by_lem [] tt), tt)

-- ---- a second run under other pairs (rule 11.21)

once : NoneRefused blank_image (recovered pairs1 after blank_image)
unfolding trace_from image_after due recovery_sent recovery_step recovering last_begun serve serve_by stepped sound header_sound card_sound translation_sound tail_zero decode
    card_at entry_at read_entry encode bodies pad entry_bytes header shape_ok fresh replied raise entry_sound command_bytes formed payload fields_of well_formed
    all all_from le to_le part splice tabulate concat_map every zeros
once = rw (after_by pairs1 blank_image) (refl, tt)

again : NoneRefused (recovered pairs1 after blank_image).image (recovered pairs2 after (recovered pairs1 after blank_image).image)
unfolding trace_from image_after due recovery_sent recovery_step recovering last_begun serve serve_by stepped sound header_sound card_sound translation_sound tail_zero decode
    card_at entry_at read_entry encode bodies pad entry_bytes header shape_ok fresh replied raise entry_sound command_bytes formed payload fields_of well_formed
    all all_from le to_le part splice tabulate concat_map every zeros
again = rw (after_by pairs1 blank_image, after_by pairs2 (recovering pairs1 three blank_image 3).image) (refl, tt)

same_text : text_in (recovered pairs2 after (recovered pairs1 after blank_image).image).image original 0 ≡ text_in (recovered pairs1 after blank_image).image original 0
same_text = twice pairs1 pairs2 after blank_image fits1 fits2 after_bytes blank_bytes once again original 0

-- From no log, on what is no image: nothing is sent, and nothing is refused.
nothing_sent : (pairs : Pairs) → NoneRefused (1 ∷ []) (recovered pairs [] (1 ∷ []))
unfolding trace_from recovered good_log
nothing_sent pairs = tt

same_none : text_in (recovered pairs2 [] (1 ∷ [])).image original 0 ≡ text_in (1 ∷ []) original 0
unfolding recovered good_log
same_none = twice pairs1 pairs2 [] (1 ∷ []) fits1 fits2 (bytes_by_lem [] tt) (bytes_by_lem (1 ∷ []) tt) (nothing_sent pairs1) (nothing_sent pairs2) original 0

-- ---- numbers that never come (rule 11.22), on what is no image too

never : none (eqb (recovered pairs1 after (1 ∷ [])).number) never_answered ≡ true
never = recovery_never pairs1 after (1 ∷ []) fits1 after_bytes (bytes_by_lem (1 ∷ []) tt)

-- ---- bytes whose header has not the number 1 (rule 11.22): none at all, with a bad log, an empty one, and one with an update due

untouched : (log : List ℕ) → Untouched log [] (recovered pairs1 log [])
untouched log = no_recovery_2 pairs1 log [] (λ e. absurd (omega (arith, nothing_numbered)))

kept_bad : (recovered pairs1 [] []).image ≡ []
kept_bad = (untouched []).kept

no_log : ((recovered pairs1 [] []).number ≡ 23) × ((recovered pairs1 [] []).line ≡ 0)
unfolding good_log
no_log = (untouched []).bad refl

nothing_due_lem : ((recovered pairs1 before []).number ≡ 0) × ((recovered pairs1 before []).line ≡ 0)
unfolding due_below
nothing_due_lem = (untouched before).idle before_good (rw before_held.back)

-- Of the log with one transaction, the update in line 1 is due, and nothing above it.
due_one : (1 < length (records after)) × ((due (records after) 1 ≡ true) × (due_below (records after) 1 ≡ []))
unfolding due due_below last_begun le to_le part
due_one = rw after_held.back (lit< tt, (refl, refl))

first_due_lem : ((recovered pairs1 after []).number ≡ 9) × ((recovered pairs1 after []).line ≡ 1)
first_due_lem = (untouched after).first after_good 1 due_one.0 due_one.1.0 due_one.1.1

-- ---- a cut one store before the end of an append (rule 11.13), and one anywhere (rules 11.14 and 11.21)

cut15 : append_number 15 before (begin_of 1) ≡ 26
unfolding shaped last_begun opened follows start_at record_at good_log every le to_le part
cut15 = refl

cut15_recovers : recovered pairs1 (appended 15 before (begin_of 1)) blank_image ≡ recovered pairs1 before blank_image
cut15_recovers = cut_recovers 15 before (begin_of 1) cut15 pairs1 blank_image

cut49 : (recovered pairs1 (cut_after 49 before three) blank_image).number ≡ 0
unfolding due recovering wholly admitted_by start_by shaped last_begun opened follows le to_le part
cut49 = ap (λ (r : Recovery). r.number) (recovered_by (holding_cut 49 2217 [] three before before_held) pairs1 blank_image)

cut49_text : text_in (recovered pairs1 (cut_after 49 before three) blank_image).image original 0 ≡ text_of
    (records before ++ wholly 49 (admitted_of before three)) original 0 (text_in blank_image original 0)
cut49_text = cut_anywhere 49 before three before_good pairs1 blank_image fits1 before_bytes three_bytes blank_bytes cut49 original 0

-- ---- bytes that are no image of version 1, with an update due (rule 11.18)

unsound_first : ((recovered pairs1 after (1 ∷ [])).number ≡ 9) × ((recovered pairs1 after (1 ∷ [])).line ≡ 1)
unfolding sound header_sound all all_from le part
unsound_first = (unsound_recovery pairs1 after (1 ∷ []) refl).first after_good 1 due_one.0 due_one.1.0 due_one.1.1

-- ---- numbers and pairs (rules 5.1, 11.16 and 11.17), of what is no log and no image too

listed_number : FromRecovery (recovered pairs1 [] []).number
listed_number = recovery_listed pairs1 [] []

under_pairs : AllUnder pairs2 (recovered pairs2 after blank_image).sent
under_pairs = under pairs2 after blank_image fits2 after_bytes blank_bytes

-- ---- a recovery that stopped (rule 11.23): at its first write, on what is no image; and one that was cut before it

stopped_number : (recovered pairs1 after (1 ∷ [])).number ≡ 0 → ⊥
stopped_number e = absurd (omega (arith, e, unsound_first.0))

stopped : text_in (recovered pairs1 after (1 ∷ [])).image original 0 ≡ rewritten (records after) original 0 (recovered pairs1 after (1 ∷ [])).line (text_in (1 ∷ []) original 0)
stopped = stopped_texts pairs1 after (1 ∷ []) fits1 after_bytes (bytes_by_lem (1 ∷ []) tt) after_good stopped_number original 0

-- The power fails before the only write; the second run is under other pairs.
cut_number : (recovered pairs2 after blank_image).number ≡ 0
unfolding due recovery_sent recovery_step recovering last_begun serve serve_by stepped sound header_sound card_sound translation_sound tail_zero decode
    card_at entry_at read_entry encode bodies pad entry_bytes header shape_ok fresh replied raise entry_sound command_bytes formed payload fields_of well_formed
    all all_from le to_le part splice tabulate concat_map every zeros
cut_number = rw (after_by pairs2 blank_image)

cut_before : text_in (recovered pairs2 after blank_image).image original 0 ≡ text_of (records after) original 0 (text_in blank_image original 0)
unfolding image_after
cut_before =
    cut_recovery pairs1 pairs2 after blank_image fits1 fits2 after_bytes blank_bytes (recovered pairs1 after blank_image).sent []
    (sym (append-nil (recovered pairs1 after blank_image).sent)) cut_number original 0

-- ---- the last byte of a log's last body, one more than it was (rule 11.26)

changed : log_number (set after 2214 1) ≡ 23
unfolding start_at start_by record_at to_le
changed =
    let three-there = count 2217 three after after_held in
    let from = starts 2217 three after after_held 2 (lit≤ tt) in
    let to = starts 2217 three after after_held 3 (lit≤ tt) in
    let body = ap (λ (r : LogRecord). get_or r.body 3 0) (here 2217 three after after_held 2 (lit< tt)) in
    let place : start_at after 2 + 3 ≡ 2214 = omega (arith, from) in
    let byte : get_or after 2214 0 ≡ 0 = ap (λ (j : ℕ). get_or after j 0) (sym place) ∙ sym (get_d_part (start_at after 2) (length_at after 2) after 3 0 (omega (arith, from, to))) ∙ body in
    byte_changed after 2 2214 1 after_good after_bytes (omega (arith, three-there)) (omega (arith, from)) (omega (arith, to)) (omega arith) (λ e. absurd (omega (arith, e, byte)))
