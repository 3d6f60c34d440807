-- The worked runs, by computation. Assumes nothing.
use Prim.Native.Nat.{ℕ, zero, suc, ◌<◌}
use native.Mathlib.Omega.{arith}
use borrow.Author.Tests.{ltb-true}
use lib.ListN.{get_or}
use lib.Dec.{T, ltb, eqb, lit<}
use Rattle.lists.specs.Parts.{Bytes}
use Rattle.lists.proofs.Tests.{and_in, and_left, and_right}
use Rattle.formats.specs.Format.{V1}
use Rattle.store_model.specs.Words.{Sent}
use Rattle.store_model.specs.Claims.{SentBytes}
use Rattle.redo_log_claims.specs.Cases.{commit_of, empty_log}
use Rattle.transactions.specs.Claims.{StepBytes, AllSteps, Moment}
use Rattle.transactions.proofs.Claims.{fresh_clean, zeros_blank}
use mathlib.Core.Path.{◌≡◌, refl, sym, ap, ◌∙◌}
use mathlib.Core.List.{List, [], ◌∷◌, ◌++◌}
use mathlib.Core.Bool.{Bool, true, false, ◌&&◌}
use Rattle.lists.specs.Parts.{part, splice, tabulate, concat_map, every, zeros}
use Rattle.lists.specs.Le.{le, to_le}
use Rattle.lists.specs.Table.{all, all_from}
use Rattle.lists.specs.Runs.{foldl, every_along}
use Rattle.lists.proofs.Runs.{Walked, walk, walk_is, foldl_append, along_append}
use Rattle.commands.specs.Command.{well_formed}
use Rattle.commands.specs.Bytes.{fields_of, payload, formed, command_bytes}
use Rattle.guard.specs.Entry.{entry_sound}
use Rattle.guard.specs.Judge.{raise}
use Rattle.guard.specs.Replies.{replied}
use Rattle.image.specs.Layout.{shape_ok}
use Rattle.image.specs.Bytes.{header, entry_bytes, pad, read_entry, entry_at}
use Rattle.image.specs.Image.{bodies, encode, card_at, decode, tail_zero, translation_sound, card_sound, header_sound, sound, fresh}
use Rattle.store_model.specs.Serve.{stepped, serve_by, serve}
use Rattle.redo_log.specs.Log.{shaped, last_begun, opened, follows, total, start_at, record_at, record_ok, good_log, records}
use Rattle.redo_log.specs.Append.{stored, puts, line_bytes, stores, appended}
use Rattle.redo_recovery_model.specs.Recovery.{Pairs, FitsPairs, due, recovery_sent, recovery_step, recovering, recovered}
use Rattle.redo_recovery_model.specs.Claims.{rewritten}
use Rattle.transactions.specs.System.{OneDesk, Step, other, order, arrive, append, crash, recover, renew, lawful, with_updates, shown_by, after_step, after_steps, lawful_all}
use Rattle.store_model.specs.Cases.{text205, text401}
use Rattle.transactions.specs.Desks.{Desks, DeskStep, by_desk, lawful_desk_step, after_desk_step, after_desk_steps, lawful_desk_steps}
use Rattle.transactions_cases.specs.Cases.{
  begins,
  prepares_both,
  commits,
  Ordinary,
  Cut,
  CrashRecovered,
  Hazard,
  rewrites_half,
  rewrites_all,
  Rewritten,
  Renewed,
  at_first,
  agrees,
  BrokenAt,
  OrderRulesNeeded,
  Seen,
  seeing,
  text190,
  text380,
  text210,
  logs,
  both_ruled,
  two_desks,
  both_begin,
  six_commits,
  six_finishes,
  five_commits,
  see_desks,
  TwoDesks,
  TransactionRuns,
  writes_out0,
  releases0,
  syncs0,
  finishes1,
  Shows,
  read_now,
  five,
  see,
  seen_after,
  in_order,
  after_all,
}

-- Numbers below a bound, by a test of each.
unfoldable pub below_test : ℕ → List ℕ → Bool
below_test bound [] = true
below_test bound (b ∷ l) = ltb b bound && below_test bound l

below_tested : (bound : ℕ) (l : List ℕ) → 0 < bound → below_test bound l ≡ true → (i : ℕ) → get_or l i 0 < bound
unfolding below_test
below_tested bound [] h e i = h
below_tested bound (b ∷ l) h e zero = ltb-true b bound (and_left (ltb b bound) (below_test bound l) e)
below_tested bound (b ∷ l) h e (suc i) = below_tested bound l h (and_right (ltb b bound) (below_test bound l) e) i

pub bytes_tested : (l : List ℕ) → below_test 256 l ≡ true → Bytes l
bytes_tested l e = below_tested 256 l (lit< tt) e

unfoldable pub sent_test : Sent → Bool
sent_test s = below_test 256 s.command && below_test 256 s.lent

pub sent_tested : (s : Sent) → sent_test s ≡ true → SentBytes s
unfolding sent_test
sent_tested s e =
    record {
      command = bytes_tested s.command (and_left (below_test 256 s.command) (below_test 256 s.lent) e);
      lent = bytes_tested s.lent (and_right (below_test 256 s.command) (below_test 256 s.lent) e);
    }

unfoldable pub pairs_test : Pairs → Bool
pairs_test p = below_test 18446744073709551616 p.s && below_test 18446744073709551616 p.x

pub pairs_tested : (p : Pairs) → pairs_test p ≡ true → FitsPairs p
unfolding pairs_test
pairs_tested p e =
    record {
      s = below_tested 18446744073709551616 p.s (lit< tt) (and_left (below_test 18446744073709551616 p.s) (below_test 18446744073709551616 p.x) e);
      x = below_tested 18446744073709551616 p.x (lit< tt) (and_right (below_test 18446744073709551616 p.s) (below_test 18446744073709551616 p.x) e);
    }

unfoldable pub step_test : Step → Bool
step_test (other s) = sent_test s
step_test (order s line from) = sent_test s
step_test (arrive i) = true
step_test (append budget r) = below_test 256 r.body
step_test crash = true
step_test (recover pairs lines) = pairs_test pairs
step_test renew = true

pub step_tested : (m : Step) → step_test m ≡ true → StepBytes m
unfolding step_test
step_tested (other s) e = sent_tested s e
step_tested (order s line from) e = sent_tested s e
step_tested (arrive i) e = tt
step_tested (append budget r) e = bytes_tested r.body e
step_tested crash e = tt
step_tested (recover pairs lines) e = pairs_tested pairs e
step_tested renew e = tt

unfoldable pub steps_test : List Step → Bool
steps_test [] = true
steps_test (m ∷ steps) = step_test m && steps_test steps

pub steps_tested : (steps : List Step) → steps_test steps ≡ true → AllSteps steps
unfolding steps_test
steps_tested [] e = tt
steps_tested (m ∷ steps) e = (step_tested m (and_left (step_test m) (steps_test steps) e), steps_tested steps (and_right (step_test m) (steps_test steps) e))

abbrev rewriting : List Step
rewriting = begins ++ (prepares_both ++ (commits ++ (rewrites_half ++ rewrites_all)))

are_bytes : steps_test rewriting ≡ true
unfolding steps_test step_test sent_test pairs_test below_test command_bytes to_le
are_bytes = refl

are_lawful : lawful_all 5 at_first rewriting ≡ true
unfolding every_along foldl after_step with_updates rewritten due stored puts line_bytes stores appended shaped last_begun opened follows total start_at
    record_at record_ok good_log records serve serve_by stepped sound header_sound card_sound translation_sound tail_zero decode card_at entry_at read_entry
    encode bodies pad entry_bytes header shape_ok fresh replied raise entry_sound command_bytes formed payload fields_of well_formed all all_from le to_le
    part splice tabulate concat_map every zeros recovering recovery_step recovery_sent shown_by
are_lawful = refl

five_apart : eqb 0 5 ≡ false
five_apart = refl

shape_two : T (shape_ok V1 2 16)
unfolding shape_ok all all_from
shape_two = tt

met : Moment 5 (after_steps 5 at_first rewriting)
met =
    record {
      image = fresh V1 2 16;
      log = empty_log 64;
      steps = rewriting;
      store = fresh_clean (λ e. eqb e 5) five_apart 2 16 shape_two;
      blank = zeros_blank 2265 (omega arith) (omega arith);
      sent = steps_tested rewriting are_bytes;
      rules = are_lawful;
      led = refl;
    }

-- Each run is walked once, and what is asked of it follows.
abbrev walked : OneDesk → List Step → Walked OneDesk
walked y steps = walk (lawful 5) (after_step 5) y steps

walked_is : (y : OneDesk) (steps : List Step) → ((walked y steps).left ≡ after_steps 5 y steps) × ((walked y steps).passed ≡ lawful_all 5 y steps)
walked_is y steps = walk_is (lawful 5) (after_step 5) y steps

-- A run in parts, walked once: what is seen after each part, and whether all of it is by the rules.
record WalkedParts : Type 0 where
  end : OneDesk
  rules : Bool
  sees : List Seen

walk_parts : OneDesk → List (List Step) → WalkedParts
walk_parts y [] = record { end = y; rules = true; sees = [] }
walk_parts y (part ∷ parts) =
    let a = walked y part in
    let rest = walk_parts a.left parts in
    record { end = rest.end; rules = a.passed && rest.rules; sees = see a.left ∷ rest.sees }

record PartsAre (y : OneDesk) (parts : List (List Step)) : Type 0 where
  end_is : after_all y parts ≡ (walk_parts y parts).end
  rules_are : in_order y parts ≡ (walk_parts y parts).rules
  sees_are : seen_after y parts ≡ (walk_parts y parts).sees

parts_are : (y : OneDesk) (parts : List (List Step)) → PartsAre y parts
unfolding walk_parts
parts_are y [] = record { end_is = refl; rules_are = refl; sees_are = refl }
parts_are y (part ∷ parts) =
    let a = walked_is y part in
    let z : OneDesk = (walked y part).left in
    let rest = parts_are z parts in
    record {
      end_is = ap (λ (w : OneDesk). after_all w parts) (sym a.0) ∙ rest.end_is;
      rules_are = ap (λ (b : Bool). b && in_order (after_steps 5 y part) parts) (sym a.1) ∙ ap
          (λ (w : OneDesk). (walked y part).passed && in_order w parts) (sym a.0) ∙ ap (λ (b : Bool). (walked y part).passed && b) rest.rules_are;
      sees_are = ap (λ (w : OneDesk). see w ∷ seen_after w parts) (sym a.0) ∙ ap (λ (l : List Seen). see z ∷ l) rest.sees_are;
    }

-- The whole of an ordinary run; and its first five parts, with two reads.
abbrev whole_run : List (List Step)
whole_run = begins ∷ prepares_both ∷ commits ∷ writes_out0 ∷ releases0 ∷ syncs0 ∷ finishes1 ∷ []

abbrev between : List (List Step)
between = begins ∷ prepares_both ∷ commits ∷ writes_out0 ∷ releases0 ∷ []

abbrev reads_between : OneDesk → Shows × Shows
reads_between y = (read_now y 0 (five 4), read_now y 1 (five 2))

abbrev told : WalkedParts → Bool × List Seen
told w = (w.rules, w.sees)

abbrev told_whole : Bool × List Seen
told_whole = (
  true,
  seeing text190 text380 text190 text380
      ∷ seeing text190 text380 text190 text380
      ∷ seeing text190 text380 text205 text401
      ∷ seeing text205 text380 text205 text401
      ∷ seeing text205 text380 text205 text401
      ∷ seeing text205 text380 text205 text401
      ∷ seeing text205 text401 text205 text401
      ∷ [],
)

walked_whole : told (walk_parts at_first whole_run) ≡ told_whole
unfolding walk_parts walk every_along foldl after_step with_updates rewritten due stored puts line_bytes stores appended shaped last_begun opened
    follows total start_at record_at record_ok good_log records serve serve_by stepped sound header_sound card_sound translation_sound tail_zero decode card_at
    entry_at read_entry encode bodies pad entry_bytes header shape_ok fresh replied raise entry_sound command_bytes formed payload fields_of well_formed all
    all_from le to_le part splice tabulate concat_map every zeros
walked_whole = refl

abbrev read_between : Shows × Shows
read_between = (record { number = 0; text = text205 }, record { number = 4; text = [] })

walked_between : reads_between (walk_parts at_first between).end ≡ read_between
unfolding walk_parts walk every_along foldl after_step with_updates rewritten due stored puts line_bytes stores appended shaped last_begun opened
    follows total start_at record_at record_ok good_log records serve serve_by stepped sound header_sound card_sound translation_sound tail_zero decode card_at
    entry_at read_entry encode bodies pad entry_bytes header shape_ok fresh replied raise entry_sound command_bytes formed payload fields_of well_formed all
    all_from le to_le part splice tabulate concat_map every zeros
walked_between = refl

ordinary : Ordinary
ordinary =
    let w = parts_are at_first whole_run in
    let b = parts_are at_first between in
    record {
      rules = w.rules_are ∙ ap (λ (q : Bool × List Seen). q.0) walked_whole;
      sees = w.sees_are ∙ ap (λ (q : Bool × List Seen). q.1) walked_whole;
      new = ap (λ (y : OneDesk). read_now y 0 (five 4)) b.end_is ∙ ap (λ (q : Shows × Shows). q.0) walked_between;
      marked = ap (λ (y : OneDesk). read_now y 1 (five 2)) b.end_is ∙ ap (λ (q : Shows × Shows). q.1) walked_between;
    }

cut : Cut
unfolding every_along foldl after_step with_updates rewritten due stored puts line_bytes stores appended shaped last_begun opened follows total start_at
    record_at record_ok good_log records serve serve_by stepped sound header_sound card_sound translation_sound tail_zero decode card_at entry_at read_entry
    encode bodies pad entry_bytes header shape_ok fresh replied raise entry_sound command_bytes formed payload fields_of well_formed all all_from le to_le
    part splice tabulate concat_map every zeros
cut = record { rules = refl; sees15 = refl; freed = refl; rules16 = refl; sees16 = refl }

crash_recovered : CrashRecovered
unfolding every_along foldl after_step with_updates rewritten due stored puts line_bytes stores appended shaped last_begun opened follows total start_at
    record_at record_ok good_log records serve serve_by stepped sound header_sound card_sound translation_sound tail_zero decode card_at entry_at read_entry
    encode bodies pad entry_bytes header shape_ok fresh replied raise entry_sound command_bytes formed payload fields_of well_formed all all_from le to_le
    part splice tabulate concat_map every zeros
crash_recovered = record { rules = refl; sees = refl }

hazard : Hazard
unfolding every_along foldl after_step with_updates rewritten due stored puts line_bytes stores appended shaped last_begun opened follows total start_at
    record_at record_ok good_log records serve serve_by stepped sound header_sound card_sound translation_sound tail_zero decode card_at entry_at read_entry
    encode bodies pad entry_bytes header shape_ok fresh replied raise entry_sound command_bytes formed payload fields_of well_formed all all_from le to_le
    part splice tabulate concat_map every zeros recovered recovering recovery_step recovery_sent shown_by
hazard = record { rules = refl; sees = refl; before = refl; after = refl }

rewritten_twice : Rewritten
unfolding every_along foldl after_step with_updates rewritten due stored puts line_bytes stores appended shaped last_begun opened follows total start_at
    record_at record_ok good_log records serve serve_by stepped sound header_sound card_sound translation_sound tail_zero decode card_at entry_at read_entry
    encode bodies pad entry_bytes header shape_ok fresh replied raise entry_sound command_bytes formed payload fields_of well_formed all all_from le to_le
    part splice tabulate concat_map every zeros recovering recovery_step recovery_sent shown_by
rewritten_twice = record { rules = refl; sees = refl; met = met }

renewed_log : Renewed
unfolding every_along foldl after_step with_updates rewritten due stored puts line_bytes stores appended shaped last_begun opened follows total start_at
    record_at record_ok good_log records serve serve_by stepped sound header_sound card_sound translation_sound tail_zero decode card_at entry_at read_entry
    encode bodies pad entry_bytes header shape_ok fresh replied raise entry_sound command_bytes formed payload fields_of well_formed all all_from le to_le
    part splice tabulate concat_map every zeros
renewed_log = record { rules = refl; sees = refl; lines = refl }

abbrev Verdict : Type 0
Verdict = Bool × (Bool × (Bool × Bool))

abbrev verdict : List Step → Step → List Step → Verdict
verdict lead wrong rest =
    let a = walked at_first lead in
    let b = walked (after_step 5 a.left wrong) rest in
    (a.passed, (lawful 5 a.left wrong, (b.passed, agrees b.left 0)))

broken_at : (lead : List Step) (wrong : Step) (rest : List Step) → verdict lead wrong rest ≡ (true, (false, (true, false))) → BrokenAt lead wrong rest
unfolding foldl
broken_at lead wrong rest e =
    let a = walked_is at_first lead in
    let y = (walked at_first lead).left in
    let b = walked_is (after_step 5 y wrong) rest in
    record {
      before = sym a.1 ∙ ap (λ (v : Verdict). v.0) e;
      refused = ap (λ (w : OneDesk). lawful 5 w wrong) (sym a.0) ∙ ap (λ (v : Verdict). v.1.0) e;
      after = ap (λ (w : OneDesk). lawful_all 5 (after_step 5 w wrong) rest) (sym a.0) ∙ sym b.1 ∙ ap (λ (v : Verdict). v.1.1.0) e;
      broken =
          ap (λ (w : OneDesk). agrees w 0) (foldl_append (after_step 5) at_first lead (wrong ∷ rest) ∙ ap (λ (w : OneDesk). after_steps 5 (after_step 5 w wrong) rest) (sym a.0) ∙ sym b.0)
          ∙ ap (λ (v : Verdict). v.1.1.1) e;
    }

rules_needed : OrderRulesNeeded
unfolding walk every_along foldl after_step with_updates rewritten due stored puts line_bytes stores appended shaped last_begun opened follows total
    start_at record_at record_ok good_log records serve serve_by stepped sound header_sound card_sound translation_sound tail_zero decode card_at entry_at
    read_entry encode bodies pad entry_bytes header shape_ok fresh replied raise entry_sound command_bytes formed payload fields_of well_formed all all_from
    le to_le part splice tabulate concat_map every zeros recovering recovery_step recovery_sent shown_by
rules_needed =
    record {
      unprepared = broken_at _ _ _ refl;
      released = broken_at _ _ _ refl;
      prepared_due = broken_at _ _ _ refl;
      unwritten = broken_at _ _ _ refl;
      not_free = broken_at _ _ _ refl;
      uncommitted = broken_at _ _ _ refl;
      taken_off = broken_at _ _ _ refl;
      put_on = broken_at _ _ _ refl;
      guessed = broken_at _ _ _ refl;
      not_due = broken_at _ _ _ refl;
      other_text = broken_at _ _ _ refl;
      passed_over = broken_at _ _ _ refl;
      unmarked = broken_at _ _ _ refl;
      unraised = broken_at _ _ _ refl;
      still_due = broken_at _ _ _ refl;
      sessions = record { before = refl; refused = refl; refused_too = refl; after = refl; broken = refl };
    }

-- The same of many desks.
abbrev walked_desks : Desks → List DeskStep → Walked Desks
walked_desks y steps = walk (lawful_desk_step both_ruled) after_desk_step y steps

walked_desks_is : (y : Desks) (steps : List DeskStep)
    → ((walked_desks y steps).left ≡ after_desk_steps y steps) × ((walked_desks y steps).passed ≡ lawful_desk_steps both_ruled y steps)
walked_desks_is y steps = walk_is (lawful_desk_step both_ruled) after_desk_step y steps

desks_more : (y : Desks) (a b : List DeskStep) → after_desk_steps y (a ++ b) ≡ after_desk_steps (after_desk_steps y a) b
desks_more y a b = foldl_append after_desk_step y a b

rules_more : (y : Desks) (a b : List DeskStep)
    → lawful_desk_steps both_ruled y (a ++ b) ≡ (lawful_desk_steps both_ruled y a && lawful_desk_steps both_ruled (after_desk_steps y a) b)
rules_more y a b = along_append (lawful_desk_step both_ruled) after_desk_step y a b

abbrev DesksVerdict : Type 0
DesksVerdict = Bool × (Bool × (Bool × (Bool × (Seen × Seen))))

abbrev desks_verdict : DesksVerdict
desks_verdict =
    let a = walked_desks two_desks both_begin in
    let b = walked_desks a.left six_commits in
    let c = walked_desks b.left (six_finishes ++ five_commits) in
    (a.passed, (lawful_desk_step both_ruled a.left (by_desk 5 (logs (commit_of 1))), (b.passed, (c.passed, (see_desks b.left, see_desks c.left)))))

desks_verdict_lem : desks_verdict ≡ (true, (false, (true, (true, (seeing text190 text380 text190 text210, seeing text190 text210 text205 text401)))))
unfolding every_along foldl after_step with_updates rewritten due stored puts line_bytes stores appended shaped last_begun opened follows total start_at
    record_at record_ok good_log records serve serve_by stepped sound header_sound card_sound translation_sound tail_zero decode card_at entry_at read_entry
    encode bodies pad entry_bytes header shape_ok fresh replied raise entry_sound command_bytes formed payload fields_of well_formed all all_from le to_le
    part splice tabulate concat_map every zeros after_desk_step walk
desks_verdict_lem = refl

two_desks_lem : TwoDesks
two_desks_lem =
    let y : Desks = (walked_desks two_desks both_begin).left in
    let z : Desks = (walked_desks y six_commits).left in
    let a = walked_desks_is two_desks both_begin in
    let b = walked_desks_is y six_commits in
    let c = walked_desks_is z (six_finishes ++ five_commits) in
    let here : after_desk_steps two_desks both_begin ≡ y = sym a.0 in
    let mid : after_desk_steps two_desks (both_begin ++ six_commits) ≡ z =
    desks_more two_desks both_begin six_commits ∙ ap (λ (w : Desks). after_desk_steps w six_commits) here ∙ sym b.0 in
    let end : after_desk_steps two_desks (both_begin ++ (six_commits ++ (six_finishes ++ five_commits))) ≡ (walked_desks z (six_finishes ++ five_commits)).left =
    desks_more two_desks both_begin (six_commits ++ (six_finishes ++ five_commits))
    ∙ ap (λ (w : Desks). after_desk_steps w (six_commits ++ (six_finishes ++ five_commits))) here
    ∙ desks_more y six_commits (six_finishes ++ five_commits)
    ∙ ap (λ (w : Desks). after_desk_steps w (six_finishes ++ five_commits)) (sym b.0)
    ∙ sym c.0 in
    let last : lawful_desk_steps both_ruled y (six_commits ++ (six_finishes ++ five_commits)) ≡ true =
    rules_more y six_commits (six_finishes ++ five_commits)
    ∙ and_in (sym b.1 ∙ ap (λ (v : DesksVerdict). v.1.1.0) desks_verdict_lem)
    (ap (λ (w : Desks). lawful_desk_steps both_ruled w (six_finishes ++ five_commits)) (sym b.0) ∙ sym c.1 ∙ ap (λ (v : DesksVerdict). v.1.1.1.0) desks_verdict_lem) in
    record {
      rules =
          rules_more two_desks both_begin (six_commits ++ (six_finishes ++ five_commits))
          ∙ and_in (sym a.1 ∙ ap (λ (v : DesksVerdict). v.0) desks_verdict_lem)
          (ap (λ (w : Desks). lawful_desk_steps both_ruled w (six_commits ++ (six_finishes ++ five_commits))) here ∙ last);
      early = ap (λ (w : Desks). lawful_desk_step both_ruled w (by_desk 5 (logs (commit_of 1)))) here ∙ ap (λ (v : DesksVerdict). v.1.0) desks_verdict_lem;
      first = ap see_desks mid ∙ ap (λ (v : DesksVerdict). v.1.1.1.1.0) desks_verdict_lem;
      last = ap see_desks end ∙ ap (λ (v : DesksVerdict). v.1.1.1.1.1) desks_verdict_lem;
    }

pub transaction_runs : TransactionRuns
transaction_runs = (ordinary, (cut, (crash_recovered, (hazard, (rewritten_twice, (renewed_log, (two_desks_lem, rules_needed)))))))
