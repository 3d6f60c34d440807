-- The worked cases, by computation. Each run is worked out once, and what is asked of it follows. Assumes nothing.
use Prim.Native.Nat.{ℕ}
use mathlib.Core.Path.{◌≡◌, refl, ap, ◌∙◌}
use mathlib.Core.List.{List, [], ◌∷◌, map, head-eq_of_cons-eq, tail-eq_of_cons-eq}
use Rattle.lists.specs.Parts.{part, splice, tabulate, concat_map, every, zeros}
use Rattle.lists.specs.Le.{le, to_le}
use Rattle.lists.specs.Table.{all, all_from}
use Rattle.commands.specs.Command.{well_formed, original, translation}
use Rattle.commands.specs.Bytes.{fields_of, payload, formed, command_bytes}
use Rattle.guard.specs.Entry.{entry_sound}
use Rattle.guard.specs.Judge.{raise}
use Rattle.guard.specs.Replies.{replied}
use Rattle.image.specs.Layout.{shape_ok}
use Rattle.image.specs.Bytes.{header, entry_bytes, pad, read_entry, entry_at}
use Rattle.image.specs.Image.{bodies, encode, card_at, decode, tail_zero, translation_sound, card_sound, header_sound, sound, fresh}
use Rattle.store_model.specs.Serve.{stepped, serve_by, serve}
use Rattle.store_model.specs.Words.{image_after}
use Rattle.redo_log.specs.Log.{LogRecord, shaped, last_begun, opened, follows, good_log}
use lib.ListN.{length, replicate}
use lib.Dec.{lit≤}
use Rattle.redo_log_claims.specs.Claims.{wholly, cut_after}
use Rattle.redo_log_claims.proofs.Holding.{Holding, start_by, holding_none, admitted_by, holding_cut}
use Rattle.store_model.specs.Cases.{text205, text401}
use Rattle.redo_log_claims.specs.Cases.{empty_log}
use Rattle.redo_recovery_model.specs.Recovery.{Recovery, due, recovery_sent, recovery_step, recovering, recovered}
use Rattle.redo_recovery_model.specs.Claims.{text_in}
use Rattle.redo_recovery_model.specs.Cases.{pairs1, pairs2, blank_image, RecoveryCase, ran_case, AllRecover, recovery_case, recovery_cases, both_texts, after_first, two_transactions, RecoveryCases}
use Rattle.redo_recovery_model.specs.Edges.{RecoveryEdges, RecoveryWorked}
use Rattle.redo_recovery_model.proofs.Steps.{recovered_by}

-- What a case asks of its run: the number, the line and both texts.
abbrev Asked : Type 0
Asked = ℕ × (ℕ × (List ℕ × List ℕ))

abbrev given : Recovery → Asked
given r = (r.number, (r.line, (text_in r.image original 0, text_in r.image (translation 0) 0)))

abbrev wanted : RecoveryCase → Asked
wanted c = (c.gives, (c.line, (c.first, c.second)))

all_recover : (cs : List RecoveryCase) → map (λ (c : RecoveryCase). given (ran_case c)) cs ≡ map wanted cs → AllRecover cs
all_recover [] same = tt
all_recover (c ∷ cs) same =
    let e = head-eq_of_cons-eq same in (
      (ap (λ (a : Asked). a.0) e, ap (λ (a : Asked). a.1.0) e, ap (λ (a : Asked). a.1.1.0) e, ap (λ (a : Asked). a.1.1.1) e),
      all_recover cs (tail-eq_of_cons-eq same),
    )

-- Of a log: the number and the original of a run, and the number of a second one.
abbrev Twice : Type 0
Twice = ℕ × (List ℕ × ℕ)

abbrev twice : List ℕ → Twice
twice log =
    let r = recovered pairs1 log blank_image in
    (r.number, (text_in r.image original 0, (recovered pairs1 log r.image).number))

abbrev cut : ℕ → List ℕ
cut k = cut_after k (empty_log 64) two_transactions

-- The same of the records that it holds.
abbrev twice_by : List LogRecord → Twice
twice_by rs =
    let r = recovering pairs1 rs blank_image (length rs) in
    (r.number, (text_in r.image original 0, (recovering pairs1 rs r.image (length rs)).number))

abbrev held : ℕ → List LogRecord
held k = wholly k (admitted_by 2265 [] two_transactions)

twice_by_lem : (k : ℕ) → twice (cut k) ≡ twice_by (held k)
twice_by_lem k =
    let is : Holding 2265 (held k) (cut k) = holding_cut k 2265 [] two_transactions (empty_log 64) (holding_none 64 (lit≤ tt)) in
    let run = recovering pairs1 (held k) blank_image (length (held k)) in
    ap (λ (r : Recovery). (r.number, (text_in r.image original 0, (recovered pairs1 (cut k) r.image).number))) (recovered_by is pairs1 blank_image)
    ∙ ap (λ (r : Recovery). (run.number, (text_in run.image original 0, r.number))) (recovered_by is pairs1 run.image)

cut_runs : map (λ (k : ℕ). twice_by (held k)) (49 ∷ 50 ∷ 99 ∷ 100 ∷ []) ≡ (0, ([], 0)) ∷ (0, (text205, 0)) ∷ (0, (text205, 0)) ∷ (0, (text401, 0)) ∷ []
unfolding due recovery_sent recovery_step recovering admitted_by wholly start_by shaped last_begun opened follows serve serve_by stepped sound header_sound
    card_sound translation_sound tail_zero decode card_at entry_at read_entry encode bodies pad entry_bytes header shape_ok fresh replied raise entry_sound
    command_bytes formed payload fields_of well_formed all all_from le to_le part splice tabulate concat_map every zeros
cut_runs = refl

abbrev number_and_text : {a b : Twice} → a ≡ b → (a.0 ≡ b.0) × (a.1.0 ≡ b.1.0)
number_and_text e = (ap (λ (t : Twice). t.0) e, ap (λ (t : Twice). t.1.0) e)

-- Both texts of card 0.
abbrev texts : List ℕ → List ℕ × List ℕ
texts image = (text_in image original 0, text_in image (translation 0) 0)

bad_log : recovered pairs1 (201 ∷ replicate 2200 0) blank_image ≡ record { number = 23; line = 0; image = blank_image; sent = [] }
unfolding recovered good_log
bad_log = refl

recovery_cases_lem : RecoveryCases
unfolding image_after due recovery_sent recovery_step recovering last_begun serve serve_by stepped sound header_sound card_sound translation_sound tail_zero decode
    card_at entry_at read_entry encode bodies pad entry_bytes header shape_ok fresh replied raise entry_sound command_bytes formed payload fields_of well_formed
    all all_from le to_le part splice tabulate concat_map every zeros
recovery_cases_lem =
    let later = tail-eq_of_cons-eq (tail-eq_of_cons-eq cut_runs) in
    let last = twice_by_lem 100 ∙ head-eq_of_cons-eq (tail-eq_of_cons-eq later) in
    let first : texts after_first ≡ (text205, []) = refl in
    record {
      cases = all_recover recovery_cases refl;
      mark = refl;
      plain = refl;
      cut49 = number_and_text (twice_by_lem 49 ∙ head-eq_of_cons-eq cut_runs);
      cut50 = number_and_text (twice_by_lem 50 ∙ head-eq_of_cons-eq (tail-eq_of_cons-eq cut_runs));
      cut99 = number_and_text (twice_by_lem 99 ∙ head-eq_of_cons-eq later);
      cut100 = number_and_text last;
      again = ap (λ (t : Twice). t.1.1) last;
      cut_first = (ap (λ (p : List ℕ × List ℕ). p.0) first, ap (λ (p : List ℕ × List ℕ). p.1) first);
      run_again = (all_recover (recovery_case both_texts pairs2 after_first 0 0 text205 text401 ∷ []) refl).0;
      bad = bad_log;
    }

recovery_edges : RecoveryEdges
unfolding due recovery_sent recovery_step recovering last_begun serve serve_by stepped sound header_sound card_sound translation_sound tail_zero decode card_at
    entry_at read_entry encode bodies pad entry_bytes header shape_ok fresh replied raise entry_sound command_bytes formed payload fields_of well_formed all
    all_from le to_le part splice tabulate concat_map every zeros
recovery_edges =
    record {
      own_pair = refl;
      no_pair_lem = refl;
      short_s = refl;
      short_x = refl;
      marks = refl;
      given_up = refl;
      synced = refl;
      synced_both = refl;
      ahead = refl;
      last_edition_lem = refl;
    }

pub recovery_worked : RecoveryWorked
recovery_worked = (recovery_cases_lem, recovery_edges)
