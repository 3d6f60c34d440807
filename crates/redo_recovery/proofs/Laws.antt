-- Laws that the code of recovery cites. Assumes nothing.
use Prim.Native.Nat.{ℕ, ◌+◌, ◌≤◌, ◌<◌}
use native.Mathlib.Omega.{arith}
use mathlib.Core.Path.{◌≡◌, sym, ap, ◌∙◌}
use mathlib.Core.List.{List, []}
use mathlib.Core.Bool.{Bool, true, false, not, ◌&&◌, and-false}
use borrow.Author.Tests.{eq-eqb, eqb-true, le-ltb}
use lib.ListN.{length, get_or-eq_default}
use lib.Dec.{eqb, lit<}
use Rattle.formats.specs.Format.{V1, translations, entry_size}
use Rattle.lists.specs.Parts.{Bytes, zeros}
use Rattle.lists.proofs.Tests.{to_T, and_left}
use Rattle.lists.proofs.Bytes.{Bytes_nil}
use Rattle.commands.specs.Command.{well_formed, FitsCommand}
use Rattle.commands.specs.declared.Command.{Command}
use Rattle.commands.specs.Bytes.{blanks, extent, formed, command_bytes}
use Rattle.commands.proofs.CommandBytes.{fields_command, payload_command, formed_command, Bytes_command}
use Rattle.guard.specs.Replies.{refused}
use Rattle.guard.specs.Entry.{no_entry}
use Rattle.image.specs.Layout.{entry_place}
use Rattle.image.specs.Image.{view, sound, no_card, decode}
use Rattle.image.specs.Bytes.{count_of as cards_of, entry_at}
use Rattle.image.proofs.Decode.{count_decode, card_decode, view_at, places}
use Rattle.store_model.specs.Serve.{serve}
use Rattle.store_model.proofs.Sound.{stays_sound}
use Rattle.store.specs.inner.Carried.{carried}
use Rattle.store.proofs.Step.{refusal, serve_malformed, serve_no_card, serve_found}
use Rattle.redo_log.specs.Log.{LogRecord, record_count, record_card, last_begun, record_at, records}
use Rattle.redo_log.proofs.Records.{last_ext}
use Rattle.redo_log.proofs.ReadBack.{record_of}
use Rattle.redo_recovery_model.specs.Recovery.{record_in, transaction_in, commits_to, syncs_from, due, entry_for}
use Rattle.lists.specs.Search.{any}
use Rattle.redo_log.specs.inner.Placed.{Placed, placed_at}
use Rattle.redo_recovery.specs.inner.Step.{due_by}

-- ---- a record that is due

module _ (rs : List LogRecord) (p : Placed) (e : p.entry.kind ≡ 2) {a : Bool} (ea : a ≡ any (commits_to p.transaction) rs) where
  pub due_when : {b : Bool} → a ≡ true → b ≡ any (syncs_from (record_card p.entry) p.transaction) rs → not b ≡ due_by rs p
  due_when t eb = rw (eq-eqb p.entry.kind 2 e, sym ea ∙ t, eb)

  pub due_unless : a ≡ false → a ≡ due_by rs p
  due_unless f = rw (eq-eqb p.entry.kind 2 e, sym ea ∙ f, f)

module _ (log : List ℕ) (j : ℕ) (h : j < record_count log) where
  -- The transaction of record j, as the list of records has it and as the log has it.
  pub last_is : transaction_in (records log) j ≡ last_begun (record_at log) j
  last_is = last_ext (record_in (records log)) (record_at log) j (λ i k. record_of log i (omega arith))

  pub due_at : due_by (records log) (placed_at log j) ≡ due (records log) j
  unfolding due
  due_at = rw (last_is, record_of log j h)

pub due_kind : (rs : List LogRecord) (p : Placed) → due_by rs p ≡ true → p.entry.kind ≡ 2
due_kind rs p d =
    eqb-true p.entry.kind 2
    (and_left (eqb p.entry.kind 2) _ (and_left (eqb p.entry.kind 2 && any (commits_to p.transaction) rs) _ d))

-- ---- entries

pub entry_none : (image : List ℕ) (k : ℕ) → cards_of image ≤ k → no_entry ≡ entry_for image k
entry_none image k h = sym (ap (view 0) (get_or-eq_default (decode V1 image).cards (no_card V1) {n = k} (rw (count_decode V1) h)))

pub entry_some : (image : List ℕ) (k : ℕ) → sound V1 image ≡ true → k < cards_of image → entry_at V1 image k 0 ≡ entry_for image k
entry_some image k e h = sym (ap (view 0) (card_decode V1 image k h) ∙ view_at V1 image (to_T e) k h 0 (lit< tt))

pub entry_inside : (image : List ℕ) (k : ℕ) → sound V1 image ≡ true → k < cards_of image → entry_place V1 k + entry_size V1 ≤ length image
entry_inside image k e h = (places V1 image k (to_T e) h).entry

-- ---- a write

module _ (image : List ℕ) (c : Command) (text : List ℕ) (e : sound V1 image ≡ true) (f : FitsCommand c) (known : c.language < translations V1) (l : length text ≡ c.length) where
  pub serve_bad : well_formed c ≡ false → serve V1 image (command_bytes V1 c text) [] ≡ refusal (refused 1) image []
  unfolding formed
  serve_bad w =
      serve_malformed V1 image (command_bytes V1 c text) [] e
      (rw (ap well_formed (fields_command c text V1 f known) ∙ w)
      (and-false (eqb (length (command_bytes V1 c text)) (extent V1 (command_bytes V1 c text)) && zeros (blanks V1 (command_bytes V1 c text)))))

  module _ (w : well_formed c ≡ true) where
    pub serve_none : cards_of image ≤ c.card → serve V1 image (command_bytes V1 c text) [] ≡ refusal (refused 2) image []
    serve_none h = serve_no_card V1 image (command_bytes V1 c text) [] e (formed_command c text V1 f known w l) (rw (fields_command c text V1 f known) (le-ltb c.card (cards_of image) h))

    pub serve_runs : c.card < cards_of image → serve V1 image (command_bytes V1 c text) [] ≡ carried V1 image c text []
    serve_runs h = serve_found V1 image (command_bytes V1 c text) [] e (formed_command c text V1 f known w l) (sym (fields_command c text V1 f known)) (sym (payload_command c text V1)) h

  pub kept_sound : Bytes image → Bytes text → sound V1 (serve V1 image (command_bytes V1 c text) []).image ≡ true
  kept_sound b t = stays_sound V1 image (command_bytes V1 c text) [] b (Bytes_command c text V1 f t) Bytes_nil e
