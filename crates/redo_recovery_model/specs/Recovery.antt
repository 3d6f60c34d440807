-- Recovery from a desk's redo log through the guard (rules 11.15 to 11.20): which updates are due, the command that each becomes, and what they leave.
-- Assumes nothing.
use Rattle.std.specs.Prelude.{ℕ, zero, suc, ◌<◌, List, [], ◌∷◌, Bool, cond, not, ◌&&◌, length, get_or, leb, eqb}
use Rattle.formats.specs.Format.{V1}
use Rattle.lists.specs.Table.{settled}
use Rattle.stamps.specs.Stamp.{exclusive, no_pair}
use Rattle.stamps.specs.declared.Pair.{Pair}
use Rattle.commands.specs.declared.Command.{Command}
use Rattle.commands.specs.Bytes.{command_bytes}
use Rattle.guard.specs.declared.Entry.{Entry}
use Rattle.image.specs.Image.{view, no_card, decode}
use Rattle.redo_log.specs.Log.{LogRecord, no_record, update_kind, commit_kind, synced_kind, record_card, record_side, record_text, record_transaction, last_begun, good_log, records}
use Rattle.store_model.specs.Serve.{serve}
use Rattle.lists.specs.Search.{any}
use Rattle.store_model.specs.Words.{Sent}
use Rattle.numbers.specs.Numbers.{BAD_LOG}

-- ---- which updates are due (rule 11.15), of records in the order of the log

abbrev pub record_in : List LogRecord → ℕ → LogRecord
record_in rs i = get_or rs i no_record

-- The transaction that record i belongs to: the last begun before it.
abbrev pub transaction_in : List LogRecord → ℕ → ℕ
transaction_in rs i = last_begun (record_in rs) i

-- A commit of transaction t.
abbrev pub commits_to : ℕ → LogRecord → Bool
commits_to t r = eqb r.kind commit_kind && eqb (record_transaction r) t

-- A synced record of a card, of transaction t or a higher one.
abbrev pub syncs_from : ℕ → ℕ → LogRecord → Bool
syncs_from card t r = eqb r.kind synced_kind && eqb (record_card r) card && leb t (record_transaction r)

-- Rule 11.15: record i is due, an update whose transaction is committed and whose card is not synced as of that transaction, wherever those records stand.
unfoldable pub due : List LogRecord → ℕ → Bool
due rs i =
    eqb (record_in rs i).kind update_kind
    && any (commits_to (transaction_in rs i)) rs
    && not (any (syncs_from (record_card (record_in rs i)) (transaction_in rs i)) rs)

-- ---- the command of an update (rules 11.16 and 11.17)

-- The pairs that recovery is given (rule 11.16): the s and the x of each card, by number. A card beyond the end of a list has a zero there.
pub record Pairs : Type 0 where
  pub s : List ℕ
  pub x : List ℕ

abbrev pub recovery_pair : Pairs → ℕ → Pair
recovery_pair pairs k = record { s = get_or pairs.s k 0; x = get_or pairs.x k 0 }

-- The entry of a card as stored, as seen in translation 0; zeros for a card that is not there.
abbrev pub entry_for : List ℕ → ℕ → Entry
entry_for image k = view 0 (get_or (decode V1 image).cards k (no_card V1))

-- Rule 11.17: an exclusive write under the pair, which is its verifier and its update pair: it expects the stored mark and leaves it, and a translation names the
-- stored edition.
abbrev pub write_by : Pair → Entry → LogRecord → Command
write_by pair e r =
    record {
      act = cond (eqb (record_side r) 1) 3 4;
      mode = exclusive;
      language = 0;
      card = record_card r;
      verifier = pair;
      opened = no_pair;
      expected = e.mark;
      next = e.mark;
      edition = cond (eqb (record_side r) 1) 0 e.edition;
      length = length (record_text r);
    }

abbrev pub write_of : Pairs → List ℕ → LogRecord → Command
write_of pairs image r = write_by (recovery_pair pairs (record_card r)) (entry_for image (record_card r)) r

-- The request: the command's bytes and an empty reply buffer.
unfoldable pub recovery_sent : Pairs → List ℕ → LogRecord → Sent
recovery_sent pairs image r = record { command = command_bytes V1 (write_of pairs image r) (record_text r); lent = [] }

-- ---- recovery (rules 11.18 to 11.20)

-- What it answers, the image that it leaves, and the requests that it sent, latest first.
pub record Recovery : Type 0 where
  pub number : ℕ
  pub line : ℕ
  pub image : List ℕ
  pub sent : List Sent

-- One request more, for record i: the line is that of a refused one.
unfoldable pub recovery_step : ℕ → Sent → Recovery → Recovery
recovery_step i s r =
    record {
      number = (serve V1 r.image s.command s.lent).answer.number;
      line = settled (serve V1 r.image s.command s.lent).answer.number 0 i;
      image = (serve V1 r.image s.command s.lent).image;
      sent = s ∷ r.sent;
    }

-- Rule 11.18, after the first i records: one request for each that is due, on the image that the one before it left, up to the first that is refused.
unfoldable pub recovering : Pairs → List LogRecord → List ℕ → ℕ → Recovery
recovering pairs rs image zero = record { number = 0; line = 0; image = image; sent = [] }
recovering pairs rs image (suc i) =
    settled (recovering pairs rs image i).number
    (cond (due rs i)
    (recovery_step i (recovery_sent pairs (recovering pairs rs image i).image (record_in rs i)) (recovering pairs rs image i))
    (recovering pairs rs image i))
    (recovering pairs rs image i)

-- Rules 11.18 and 11.19: recovery goes by what is read back of the log and by nothing else; a bad log gets 23 and no request.
unfoldable pub recovered : Pairs → List ℕ → List ℕ → Recovery
recovered pairs log image =
    cond (good_log log) (recovering pairs (records log) image (length (records log))) (record { number = BAD_LOG; line = 0; image = image; sent = [] })

-- Each stamp fits in 64 bits.
pub record FitsPairs (p : Pairs) : Type 0 where
  pub s : (k : ℕ) → get_or p.s k 0 < 18446744073709551616
  pub x : (k : ℕ) → get_or p.x k 0 < 18446744073709551616
