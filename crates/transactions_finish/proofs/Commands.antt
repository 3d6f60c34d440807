-- The commands of a desk that finishes: a look, and orders on the word of what is stored, which are accepted. Assumes nothing.
use Prim.Native.Nat.{ℕ, ◌+◌, ◌≤◌, ◌<◌}
use native.Mathlib.Omega.{arith}
use mathlib.Core.Path.{◌≡◌, refl, ap, ◌∙◌}
use mathlib.Core.List.{List, []}
use mathlib.Core.Bool.{Bool, true, false, cond, or-true, and-false}
use borrow.Author.Tests.{eq-eqb, ne_eqb, lt-ltb, le-leb, le-ltb}
use lib.ListN.{length, get_or}
use lib.Dec.{eqb, lit<}
use Rattle.formats.specs.Format.{V1}
use Rattle.lists.specs.Parts.{Bytes}
use Rattle.lists.specs.Table.{all, all_from}
use Rattle.lists.proofs.Bytes.{Bytes_nil}
use Rattle.lists.proofs.Tests.{or_none, all_out, from_T}
use Rattle.stamps.specs.Stamp.{stamp, stamp_t, stamp_valid, shared, exclusive, no_pair, no_mark, mark_whole, too_far, most_ahead, FitsMark}
use Rattle.stamps.proofs.Stamp.{stamp_valid_lem}
use Rattle.stamps.specs.declared.Mark.{Mark}
use Rattle.commands.specs.declared.Command.{Command}
use Rattle.commands.specs.Command.{well_formed, update, FitsCommand}
use Rattle.commands.specs.Bytes.{payload, formed, command_bytes}
use Rattle.commands.proofs.CommandBytes.{fields_command, formed_command, payload_command, Bytes_command}
use Rattle.guard.specs.Entry.{FitsEntry, entry_sound, entry_checks}
use Rattle.guard.specs.Judge.{wrong_edition, editions_spent, reply_short}
use Rattle.image.specs.Image.{Card, Cards, GoodCards, view}
use Rattle.store_model.specs.Words.{Sent}
use Rattle.store_model.specs.Claims.{SentBytes}
use Rattle.store_model.proofs.Machine.{number_on}
use Rattle.redo_recovery_model.proofs.Never.{fits_itself}
use Rattle.transactions.specs.System.{command_in}
use Rattle.transactions.proofs.Serving.{at}
use Rattle.transactions_progress.proofs.Taken.{taken_by, same_pair_lem}

-- A command with its payload, sent without a reply buffer.
abbrev pub sends : Command → List ℕ → Sent
sends c text = record { command = command_bytes V1 c text; lent = [] }

-- The stamp of desk d above another one, with the next T.
abbrev pub above : ℕ → ℕ → ℕ
above d x = stamp (stamp_t x + 1) d 0

module _ (d x : ℕ) (small : d < 65536) (some : d ≡ 0 → ⊥) (left : stamp_t x + 1 < 4294967296) where
  pub above_more : x < above d x
  above_more = omega arith

  pub above_fits : above d x < 18446744073709551616
  above_fits = omega arith

  pub above_next : stamp_t (above d x) ≡ stamp_t x + 1
  above_next = omega arith

  pub above_valid : stamp_valid (above d x) ≡ true
  above_valid = stamp_valid_lem (stamp_t x + 1) small (lit< tt) some

  pub above_some : eqb (above d x) 0 ≡ false
  above_some = ne_eqb (above d x) 0 (λ e. omega (arith, above_more, e))

-- ---- a look

abbrev pub looking : ℕ → ℕ → Command
looking d k =
    record {
      act = 5;
      mode = shared;
      language = 0;
      card = k;
      verifier = no_pair;
      opened = record { s = stamp 0 d 0; x = 0 };
      expected = no_mark;
      next = no_mark;
      edition = 0;
      length = 0;
    }

module _ (d k : ℕ) (small : d < 65536) (some : d ≡ 0 → ⊥) (low : k < 65536) where
  look_fits : FitsCommand (looking d k)
  look_fits =
      record {
        act = lit< tt;
        mode = lit< tt;
        language = lit< tt;
        card = low;
        verifier = record { s = lit< tt; x = lit< tt };
        opened = record { s = omega arith; x = lit< tt };
        expected = record { desk = lit< tt; transaction = lit< tt };
        next = record { desk = lit< tt; transaction = lit< tt };
        edition = lit< tt;
        length = lit< tt;
      }

  own_some : eqb (stamp 0 d 0) 0 ≡ false
  own_some = ne_eqb (stamp 0 d 0) 0 (λ e. some (omega arith))

  look_well : well_formed (looking d k) ≡ true
  unfolding well_formed all all_from
  look_well = rw (own_some, stamp_valid_lem 0 small (lit< tt) some, own_some, le-leb 0 (stamp 0 d 0) (omega arith))

  pub look_formed : formed V1 (sends (looking d k) []).command ≡ true
  look_formed = formed_command (looking d k) [] V1 look_fits (lit< tt) look_well refl

  pub look_fields : command_in (sends (looking d k) []) ≡ looking d k
  look_fields = fields_command (looking d k) [] V1 look_fits (lit< tt)

  pub look_bytes : SentBytes (sends (looking d k) [])
  look_bytes = record { command = Bytes_command (looking d k) [] V1 look_fits Bytes_nil; lent = Bytes_nil }

-- ---- an order

-- Desk d's order for card k as stored, by its act, the mark that it leaves, the edition that it names and its length.
abbrev pub ordering : ℕ → ℕ → Card → ℕ → Mark → ℕ → ℕ → Command
ordering d k card act next edition size =
    record {
      act = act;
      mode = exclusive;
      language = 0;
      card = k;
      verifier = card.pair;
      opened = record { s = card.pair.s; x = above d card.pair.x };
      expected = card.mark;
      next = next;
      edition = edition;
      length = size;
    }

-- What it does: it releases; or it writes one side.
pub data Deed : Type 0 where
  releasing : Deed
  writing : (original : Bool) → Deed

abbrev pub act_of : Deed → ℕ
act_of releasing = 5
act_of (writing b) = cond b 3 4

abbrev pub next_of : Deed → Mark → Mark
next_of releasing m = no_mark
next_of (writing b) m = m

abbrev pub edition_of : Deed → ℕ → ℕ
edition_of releasing e = 0
edition_of (writing b) e = cond b 0 e

abbrev pub order_of : ℕ → ℕ → Card → Deed → ℕ → Command
order_of d k card deed size = ordering d k card (act_of deed) (next_of deed card.mark) (edition_of deed card.edition) size

-- What it writes has a length only if it writes, and a translation has an edition.
abbrev Laid : Deed → Card → ℕ → Type 0
Laid releasing card size = size ≡ 0
Laid (writing true) card size = Unit {0}
Laid (writing false) card size = eqb card.edition 0 ≡ false

well_order : (d k : ℕ) (card : Card) (deed : Deed) (size : ℕ) → d < 65536 → (d ≡ 0 → ⊥) → stamp_t card.pair.x + 1 < 4294967296
    → stamp_valid card.pair.s ≡ true → stamp_valid card.pair.x ≡ true → mark_whole card.mark ≡ true → Laid deed card size
    → well_formed (order_of d k card deed size) ≡ true
unfolding well_formed all all_from
well_order d k card releasing size small some left vs vx m f =
    rw (
      f,
      above_some d card.pair.x small some left,
      and-false (eqb card.pair.s 0),
      vs,
      vx,
      m,
      above_valid d card.pair.x small some left,
      above_some d card.pair.x small some left,
      le-leb card.pair.s card.pair.s (omega arith),
      le-leb card.pair.x (above d card.pair.x) (omega (arith, above_more d card.pair.x small some left)),
    )
well_order d k card (writing true) size small some left vs vx m f =
    rw (
      or-true (eqb size 0),
      above_some d card.pair.x small some left,
      and-false (eqb card.pair.s 0),
      vs,
      vx,
      m,
      above_valid d card.pair.x small some left,
      above_some d card.pair.x small some left,
      le-leb card.pair.s card.pair.s (omega arith),
      le-leb card.pair.x (above d card.pair.x) (omega (arith, above_more d card.pair.x small some left)),
    )
well_order d k card (writing false) size small some left vs vx m f =
    rw (
      f,
      or-true (eqb size 0),
      above_some d card.pair.x small some left,
      and-false (eqb card.pair.s 0),
      vs,
      vx,
      m,
      above_valid d card.pair.x small some left,
      above_some d card.pair.x small some left,
      le-leb card.pair.s card.pair.s (omega arith),
      le-leb card.pair.x (above d card.pair.x) (omega (arith, above_more d card.pair.x small some left)),
    )

-- What it takes: nothing to write, or a text that has room and an edition.
abbrev pub Fit : Cards → Card → Deed → List ℕ → Type 0
Fit cs card releasing text = text ≡ []
Fit cs card (writing true) text = (length text ≤ cs.room) × (card.edition < 65535)
Fit cs card (writing false) text = (length text ≤ cs.room) × (eqb card.edition 0 ≡ false)

module _ (cs : Cards) (gc : GoodCards V1 cs) (d k : ℕ) (small : d < 65536) (some : d ≡ 0 → ⊥) (inside : k < length cs.cards) (low : k < 65536)
    (left : stamp_t (at cs k).pair.x + 1 < 4294967296) (deed : Deed) (text : List ℕ) (tb : Bytes text) (short : length text < 65536) (fit : Fit cs (at cs k) deed text) where
  abbrev card : Card
  card = at cs k

  abbrev c : Command
  c = order_of d k card deed (length text)

  abbrev s : Sent
  s = sends c text

  stored : FitsEntry (view 0 card)
  stored = (gc.each k inside).fits 0 (lit< tt)

  check : (i : ℕ) → get_or (entry_checks cs.room (view 0 card)) i true ≡ true
  unfolding entry_sound
  check i = all_out (entry_checks cs.room (view 0 card)) (from_T (entry_sound cs.room (view 0 card)) ((gc.each k inside).rules 0 (lit< tt))) i

  order_fits : FitsCommand c
  order_fits =
      record {
        act = acts deed;
        mode = lit< tt;
        language = lit< tt;
        card = low;
        verifier = stored.pair;
        opened = record { s = stored.pair.s; x = above_fits d card.pair.x small some left };
        expected = stored.mark;
        next = nexts deed;
        edition = editions deed;
        length = short;
      }
    where
      acts : (e : Deed) → act_of e < 256
      acts releasing = lit< tt
      acts (writing true) = lit< tt
      acts (writing false) = lit< tt

      nexts : (e : Deed) → FitsMark (next_of e card.mark)
      nexts releasing = record { desk = lit< tt; transaction = lit< tt }
      nexts (writing b) = stored.mark

      editions : (e : Deed) → edition_of e card.edition < 65536
      editions releasing = lit< tt
      editions (writing true) = lit< tt
      editions (writing false) = stored.edition

  pub order_update : update c ≡ record { s = card.pair.s; x = above d card.pair.x }
  order_update = rw (above_some d card.pair.x small some left, and-false (eqb card.pair.s 0))

  laid : (e : Deed) → Fit cs card e text → Laid e card (length text)
  laid releasing f = ap length f
  laid (writing true) f = tt
  laid (writing false) f = f.1

  order_well : well_formed c ≡ true
  order_well = well_order d k card deed (length text) small some left (check 0) (check 1) (check 2) (laid deed fit)

  pub order_formed : formed V1 s.command ≡ true
  order_formed = formed_command c text V1 order_fits (lit< tt) order_well refl

  pub order_fields : command_in s ≡ c
  order_fields = fields_command c text V1 order_fits (lit< tt)

  pub order_payload : payload V1 s.command ≡ text
  order_payload = payload_command c text V1

  pub order_bytes : SentBytes s
  order_bytes = record { command = Bytes_command c text V1 order_fits tb; lent = Bytes_nil }

  near : too_far card.pair (update c) ≡ false
  near =
      ap (too_far card.pair) order_update
      ∙ or_none (le-ltb (stamp_t card.pair.s + most_ahead) (stamp_t card.pair.s) (omega arith))
      (le-ltb (stamp_t card.pair.x + most_ahead) (stamp_t (above d card.pair.x)) (omega (arith, above_next d card.pair.x small some left)))

  room : (e : Deed) → Fit cs card e text → length text ≤ cs.room
  room releasing f = let none : length text ≡ 0 = ap length f in omega arith
  room (writing true) f = f.0
  room (writing false) f = f.0

  edition_right : (e : Deed) → wrong_edition (view 0 card) (order_of d k card e (length text)) ≡ false
  edition_right releasing = refl
  edition_right (writing true) = refl
  edition_right (writing false) = rw (eq-eqb card.edition card.edition refl)

  unspent : (e : Deed) → Fit cs card e text → editions_spent (view 0 card) (order_of d k card e (length text)) ≡ false
  unspent releasing f = refl
  unspent (writing true) f = ne_eqb card.edition 65535 (λ q. omega (arith, q, f.1))
  unspent (writing false) f = refl

  no_reply : (e : Deed) → reply_short (view 0 card) (order_of d k card e (length text)) 0 ≡ false
  no_reply releasing = refl
  no_reply (writing true) = refl
  no_reply (writing false) = refl

  pub order_taken : number_on V1 cs s ≡ 0
  order_taken =
      taken_by cs s c order_fields order_formed (lt-ltb k (length cs.cards) inside) (same_pair_lem card.pair).0 near (fits_itself card.mark)
      (le-ltb cs.room (length text) (room deed fit))
      (edition_right deed) (unspent deed fit) (no_reply deed)
