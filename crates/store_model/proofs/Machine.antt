-- A store as cards, without bytes: the same table and the same effects, and what its cards have to do with the events before.
-- Assumes nothing.
use Prim.Native.Nat.{ℕ, zero, suc, ◌+◌, ◌≤◌, ◌<◌, max}
use native.Mathlib.Omega.{arith}
use mathlib.Core.Path.{◌≡◌, refl, sym, ap, subst, ◌∙◌}
use mathlib.Core.Logic.{◌⊎◌, inl, inr}
use mathlib.Core.List.{List, [], ◌∷◌}
use mathlib.Core.Bool.{Bool, true, false, cond, ◌&&◌, or_comm}
use borrow.Author.Tests.{eqb-true, eqb-false, eq-eqb, ne_eqb, le-ltb, ltb-true, not-true, not-false}
use lib.Dec.{eqb, ltb, eqb-suc-zero}
use lib.ListN.{length, get_or, set, length-set, length-replicate}
use lib.Seq.{get_or-set_same, get_or-set_other}
use Rattle.lists.proofs.Tests.{cases, never_both, or_right, not_in, ltb_max}
use Rattle.commands.specs.Command.{Language, original, translation, writes_translation, writes, update}
use Rattle.commands.specs.Bytes.{fields_of, formed, payload}
use Rattle.stamps.specs.Stamp.{no_mark}
use Rattle.guard.specs.Judge.{behind, judge_rows, raise, judged}
use Rattle.guard.specs.Replies.{replied}
use Rattle.lists.specs.Table.{first, settled, applies}
use Rattle.stamps.specs.declared.Pair.{Pair}
use Rattle.guard.proofs.Judge.{Accepted, accepted as passes}
use Rattle.commands.proofs.Rules.{CommandRules}
use Rattle.commands.proofs.Languages.{writes_act, one_write}
use Rattle.lists.proofs.Table.{unapplied, none_applies}
use Rattle.formats.specs.Format.{Format, translations}
use Rattle.commands.proofs.CommandBytes.{language_within}
use Rattle.image.specs.Image.{Translation, Card, Cards, no_translation, translation_of, text, no_card}
use Rattle.image.proofs.Empty.{no_translation_lem}
use Rattle.store_model.specs.Serve.{card_of, entry_of, request_rows, stepped, cards_after, answer_by, reply_by}
use Rattle.store_model.specs.Words.{Sent, Event, received, command_of, accepted, outdated, last_text}
use Rattle.lists.specs.Search.{any, last}
use Rattle.store_model.proofs.Formed.{formed_well, formed_rules}
use Rattle.store_model.proofs.Stepped.{count_step, text_step, from_step}

-- ---- one request

abbrev pub number_on : Format → Cards → Sent → ℕ
number_on f cs s = first (request_rows f cs s.command (length s.lent))

-- The event and the cards, by the number.
abbrev pub event_by : Format → ℕ → Cards → Sent → Event
event_by f number cs s =
    record { sent = s; read = received f s; answer = answer_by f number cs s.command; reply = reply_by f number cs s.command s.lent }

abbrev pub cards_by : Format → ℕ → Cards → Sent → Cards
cards_by f number cs s = settled number (cards_after f cs s.command) cs

-- ---- requests, latest first

unfoldable pub cards_from : Format → Cards → List Sent → Cards
cards_from f start [] = start
cards_from f start (s ∷ earlier) = cards_by f (number_on f (cards_from f start earlier) s) (cards_from f start earlier) s

unfoldable pub events_from : Format → Cards → List Sent → List Event
events_from f start [] = []
events_from f start (s ∷ earlier) =
    event_by f (number_on f (cards_from f start earlier) s) (cards_from f start earlier) s ∷ events_from f start earlier

-- ---- what is known of an accepted request

pub record Passed (f : Format) (cs : Cards) (s : Sent) : Type 0 where
  pub well_formed : formed f s.command ≡ true
  pub exists : ltb (fields_of f s.command).card (length cs.cards) ≡ true
  pub judged : Accepted (entry_of f cs (fields_of f s.command)) (fields_of f s.command) cs.room (length s.lent)

pub passed : (f : Format) (cs : Cards) (s : Sent) → number_on f cs s ≡ 0 → Passed f cs s
unfolding judged
passed f cs s e =
    record {
      well_formed = is_formed;
      exists = there;
      judged = passes (entry_of f cs (fields_of f s.command)) (fields_of f s.command) cs.room (length s.lent) (sym same ∙ e);
    }
  where
    unapplied_row : (n : ℕ) → applies n (request_rows f cs s.command (length s.lent)) ≡ false
    unapplied_row =
        none_applies (request_rows f cs s.command (length s.lent)) ((unapplied (request_rows f cs s.command (length s.lent)) tt).0 e)

    is_formed : formed f s.command ≡ true
    is_formed = not-false (formed f s.command) (unapplied_row 1)

    there : ltb (fields_of f s.command).card (length cs.cards) ≡ true
    there = not-false (ltb (fields_of f s.command).card (length cs.cards)) (unapplied_row 2)

    -- Past rows 1 and 2 the entry's own table decides.
    same : number_on f cs s ≡ first (judge_rows (entry_of f cs (fields_of f s.command)) (fields_of f s.command) cs.room (length s.lent))
    same = rw (is_formed, there, formed_well f s.command is_formed)

-- ---- a card and the events before

-- An accepted command for card k whose pair has, on one side, a stamp above n.
abbrev pub above : (Pair → ℕ) → ℕ → ℕ → Event → Bool
above side k n e = accepted k e && ltb n (side (update (command_of e)))

-- A stored card k, by the events before: which stamps its own are above, its mark, its texts, and which of its translations are behind. No maximum
-- and no count of writes is needed.
pub record Tied (f : Format) (before : List Event) (k : ℕ) (card : Card) : Type 0 where
  pub s : (n : ℕ) → ltb n card.pair.s ≡ any (above (λ (p : Pair). p.s) k n) before
  pub x : (n : ℕ) → ltb n card.pair.x ≡ any (above (λ (p : Pair). p.x) k n) before
  pub mark : card.mark ≡ last (accepted k) (λ (e : Event). (command_of e).next) no_mark before
  pub count : length card.translated ≡ translations f
  pub texts : (l : Language) → text l card ≡ last_text l before k
  pub behindness : (t : ℕ) → behind card.edition (translation_of t card).from ≡ outdated t before k
  pub source : (t : ℕ) → (translation_of t card).from ≤ card.edition

pub tied_fresh : (f : Format) (k : ℕ) → Tied f [] k (no_card f)
tied_fresh f k =
    record {
      s = λ n. le-ltb n 0 (omega arith);
      x = λ n. le-ltb n 0 (omega arith);
      mark = refl;
      count = length-replicate (translations f) no_translation;
      texts = no_text;
      behindness = λ t. rw (no_translation_lem f t);
      source = λ t. rw (no_translation_lem f t) (omega arith);
    }
  where
    no_text : (l : Language) → text l (no_card f) ≡ []
    no_text original = refl
    no_text (translation t) = ap (λ (u : Translation). u.text) (no_translation_lem f t)

-- An event that is no accepted command for card k leaves the card tied as it was.
pub tied_other : (f : Format) (k : ℕ) (e : Event) (before : List Event) (card : Card) → accepted k e ≡ false → Tied f before k card → Tied f (e ∷ before) k card
tied_other f k e before card h t =
    record {
      s = λ n. rw h (t.s n);
      x = λ n. rw h (t.x n);
      mark = rw h t.mark;
      count = t.count;
      texts = λ l. rw h (t.texts l);
      behindness = λ l. rw h (rw h (t.behindness l));
      source = t.source;
    }

-- An accepted command for card k: the card that it steps to is tied to the events with it.
module _ (f : Format) (k : ℕ) (e : Event) (before : List Event) (card : Card) (h : accepted k e ≡ true) (r : CommandRules (command_of e))
    (within : (command_of e).language < translations f)
    (named : writes_translation (command_of e) ≡ true → (command_of e).edition ≡ card.edition) (t : Tied f before k card) where
  abbrev now : Card
  now = stepped card (command_of e) e.read.payload

  -- The larger of an old stamp and the command's is above n exactly when one of the two is.
  raised : (side : Pair → ℕ) (old n : ℕ) → ltb n old ≡ any (above side k n) before
      → ltb n (max old (side (update (command_of e)))) ≡ any (above side k n) (e ∷ before)
  raised side old n tie =
      ltb_max n old (side (update (command_of e))) ∙ or_comm (ltb n old) (ltb n (side (update (command_of e)))) ∙ rw (h, tie)

  known : (command_of e).language < length card.translated
  known = subst (λ (n : ℕ). (command_of e).language < n) (sym t.count) within

  step_mark : now.mark ≡ last (accepted k) (λ (d : Event). (command_of d).next) no_mark (e ∷ before)
  unfolding stepped raise
  step_mark = rw h

  step_texts : (l : Language) → text l now ≡ last_text l (e ∷ before) k
  step_texts l = text_step card (command_of e) e.read.payload known l ∙ rw (h, t.texts l)

  -- The edition and the edition translated from, after a write of the original, of that translation, and of neither.
  step_editions : (l : ℕ) → (behind now.edition (translation_of l now).from ≡ outdated l (e ∷ before) k) × ((translation_of l now).from ≤ now.edition)
  unfolding stepped raise
  step_editions l =
      rw (from_step card (command_of e) e.read.payload known l)
      (go (cases (writes original (command_of e))) (cases (writes (translation l) (command_of e))))
    where
      old : ℕ
      old = (translation_of l card).from

      after : ℕ
      after = cond (writes (translation l) (command_of e)) (command_of e).edition old

      go : (writes original (command_of e) ≡ true) ⊎ (writes original (command_of e) ≡ false)
          → (writes (translation l) (command_of e) ≡ true) ⊎ (writes (translation l) (command_of e) ≡ false)
          → (behind now.edition after ≡ outdated l (e ∷ before) k) × (after ≤ now.edition)
      go (inl p) (inl q) = absurd (never_both q (one_write (command_of e) p l))
      go (inl p) (inr q) =
          let source = t.source l in
          let newer : eqb old (card.edition + 1) ≡ false = ne_eqb old (card.edition + 1) (λ z. omega arith) in
          (rw (p, q, h) (or_right (eqb old 0) (not_in newer)), rw (p, q) (omega arith))
      go (inr p) (inl q) =
          let writing = writes_act (command_of e) l q in
          let same = named writing in
          let some : eqb (command_of e).edition 0 ≡ false = not-true (eqb (command_of e).edition 0) (sym r.edition ∙ writing) in
          (rw (p, q, h) (rw (eq-eqb (command_of e).edition card.edition same, some, h, q)), rw (p, q) (omega arith))
      go (inr p) (inr q) = (rw (p, q, h) (rw (h, q) (t.behindness l)), rw (p, q) (t.source l))

  pub tied_step : Tied f (e ∷ before) k now
  unfolding stepped raise
  tied_step =
      record {
        s = λ n. raised (λ (p : Pair). p.s) card.pair.s n (t.s n);
        x = λ n. raised (λ (p : Pair). p.x) card.pair.x n (t.x n);
        mark = step_mark;
        count = count_step card (command_of e) e.read.payload ∙ t.count;
        texts = step_texts;
        behindness = λ l. (step_editions l).0;
        source = λ l. (step_editions l).1;
      }

-- ---- all cards and the events before

abbrev pub Ties : Format → Cards → List Event → Type 0
Ties f cs before = (k : ℕ) → k < length cs.cards → Tied f before k (get_or cs.cards k (no_card f))

-- A refused request is no accepted command; an accepted one is for its own card.
pub refused_other : (f : Format) (j : ℕ) (cs : Cards) (s : Sent) (k : ℕ) → accepted k (event_by f (suc j) cs s) ≡ false
unfolding replied
refused_other f j cs s k = rw (eqb-suc-zero j)

pub accepted_at : (f : Format) (cs : Cards) (s : Sent) (k : ℕ) → accepted k (event_by f 0 cs s) ≡ eqb (fields_of f s.command).card k
unfolding replied
accepted_at f cs s k = refl

pub ties_more : (f : Format) (cs : Cards) (s : Sent) (before : List Event) → Ties f cs before → (number : ℕ) → number_on f cs s ≡ number
    → Ties f (cards_by f number cs s) (event_by f number cs s ∷ before)
ties_more f cs s before t (suc j) e k b = tied_other f k (event_by f (suc j) cs s) before (get_or cs.cards k (no_card f)) (refused_other f j cs s k) (t k b)
ties_more f cs s before t zero e k b = go (cases (eqb (fields_of f s.command).card k))
  where
    place : ℕ
    place = (fields_of f s.command).card

    stored : Card
    stored = get_or cs.cards place (no_card f)

    after : Card
    after = stepped stored (fields_of f s.command) (payload f s.command)

    known : Passed f cs s
    known = passed f cs s e

    within : k < length cs.cards
    within = subst (λ (n : ℕ). k < n) (length-set cs.cards place after) b

    there : place < length cs.cards
    there = ltb-true place (length cs.cards) known.exists

    go : (eqb place k ≡ true) ⊎ (eqb place k ≡ false) → Tied f (event_by f 0 cs s ∷ before) k (get_or (set cs.cards place after) k (no_card f))
    go (inl h) =
        let here : place ≡ k = eqb-true place k h in
        subst (λ (j : ℕ). Tied f (event_by f 0 cs s ∷ before) j (get_or (set cs.cards place after) j (no_card f))) here
        (subst (Tied f (event_by f 0 cs s ∷ before) place) (sym (get_or-set_same cs.cards place after (no_card f) there))
        (tied_step f place (event_by f 0 cs s) before stored
        (accepted_at f cs s place ∙ eq-eqb place place refl)
        (formed_rules f s.command known.well_formed)
        (language_within f s.command known.well_formed)
        known.judged.named
        (t place there)))
    go (inr h) =
        subst (Tied f (event_by f 0 cs s ∷ before) k)
        (sym (get_or-set_other cs.cards place k after (no_card f) (λ z. eqb-false place k h (sym z))))
        (tied_other f k (event_by f 0 cs s) before (get_or cs.cards k (no_card f)) (accepted_at f cs s k ∙ h) (t k within))

-- N stays.
pub count_kept : (f : Format) (number : ℕ) (cs : Cards) (s : Sent) → length (cards_by f number cs s).cards ≡ length cs.cards
count_kept f zero cs s =
    length-set cs.cards (fields_of f s.command).card
    (stepped (card_of f cs (fields_of f s.command)) (fields_of f s.command) (payload f s.command))
count_kept f (suc j) cs s = refl
