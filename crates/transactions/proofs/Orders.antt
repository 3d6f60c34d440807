-- What holds at every moment is kept when the desk sends an order. Assumes nothing.
use Prim.Native.Nat.{ℕ, zero, suc, ◌≤◌, ◌<◌}
use native.Mathlib.Omega.{arith}
use mathlib.Core.Path.{◌≡◌, refl, sym, ap, ◌∙◌, subst}
use mathlib.Core.Logic.{◌⊎◌, inl, inr}
use mathlib.Core.List.{List, [], ◌∷◌}
use mathlib.Core.Bool.{Bool, true, false, cond, not, ◌&&◌, ◌||◌}
use borrow.Author.Tests.{eqb-true, eqb-false, ne_eqb, ltb-true, ltb-false, not-true, le-ltb}
use lib.ListN.{length, get_or}
use lib.Dec.{eqb, ltb}
use Rattle.formats.specs.Format.{V1}
use Rattle.lists.proofs.Every.{every_out}
use Rattle.lists.proofs.Tests.{cases, never_both, and_left, and_right, or_cases}
use Rattle.commands.specs.declared.Command.{Command}
use Rattle.commands.specs.Command.{Language, original, translation, writes, verifier, update}
use Rattle.commands.specs.Bytes.{fields_of, payload}
use Rattle.image.specs.Image.{Card, text}
use Rattle.store_model.specs.Words.{Sent}
use Rattle.store_model.specs.Claims.{SentBytes}
use Rattle.redo_log.specs.Log.{LogRecord, record_card, record_side, record_text, records}
use Rattle.redo_recovery_model.specs.Recovery.{record_in, due}
use Rattle.redo_recovery_model.specs.Claims.{side_is, rewrites, rewritten}
use Rattle.transactions.specs.System.{
  OneDesk,
  Order,
  Shown,
  unknown,
  order,
  no_shown,
  command_in,
  prepares,
  writes_out,
  releases,
  due_for,
  written_out,
  same_bytes,
  writes_line,
  opens_above,
  orderly,
  lawful,
  noting,
  after_step,
}
use Rattle.transactions.proofs.Records.{due_past}
use Rattle.transactions.proofs.Due.{placed, rewritten_none}
use Rattle.transactions.proofs.Serving.{at}
use Rattle.transactions.proofs.Kept.{bears, Clear, Reached, Later, Onward, relies, Ready, Fine, preparing, releasing, writing, Told, Knows, Kept, all_at}
use Rattle.transactions.proofs.Requests.{knows_order}

pub same_bytes_lem : (a b : List ℕ) → same_bytes a b ≡ true → a ≡ b
same_bytes_lem [] [] e = refl
same_bytes_lem [] (y ∷ b) e = absurd (never_both refl (sym e))
same_bytes_lem (x ∷ a) [] e = absurd (never_both refl (sym e))
same_bytes_lem (x ∷ a) (y ∷ b) e = rw (eqb-true x y (and_left (eqb x y) (same_bytes a b) e), same_bytes_lem a b (and_right (eqb x y) (same_bytes a b) e))

and_first : (a b c : Bool) → (a && b) ≡ false → (a && (b && c)) ≡ false
and_first true true c e = absurd (never_both refl e)
and_first true false c e = refl
and_first false b c e = refl

-- Lines that are past, or not due for the card, rewrite nothing of it.
module _ (rs : List LogRecord) (k : ℕ) where
  pub past_none : (l : Language) (i : ℕ) → length rs ≤ i → rewrites rs l k i ≡ false
  past_none l i h = ap (λ (b : Bool). b && (eqb (record_card (record_in rs i)) k && side_is l (record_side (record_in rs i)))) (due_past rs i h)

  pub out_none : (n m : ℕ) → written_out rs k n m ≡ true → (l : Language) (i : ℕ) → n ≤ i → i < m → rewrites rs l k i ≡ false
  out_none n m e l i a b = go (or_cases (ltb i n) (not (due_for rs k i)) (every_out (λ j. ltb j n || not (due_for rs k j)) m e i b))
    where
      go : (ltb i n ≡ true) ⊎ (not (due_for rs k i) ≡ true) → rewrites rs l k i ≡ false
      go (inl q) = absurd (never_both q (le-ltb i n a))
      go (inr q) = and_first (due rs i) (eqb (record_card (record_in rs i)) k) (side_is l (record_side (record_in rs i))) (not-true (due_for rs k i) q)

  pub out_clear : written_out rs k 0 (length rs) ≡ true → Clear rs k
  out_clear e l i = go (cases (ltb i (length rs)))
    where
      go : (ltb i (length rs) ≡ true) ⊎ (ltb i (length rs) ≡ false) → rewrites rs l k i ≡ false
      go (inl a) = out_none 0 (length rs) e l i (omega arith) (ltb-true i (length rs) a)
      go (inr a) = past_none l i (ltb-false i (length rs) a)

  -- A line that rewrites is within the log.
  inside : (l : Language) (i : ℕ) → rewrites rs l k i ≡ true → i < length rs
  inside l i e = go (cases (ltb i (length rs)))
    where
      go : (ltb i (length rs) ≡ true) ⊎ (ltb i (length rs) ≡ false) → i < length rs
      go (inl a) = ltb-true i (length rs) a
      go (inr a) = absurd (never_both e (past_none l i (ltb-false i (length rs) a)))

  -- What is written out up to n is written out to the end, where nothing is due from n on.
  pub out_all : (n : ℕ) (card : Card) → written_out rs k n (length rs) ≡ true → Onward rs k n card → Reached rs k (length rs) card
  out_all n card e r l = pick (r l)
    where
      go : (ltb n (length rs) ≡ true) ⊎ (ltb n (length rs) ≡ false) → rewritten rs l k n (text l card) ≡ text l card → rewritten rs l k (length rs) (text l card) ≡ text l card
      go (inl a) q = rewritten_none rs l k n (length rs) (text l card) (omega (arith, ltb-true n (length rs) a)) (λ i p w. out_none n (length rs) e l i p w) ∙ q
      go (inr a) q = sym (rewritten_none rs l k (length rs) n (text l card) (ltb-false n (length rs) a) (λ i p w. past_none l i p)) ∙ q

      pick : Later rs l k n ⊎ (rewritten rs l k n (text l card) ≡ text l card) → rewritten rs l k (length rs) (text l card) ≡ text l card
      pick (inl later) = absurd (never_both later.2 (out_none n (length rs) e l later.0 later.1 (inside l later.0 later.2)))
      pick (inr q) = go (cases (ltb n (length rs))) q

  -- Some line of a stretch rewrites a text, or none does.
  stretch : (l : Language) (a b : ℕ) → ((i : ℕ) × (a ≤ i) × (i < b) × (rewrites rs l k i ≡ true)) ⊎ ((i : ℕ) → a ≤ i → i < b → rewrites rs l k i ≡ false)
  stretch l a zero = inr (λ i p q. absurd (omega arith))
  stretch l a (suc b) = go (stretch l a b) (cases (rewrites rs l k b)) (cases (ltb b a))
    where
      go : ((i : ℕ) × (a ≤ i) × (i < b) × (rewrites rs l k i ≡ true)) ⊎ ((i : ℕ) → a ≤ i → i < b → rewrites rs l k i ≡ false)
          → (rewrites rs l k b ≡ true) ⊎ (rewrites rs l k b ≡ false)
          → (ltb b a ≡ true) ⊎ (ltb b a ≡ false)
          → ((i : ℕ) × (a ≤ i) × (i < suc b) × (rewrites rs l k i ≡ true)) ⊎ ((i : ℕ) → a ≤ i → i < suc b → rewrites rs l k i ≡ false)
      go (inl f) w v = inl (f.0, f.1, omega (arith, f.2), f.3)
      go (inr f) (inl w) (inl v) = inr (λ i p q. absurd (omega (arith, ltb-true b a v, p, q)))
      go (inr f) (inl w) (inr v) = inl (b, ltb-false b a v, omega arith, w)
      go (inr f) (inr w) v = inr (λ i p q. at_end_lem i p q (placed i b))
        where
          at_end_lem : (i : ℕ) → a ≤ i → i < suc b → (i < b) ⊎ (i ≡ b) ⊎ (b < i) → rewrites rs l k i ≡ false
          at_end_lem i p q (inl x) = f i p x
          at_end_lem i p q (inr (inl x)) = subst (λ (j : ℕ). rewrites rs l k j ≡ false) (sym x) w
          at_end_lem i p q (inr (inr x)) = absurd (omega arith)

  -- What is left behind line m, where nothing is due between n and m and line m does not rewrite this text.
  pub out_next : (n m : ℕ) (card : Card) → written_out rs k n m ≡ true → Onward rs k n card → (l : Language) → rewrites rs l k m ≡ false
      → Later rs l k (suc m) ⊎ (rewritten rs l k (suc m) (text l card) ≡ text l card)
  out_next n m card e r l miss = pick (r l)
    where
      none : (i : ℕ) → n ≤ i → i < suc m → rewrites rs l k i ≡ false
      none i p q = go (placed i m)
        where
          go : (i < m) ⊎ (i ≡ m) ⊎ (m < i) → rewrites rs l k i ≡ false
          go (inl a) = out_none n m e l i p a
          go (inr (inl a)) = subst (λ (j : ℕ). rewrites rs l k j ≡ false) (sym a) miss
          go (inr (inr a)) = absurd (omega arith)

      behind : rewritten rs l k n (text l card) ≡ text l card → ((i : ℕ) × (suc m ≤ i) × (i < n) × (rewrites rs l k i ≡ true)) ⊎ ((i : ℕ) → suc m ≤ i → i < n → rewrites rs l k i ≡ false)
          → suc m ≤ n → Later rs l k (suc m) ⊎ (rewritten rs l k (suc m) (text l card) ≡ text l card)
      behind q (inl f) h = inl (f.0, f.1, f.3)
      behind q (inr f) h = inr (sym (rewritten_none rs l k (suc m) n (text l card) h f) ∙ q)

      by : rewritten rs l k n (text l card) ≡ text l card → (ltb (suc m) n ≡ true) ⊎ (ltb (suc m) n ≡ false) → Later rs l k (suc m) ⊎ (rewritten rs l k (suc m) (text l card) ≡ text l card)
      by q (inl a) = behind q (stretch l (suc m) n) (omega (arith, ltb-true (suc m) n a))
      by q (inr a) = inr (rewritten_none rs l k n (suc m) (text l card) (ltb-false (suc m) n a) none ∙ q)

      pick : Later rs l k n ⊎ (rewritten rs l k n (text l card) ≡ text l card) → Later rs l k (suc m) ⊎ (rewritten rs l k (suc m) (text l card) ≡ text l card)
      pick (inr q) = by q (cases (ltb (suc m) n))
      pick (inl later) = over (cases (ltb later.0 (suc m)))
        where
          over : (ltb later.0 (suc m) ≡ true) ⊎ (ltb later.0 (suc m) ≡ false) → Later rs l k (suc m) ⊎ (rewritten rs l k (suc m) (text l card) ≡ text l card)
          over (inl a) = absurd (never_both later.2 (none later.0 later.1 (ltb-true later.0 (suc m) a)))
          over (inr a) = inl (later.0, ltb-false later.0 (suc m) a, later.2)

-- A command that writes what a record says writes the record's side, and no other text.
side_written : (s : Sent) (r : LogRecord) → eqb (command_in s).act (cond (eqb (record_side r) 1) 3 4) ≡ true → (l : Language) → side_is l (record_side r) ≡ writes l (command_in s)
unfolding fields_of
side_written s r e l = go (eqb (record_side r) 1) refl l
  where
    act : (command_in s).act ≡ cond (eqb (record_side r) 1) 3 4
    act = eqb-true (command_in s).act (cond (eqb (record_side r) 1) 3 4) e

    go : (t : Bool) → eqb (record_side r) 1 ≡ t → (l : Language) → side_is l (record_side r) ≡ writes l (command_in s)
    go true q original = rw (act, q)
    go true q (translation zero) = rw (act, q)
    go true q (translation (suc n)) = rw (act, q)
    go false q original = rw (act, q)
    go false q (translation zero) = rw (act, q)
    go false q (translation (suc n)) = rw (act, q) (sym (ne_eqb 0 (suc n) (λ z. omega arith)))

module _ (d : ℕ) (y : OneDesk) (k : Kept d y) (s : Sent) (line from : ℕ) (b : SentBytes s) (h : lawful d y (order s line from) ≡ true) where
  abbrev rs : List LogRecord
  rs = records y.log

  abbrev c : Command
  c = command_in s

  abbrev o : Order
  o = record { sent = s; line = line }

  abbrev v : Shown
  v = get_or y.shown from no_shown

  abbrev card : Card
  card = at k.cs c.card

  shown_there : (ltb from (length y.shown) && opens_above c v) ≡ true
  shown_there = and_left (ltb from (length y.shown) && opens_above c v) (orderly d rs s line v.reach) h

  logs_all : opens_above c v ≡ true
  logs_all = and_right (ltb from (length y.shown)) (opens_above c v) shown_there

  same_card : v.card ≡ c.card
  same_card = eqb-true v.card c.card
      (and_left (eqb v.card c.card) (eqb (verifier c).x v.x)
      (and_left (eqb v.card c.card && eqb (verifier c).x v.x) (ltb v.x (update c).x) logs_all))

  same_x : (verifier c).x ≡ v.x
  same_x = eqb-true (verifier c).x v.x
      (and_right (eqb v.card c.card) (eqb (verifier c).x v.x)
      (and_left (eqb v.card c.card && eqb (verifier c).x v.x) (ltb v.x (update c).x) logs_all))

  higher : v.x < (update c).x
  higher = ltb-true v.x (update c).x (and_right (eqb v.card c.card && eqb (verifier c).x v.x) (ltb v.x (update c).x) logs_all)

  told_here : Told d rs c.card card v
  told_here =
      subst (λ (j : ℕ). Told d rs j (at k.cs j) v) same_card
      (all_at (λ (w : Shown). Told d rs w.card (at k.cs w.card) w) y.shown from no_shown
      (ltb-true from (length y.shown) (and_left (ltb from (length y.shown)) (opens_above c v) shown_there)) k.told)

  reached : card.pair.x ≤ relies o → bears d card ≡ true → Onward rs c.card v.reach card
  reached live w = told_here.reached (omega (arith, live, same_x)) w

  abbrev pt : Bool
  pt = prepares d c && written_out rs c.card 0 (length rs)

  abbrev rt : Bool
  rt = releases d c && written_out rs c.card v.reach (length rs)

  abbrev lt : Bool
  lt = due_for rs c.card line && written_out rs c.card v.reach line && writes_line s (record_in rs line)

  writes_ready : lt ≡ true → card.pair.x ≤ relies o → bears d card ≡ true → Ready rs c.card card o
  writes_ready e live w =
      let first = and_left (due_for rs c.card line && written_out rs c.card v.reach line) (writes_line s (record_in rs line)) e in
      let says = and_right (due_for rs c.card line && written_out rs c.card v.reach line) (writes_line s (record_in rs line)) e in
      let out = and_right (due_for rs c.card line) (written_out rs c.card v.reach line) first in
      let dues = and_left (due_for rs c.card line) (written_out rs c.card v.reach line) first in
      let is_due : due rs line ≡ true = and_left (due rs line) (eqb (record_card (record_in rs line)) c.card) dues in
      let own : eqb (record_card (record_in rs line)) c.card ≡ true = and_right (due rs line) (eqb (record_card (record_in rs line)) c.card) dues in
      let act = and_left (eqb c.act (cond (eqb (record_side (record_in rs line)) 1) 3 4)) (same_bytes (payload V1 s.command) (record_text (record_in rs line))) says in
      let words = and_right (eqb c.act (cond (eqb (record_side (record_in rs line)) 1) 3 4)) (same_bytes (payload V1 s.command) (record_text (record_in rs line))) says in
      record {
        within = stands_in is_due (cases (ltb line (length rs)));
        place = λ l. rw (is_due, own) (side_written s (record_in rs line) act l);
        words = same_bytes_lem (payload V1 s.command) (record_text (record_in rs line)) words;
        done = out_next rs c.card v.reach line card out (reached live w);
      }
    where
      stands_in : due rs line ≡ true → (ltb line (length rs) ≡ true) ⊎ (ltb line (length rs) ≡ false) → line < length rs
      stands_in q (inl a) = ltb-true line (length rs) a
      stands_in q (inr a) = absurd (never_both q (due_past rs line (ltb-false line (length rs) a)))

  fine : Fine d rs c.card card o
  fine = pick (or_cases (pt || rt) (writes_out d c && lt) (and_right (ltb from (length y.shown) && opens_above c v) (orderly d rs s line v.reach) h))
    where
      first : (pt ≡ true) ⊎ (rt ≡ true) → Fine d rs c.card card o
      first (inl e) = preparing (and_left (prepares d c) (written_out rs c.card 0 (length rs)) e)
          (λ live. inr (out_clear rs c.card (and_right (prepares d c) (written_out rs c.card 0 (length rs)) e)))
      first (inr e) =
          releasing (and_left (releases d c) (written_out rs c.card v.reach (length rs)) e)
          (λ live w. out_all rs c.card v.reach card (and_right (releases d c) (written_out rs c.card v.reach (length rs)) e) (reached live w))

      pick : ((pt || rt) ≡ true) ⊎ ((writes_out d c && lt) ≡ true) → Fine d rs c.card card o
      pick (inl e) = first (or_cases pt rt e)
      pick (inr e) = writing (and_left (writes_out d c) lt e) (writes_ready (and_right (writes_out d c) lt e))

  knows_then : (j : ℕ) → Knows d rs (o ∷ y.orders) y.shown j (at k.cs j) (noting c.card unknown y.holds j)
  knows_then j = go (cases (eqb j c.card))
    where
      go : (eqb j c.card ≡ true) ⊎ (eqb j c.card ≡ false) → Knows d rs (o ∷ y.orders) y.shown j (at k.cs j) (noting c.card unknown y.holds j)
      go (inl e) = subst (λ (t : Bool). Knows d rs (o ∷ y.orders) y.shown j (at k.cs j) (cond t unknown (y.holds j))) (sym e) tt
      go (inr e) =
          subst (λ (t : Bool). Knows d rs (o ∷ y.orders) y.shown j (at k.cs j) (cond t unknown (y.holds j))) (sym e)
          (knows_order d rs y.orders y.shown o j (at k.cs j) (y.holds j) (λ q. eqb-false j c.card e (sym q)) (k.knows j))

  pub kept_order : Kept d (after_step d y (order s line from))
  unfolding after_step
  kept_order =
      record {
        some = k.some;
        cs = k.cs;
        image_is = k.image_is;
        good = k.good;
        good_log_lem = k.good_log_lem;
        log_bytes = k.log_bytes;
        ordered = k.ordered;
        texts = k.texts;
        sent = (
          record { bytes = b; below = omega (arith, same_x, told_here.low); above = omega (arith, same_x, higher); fine = fine },
          k.sent,
        );
        told = k.told;
        knows = knows_then;
      }
