-- What holds of the system at every moment. Assumes nothing.
use Prim.Native.Nat.{ℕ, zero, suc, ◌≤◌, ◌<◌}
use native.Mathlib.Omega.{arith}
use native.Mathlib.Nat.{not-suc-le-zero, le_of_suc-le-suc}
use mathlib.Core.Path.{◌≡◌, sym, ap, ◌∙◌, subst}
use mathlib.Core.Logic.{◌⊎◌, inl, inr}
use mathlib.Core.List.{List, [], ◌∷◌}
use mathlib.Core.Bool.{Bool, true, false}
use borrow.Author.Tests.{eqb-true}
use lib.ListN.{length, get_or}
use lib.Dec.{eqb}
use Rattle.formats.specs.Format.{V1}
use Rattle.lists.specs.Parts.{Bytes}
use Rattle.lists.proofs.Tests.{cases}
use Rattle.commands.specs.Command.{Language, writes, verifier, update}
use Rattle.commands.specs.Bytes.{payload}
use Rattle.image.specs.Image.{Card, Cards, GoodCards, text, encode, decode}
use Rattle.image_claims.proofs.Claims.{good_encodes}
use Rattle.store_model.specs.Claims.{SentBytes}
use Rattle.redo_log.specs.Log.{LogRecord, record_text, good_log, records}
use Rattle.redo_recovery_model.specs.Recovery.{record_in}
use Rattle.redo_recovery_model.specs.Claims.{rewrites, rewritten}
use Rattle.transactions.specs.System.{OneDesk, Order, Shown, Holding, unknown, held, free, command_in, prepares, writes_out, releases}
use Rattle.transactions.proofs.Records.{All, Ordered}
use Rattle.transactions.proofs.Serving.{at}

-- A card bears a mark of desk d.
abbrev pub bears : ℕ → Card → Bool
bears d card = eqb card.mark.desk d

-- Nothing of card k is due.
abbrev pub Clear : List LogRecord → ℕ → Type 0
Clear rs k = (l : Language) (i : ℕ) → rewrites rs l k i ≡ false

-- The first n lines are written out on a card.
abbrev pub Reached : List LogRecord → ℕ → ℕ → Card → Type 0
Reached rs k n card = (l : Language) → rewritten rs l k n (text l card) ≡ text l card

-- What is left to write from line n on leaves the texts that are due: a later line rewrites a text, or the first n are
-- written out there.
abbrev pub Later : List LogRecord → Language → ℕ → ℕ → Type 0
Later rs l k n = (i : ℕ) × (n ≤ i) × (rewrites rs l k i ≡ true)

abbrev pub Onward : List LogRecord → ℕ → ℕ → Card → Type 0
Onward rs k n card = (l : Language) → Later rs l k n ⊎ (rewritten rs l k n (text l card) ≡ text l card)

-- The texts of card k, by what is meant.
pub record Stands (d : ℕ) (rs : List LogRecord) (meant : Language → List ℕ) (k : ℕ) (card : Card) : Type 0 where
  pub plain : bears d card ≡ false → (l : Language) → text l card ≡ meant l
  pub marked : bears d card ≡ true → (l : Language) → rewritten rs l k (length rs) (text l card) ≡ meant l

abbrev pub card_for : Order → ℕ
card_for o = (command_in o.sent).card

abbrev pub relies : Order → ℕ
relies o = (verifier (command_in o.sent)).x

-- A write that is accepted on a card under the mark: its line is due, it writes what the line says, and what is left
-- then is what comes after it.
pub record Ready (rs : List LogRecord) (k : ℕ) (card : Card) (o : Order) : Type 0 where
  pub within : o.line < length rs
  pub place : (l : Language) → rewrites rs l k o.line ≡ writes l (command_in o.sent)
  pub words : payload V1 o.sent.command ≡ record_text (record_in rs o.line)
  pub done : (l : Language) → rewrites rs l k o.line ≡ false → Later rs l k (suc o.line) ⊎ (rewritten rs l k (suc o.line) (text l card) ≡ text l card)

-- What holds of an order for card k as long as it is not stale, by its kind.
pub data Fine (d : ℕ) (rs : List LogRecord) (k : ℕ) (card : Card) (o : Order) : Type 0 where
  preparing : prepares d (command_in o.sent) ≡ true → (card.pair.x ≤ relies o → (bears d card ≡ true) ⊎ Clear rs k) → Fine d rs k card o
  releasing : releases d (command_in o.sent) ≡ true → (card.pair.x ≤ relies o → bears d card ≡ true → Reached rs k (length rs) card) → Fine d rs k card o
  writing : writes_out d (command_in o.sent) ≡ true → (card.pair.x ≤ relies o → bears d card ≡ true → Ready rs k card o) → Fine d rs k card o

pub record Safe (d : ℕ) (rs : List LogRecord) (k : ℕ) (card : Card) (o : Order) : Type 0 where
  pub bytes : SentBytes o.sent
  pub below : relies o ≤ card.pair.x
  pub above : relies o < (update (command_in o.sent)).x
  pub fine : Fine d rs k card o

-- What an answer has shown of card k.
pub record Told (d : ℕ) (rs : List LogRecord) (k : ℕ) (card : Card) (v : Shown) : Type 0 where
  pub low : v.x ≤ card.pair.x
  pub reached : card.pair.x ≤ v.x → bears d card ≡ true → Onward rs k v.reach card

-- A card that is held bears the mark, every order for it is stale, and no answer that is not overtaken says that lines
-- are written out.
pub record Held (d : ℕ) (orders : List Order) (shown : List Shown) (k : ℕ) (card : Card) : Type 0 where
  pub bearing : bears d card ≡ true
  pub stale : All (λ (o : Order). card_for o ≡ k → relies o < card.pair.x) orders
  pub unwritten : All (λ (v : Shown). v.card ≡ k → card.pair.x ≤ v.x → v.reach ≡ 0) shown

abbrev pub Knows : ℕ → List LogRecord → List Order → List Shown → ℕ → Card → Holding → Type 0
Knows d rs orders shown k card unknown = Unit {0}
Knows d rs orders shown k card held = Held d orders shown k card
Knows d rs orders shown k card free = (bears d card ≡ false) ⊎ Clear rs k

pub record Kept (d : ℕ) (y : OneDesk) : Type 0 where
  pub some : d ≡ 0 → ⊥
  pub cs : Cards
  pub image_is : y.image ≡ encode V1 cs
  pub good : GoodCards V1 cs
  pub good_log_lem : good_log y.log ≡ true
  pub log_bytes : Bytes y.log
  pub ordered : Ordered (records y.log)
  pub texts : (k : ℕ) → Stands d (records y.log) (y.meant k) k (at cs k)
  pub sent : All (λ (o : Order). Safe d (records y.log) (card_for o) (at cs (card_for o)) o) y.orders
  pub told : All (λ (v : Shown). Told d (records y.log) v.card (at cs v.card) v) y.shown
  pub knows : (k : ℕ) → Knows d (records y.log) y.orders y.shown k (at cs k) (y.holds k)

pub decoded : (d : ℕ) (y : OneDesk) (k : Kept d y) → decode V1 y.image ≡ k.cs
decoded d y k = ap (decode V1) k.image_is ∙ (good_encodes V1 k.cs k.good).same

-- ---- a card whose x has risen: every order that relied on the x before is stale, and every answer that showed it is overtaken

module _ (d : ℕ) (rs : List LogRecord) (k : ℕ) (old new : Card) (up : old.pair.x < new.pair.x) where
  pub safe_raised : (o : Order) → Safe d rs k old o → Safe d rs k new o
  safe_raised o w = record { bytes = w.bytes; below = omega (arith, w.below, up); above = w.above; fine = go w.fine }
    where
      go : Fine d rs k old o → Fine d rs k new o
      go (preparing p f) = preparing p (λ live. absurd (omega (arith, live, w.below, up)))
      go (releasing p f) = releasing p (λ live. absurd (omega (arith, live, w.below, up)))
      go (writing p f) = writing p (λ live. absurd (omega (arith, live, w.below, up)))

  pub told_raised : (v : Shown) → Told d rs k old v → Told d rs k new v
  told_raised v w = record { low = omega (arith, w.low, up); reached = λ live. absurd (omega (arith, live, w.low, up)) }

-- ---- lists

module _ {A : Type 0} where
  pub all_at : (P : A → Type 0) (l : List A) (i : ℕ) (a : A) → i < length l → All P l → P (get_or l i a)
  all_at P [] i a h p = absurd (not-suc-le-zero h)
  all_at P (b ∷ l) zero a h p = p.0
  all_at P (b ∷ l) (suc i) a h p = all_at P l i a (le_of_suc-le-suc h) p.1

  -- What holds of each by its card, where one card has changed.
  pub all_moved : (key : A → ℕ) (P : ℕ → Card → A → Type 0) (cs new : Cards) (k : ℕ) (l : List A)
      → ((j : ℕ) → eqb k j ≡ false → at new j ≡ at cs j)
      → ((a : A) → P k (at cs k) a → P k (at new k) a)
      → All (λ (a : A). P (key a) (at cs (key a)) a) l → All (λ (a : A). P (key a) (at new (key a)) a) l
  all_moved key P cs new k [] away f h = tt
  all_moved key P cs new k (a ∷ l) away f h = (go (cases (eqb k (key a))), all_moved key P cs new k l away f h.1)
    where
      go : (eqb k (key a) ≡ true) ⊎ (eqb k (key a) ≡ false) → P (key a) (at new (key a)) a
      go (inl e) =
          let same = eqb-true k (key a) e in
          subst (λ (j : ℕ). P j (at new j) a) same (f a (subst (λ (j : ℕ). P j (at cs j) a) (sym same) h.0))
      go (inr e) = subst (λ (c : Card). P (key a) c a) (sym (away (key a) e)) h.0

pub stands_as : (d : ℕ) (rs : List LogRecord) (m n : Language → List ℕ) (k : ℕ) (card : Card) → ((l : Language) → m l ≡ n l) → Stands d rs m k card → Stands d rs n k card
stands_as d rs m n k card e s = record { plain = λ b l. s.plain b l ∙ e l; marked = λ b l. s.marked b l ∙ e l }
