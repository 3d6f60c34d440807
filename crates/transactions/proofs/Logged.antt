-- What holds at every moment is kept by an append to the log, cut or not. Assumes nothing.
use Prim.Native.Nat.{ℕ, zero, suc, ◌≤◌, ◌<◌}
use native.Mathlib.Omega.{arith}
use Prim.Native.Nat.{suc-le-suc, zero-le}
use mathlib.Core.Path.{◌≡◌, refl, sym, ap, ◌∙◌, subst}
use mathlib.Core.Logic.{◌⊎◌, inl, inr}
use mathlib.Core.List.{List, [], ◌∷◌}
use mathlib.Core.Bool.{Bool, true, false, cond, not, ◌&&◌, ◌||◌}
use borrow.Author.Tests.{eqb-true, ne_eqb, not-true}
use lib.ListN.{length, get_or}
use lib.Dec.{eqb}
use Rattle.lists.specs.Parts.{Bytes, every}
use Rattle.lists.specs.Search.{any}
use Rattle.lists.proofs.Every.{every_out}
use Rattle.lists.proofs.Tests.{cases, never_both, and_left, and_right, or_cases, from_T}
use Rattle.commands.specs.Command.{Language}
use Rattle.image.specs.Image.{Card, text}
use Rattle.redo_log.specs.Log.{LogRecord, commit_kind, synced_kind, record_card, record_text, record_transaction, record_count, record_at, last_begun, opened, shaped, follows, good_log, records}
use Rattle.redo_log.specs.Append.{append_number, appended, accepts}
use Rattle.redo_log.proofs.Records.{last_ext, opened_ext}
use Rattle.redo_log.proofs.ReadBack.{length_records, record_of}
use Rattle.redo_log.proofs.Steps.{left_23}
use Rattle.redo_log_claims.specs.Claims.{append_numbers}
use Rattle.redo_log_claims.proofs.Claims.{appends, log_listed}
use Rattle.redo_recovery_model.specs.Recovery.{record_in, transaction_in, commits_to}
use Rattle.redo_recovery_model.specs.Claims.{rewrites, rewritten}
use Rattle.transactions.specs.System.{
  OneDesk,
  Order,
  Shown,
  Holding,
  unknown,
  held,
  free,
  append,
  no_order,
  no_shown,
  written_out,
  update_in,
  with_updates,
  is_held,
  is_free,
  lawful,
  meant_logged,
  after_step,
}
use Rattle.transactions.proofs.Records.{All, more, length_more, in_old, Ordered, Followed, followed, ordered_more}
use Rattle.transactions.proofs.Due.{same_apart, no_more, rewritten_same, text_same, text_commit, same_commit, applied_away}
use Rattle.transactions.proofs.Serving.{at}
use Rattle.transactions.proofs.Kept.{bears, Clear, Reached, Later, Onward, Stands, card_for, relies, Ready, Fine, preparing, releasing, writing, Safe, Told, Held, Knows, Kept, all_at}
use Rattle.transactions.proofs.Requests.{onward_none}
use Rattle.transactions.proofs.Orders.{out_clear}

module _ {A : Type 0} where
  pub all_by : (P : A → Type 0) (l : List A) (a : A) → ((i : ℕ) → i < length l → P (get_or l i a)) → All P l
  all_by P [] a h = tt
  all_by P (b ∷ l) a h = (h 0 (suc-le-suc zero-le), all_by P l a (λ i q. h (suc i) (suc-le-suc q)))

pub held_of : (d : ℕ) (rs : List LogRecord) (orders : List Order) (shown : List Shown) (k : ℕ) (card : Card) (g : Holding)
    → is_held g ≡ true → Knows d rs orders shown k card g → Held d orders shown k card
held_of d rs orders shown k card unknown e w = absurd (never_both refl (sym e))
held_of d rs orders shown k card held e w = w
held_of d rs orders shown k card free e w = absurd (never_both refl (sym e))

free_of : (d : ℕ) (rs : List LogRecord) (orders : List Order) (shown : List Shown) (k : ℕ) (card : Card) (g : Holding)
    → is_free g ≡ true → Knows d rs orders shown k card g → (bears d card ≡ false) ⊎ Clear rs k
free_of d rs orders shown k card unknown e w = absurd (never_both refl (sym e))
free_of d rs orders shown k card held e w = absurd (never_both refl (sym e))
free_of d rs orders shown k card free e w = w

-- ---- one record more, by what it changes on each card

-- What a record more changes for card j: nothing; or the card does not bear the mark, and no line becomes due for it;
-- or the card is held.
pub data Change (d : ℕ) (rs : List LogRecord) (r : LogRecord) (meant new : Language → List ℕ) (j : ℕ) (card : Card) (g : Holding) : Type 0 where
  unchanged : ((l : Language) (i : ℕ) → rewrites (more rs r) l j i ≡ rewrites rs l j i) → ((l : Language) → meant l ≡ new l) → Change d rs r meant new j card g
  unmarked : bears d card ≡ false → (Clear rs j → Clear (more rs r) j) → ((l : Language) → meant l ≡ new l) → Change d rs r meant new j card g
  committed : eqb r.kind commit_kind ≡ true → is_held g ≡ true → ((l : Language) → rewritten (more rs r) l j (length (more rs r)) (text l card) ≡ new l) → Change d rs r meant new j card g

module _ (d : ℕ) (rs : List LogRecord) (r : LogRecord) (orders : List Order) (shown : List Shown) (meant new : Language → List ℕ) (j : ℕ) (card : Card) (g : Holding)
    (w : Knows d rs orders shown j card g) where
  stands_more : Change d rs r meant new j card g → Stands d rs meant j card → Stands d (more rs r) new j card
  stands_more (unchanged e m) s =
      record { plain = λ b l. s.plain b l ∙ m l; marked = λ b l. text_same rs r l j (e l) (text l card) ∙ s.marked b l ∙ m l }
  stands_more (unmarked b c m) s = record { plain = λ q l. s.plain q l ∙ m l; marked = λ q l. absurd (never_both q b) }
  stands_more (committed c h m) s =
      let bearing = (held_of d rs orders shown j card g h w).bearing in
      record { plain = λ q l. absurd (never_both bearing q); marked = λ q l. m l }

  clear_more : ((l : Language) (i : ℕ) → rewrites (more rs r) l j i ≡ rewrites rs l j i) → Clear rs j → Clear (more rs r) j
  clear_more e c l i = e l i ∙ c l i

  onward_at : ((l : Language) (i : ℕ) → rewrites (more rs r) l j i ≡ rewrites rs l j i) → (n : ℕ) (l : Language)
      → Later rs l j n ⊎ (rewritten rs l j n (text l card) ≡ text l card)
      → Later (more rs r) l j n ⊎ (rewritten (more rs r) l j n (text l card) ≡ text l card)
  onward_at e n l (inl later) = inl (later.0, later.1, e l later.0 ∙ later.2)
  onward_at e n l (inr q) = inr (rewritten_same rs r l j (e l) n (text l card) ∙ q)

  reached_all : ((l : Language) (i : ℕ) → rewrites (more rs r) l j i ≡ rewrites rs l j i) → Reached rs j (length rs) card → Reached (more rs r) j (length (more rs r)) card
  reached_all e q l = text_same rs r l j (e l) (text l card) ∙ q l

  ready_more : ((l : Language) (i : ℕ) → rewrites (more rs r) l j i ≡ rewrites rs l j i) → (o : Order) → Ready rs j card o → Ready (more rs r) j card o
  ready_more e o q =
      record {
        within = omega (arith, q.within, length_more rs r);
        place = λ l. e l o.line ∙ q.place l;
        words = q.words ∙ ap (λ (a : LogRecord). record_text a) (sym (in_old rs r o.line q.within));
        done = λ l miss. onward_at e (suc o.line) l (q.done l (sym (e l o.line) ∙ miss));
      }

  fine_more : (i : ℕ) → i < length orders → card_for (get_or orders i no_order) ≡ j → Change d rs r meant new j card g → Fine d rs j card
      (get_or orders i no_order) → Fine d (more rs r) j card (get_or orders i no_order)
  fine_more i h e (unchanged s m) (preparing p q) = preparing p (λ live. go (q live))
    where
      go : (bears d card ≡ true) ⊎ Clear rs j → (bears d card ≡ true) ⊎ Clear (more rs r) j
      go (inl b) = inl b
      go (inr c) = inr (clear_more s c)
  fine_more i h e (unchanged s m) (releasing p q) = releasing p (λ live b. reached_all s (q live b))
  fine_more i h e (unchanged s m) (writing p q) = writing p (λ live b. ready_more s (get_or orders i no_order) (q live b))
  fine_more i h e (unmarked b c m) (preparing p q) = preparing p (λ live. go (q live))
    where
      go : (bears d card ≡ true) ⊎ Clear rs j → (bears d card ≡ true) ⊎ Clear (more rs r) j
      go (inl a) = inl a
      go (inr a) = inr (c a)
  fine_more i h e (unmarked b c m) (releasing p q) = releasing p (λ live a. absurd (never_both a b))
  fine_more i h e (unmarked b c m) (writing p q) = writing p (λ live a. absurd (never_both a b))
  fine_more i h e (committed c f m) o = dead o
    where
      old : relies (get_or orders i no_order) < card.pair.x
      old = all_at (λ (a : Order). card_for a ≡ j → relies a < card.pair.x) orders i no_order h (held_of d rs orders shown j card g f w).stale e

      dead : Fine d rs j card (get_or orders i no_order) → Fine d (more rs r) j card (get_or orders i no_order)
      dead (preparing p q) = preparing p (λ live. absurd (omega (arith, live, old)))
      dead (releasing p q) = releasing p (λ live. absurd (omega (arith, live, old)))
      dead (writing p q) = writing p (λ live. absurd (omega (arith, live, old)))

  told_more : (i : ℕ) → i < length shown → (get_or shown i no_shown).card ≡ j → Change d rs r meant new j card g → Told d rs j card
      (get_or shown i no_shown) → Told d (more rs r) j card (get_or shown i no_shown)
  told_more i h e (unchanged s m) t = record { low = t.low; reached = λ live b l. onward_at s (get_or shown i no_shown).reach l (t.reached live b l) }
  told_more i h e (unmarked b c m) t = record { low = t.low; reached = λ live a. absurd (never_both a b) }
  told_more i h e (committed c f m) t =
      record {
        low = t.low;
        reached = λ live b.
            let none = all_at (λ (v : Shown). v.card ≡ j → card.pair.x ≤ v.x → v.reach ≡ 0) shown i no_shown h (held_of d rs orders shown j card g f w).unwritten e live in
            subst (λ (n : ℕ). Onward (more rs r) j n card) (sym none) (onward_none (more rs r) j card);
      }

  knows_more : Change d rs r meant new j card g → Knows d (more rs r) orders shown j card g
  knows_more c = by g c w
    where
      by : (x : Holding) → Change d rs r meant new j card x → Knows d rs orders shown j card x → Knows d (more rs r) orders shown j card x
      by unknown c q = tt
      by held c q = q
      by free (unchanged s m) (inl b) = inl b
      by free (unchanged s m) (inr b) = inr (clear_more s b)
      by free (unmarked b c m) q = inl b
      by free (committed c f m) q = absurd (never_both refl (sym f))

-- ---- the append

module _ (d : ℕ) (y : OneDesk) (k : Kept d y) (budget : ℕ) (r : LogRecord) (rb : Bytes r.body) (h : lawful d y (append budget r) ≡ true) where
  abbrev rs : List LogRecord
  rs = records y.log

  abbrev log : List ℕ
  log = appended budget y.log r

  abbrev number : ℕ
  number = append_number budget y.log r

  abbrev meant : ℕ → Language → List ℕ
  meant = meant_logged number rs r y.meant

  -- Nothing more is read back.
  module _ (n : ℕ) (e : number ≡ suc n) (good : good_log log ≡ true) (back : records log ≡ rs) where
    meant_same : (j : ℕ) (l : Language) → y.meant j l ≡ meant j l
    meant_same j l = sym (rw (ne_eqb number 0 (λ q. omega arith)))

    append_same : Kept d (after_step d y (append budget r))
    unfolding after_step
    append_same =
        record {
          some = k.some;
          cs = k.cs;
          image_is = k.image_is;
          good = k.good;
          good_log_lem = good;
          log_bytes = (appends budget y.log r).bytes k.log_bytes rb;
          ordered = subst Ordered (sym back) k.ordered;
          texts = λ j.
              subst (λ (q : List LogRecord). Stands d q (meant j) j (at k.cs j)) (sym back)
              (record { plain = λ b l. (k.texts j).plain b l ∙ meant_same j l; marked = λ b l. (k.texts j).marked b l ∙ meant_same j l });
          sent = subst (λ (q : List LogRecord). All (λ (o : Order). Safe d q (card_for o) (at k.cs (card_for o)) o) y.orders) (sym back) k.sent;
          told = subst (λ (q : List LogRecord). All (λ (v : Shown). Told d q v.card (at k.cs v.card) v) y.shown) (sym back) k.told;
          knows = λ j. subst (λ (q : List LogRecord). Knows d q y.orders y.shown j (at k.cs j) (y.holds j)) (sym back) (k.knows j);
        }

  -- The record counts.
  module _ (z : number ≡ 0) where
    joined : accepts y.log r ≡ true
    joined = go (accepts y.log r) refl
      where
        go : (b : Bool) → accepts y.log r ≡ b → accepts y.log r ≡ true
        go true e = e
        go false e = absurd (omega (arith, z, (left_23 budget y.log r e).0))

    last_is : last_begun (record_at y.log) (record_count y.log) ≡ transaction_in rs (length rs)
    last_is =
        last_ext (record_at y.log) (record_in rs) (record_count y.log) (λ i q. sym (record_of y.log i q))
        ∙ ap (last_begun (record_in rs)) (sym (length_records y.log))

    open_is : opened (record_at y.log) (record_count y.log) ≡ opened (record_in rs) (length rs)
    open_is =
        opened_ext (record_at y.log) (record_in rs) (record_count y.log) (λ i q. sym (record_of y.log i q))
        ∙ ap (opened (record_in rs)) (sym (length_records y.log))

    pub follow : Followed (transaction_in rs (length rs)) (opened (record_in rs) (length rs)) r
    follow =
        followed (transaction_in rs (length rs)) (opened (record_in rs) (length rs)) r
        (subst (λ (n : ℕ). follows n (opened (record_in rs) (length rs)) r ≡ true) last_is
        (subst (λ (b : Bool). follows (last_begun (record_at y.log) (record_count y.log)) b r ≡ true) open_is
        (and_right (shaped r) (follows (last_begun (record_at y.log) (record_count y.log)) (opened (record_at y.log) (record_count y.log)) r)
        (and_right (good_log y.log) _ joined))))

    picks_first : (b x q : Bool) → b ≡ true → cond b x q ≡ true → x ≡ true
    picks_first b x q e f = rw e at f

    picks_second : (b x q : Bool) → b ≡ false → cond b x q ≡ true → q ≡ true
    picks_second b x q e f = rw e at f

    abbrev all_held : Bool
    all_held = every (λ i. not (update_in rs (record_transaction r) i) || is_held (y.holds (record_card (record_in rs i)))) (length rs)

    abbrev may_sync : Bool
    may_sync = (is_free (y.holds (record_card r)) || written_out rs (record_card r) 0 (length rs)) && any (commits_to (record_transaction r)) rs

    sync_rule : eqb r.kind commit_kind ≡ false → eqb r.kind synced_kind ≡ true → may_sync ≡ true
    sync_rule c s =
        picks_first (eqb r.kind synced_kind) may_sync true s
        (picks_second (eqb r.kind commit_kind) all_held (cond (eqb r.kind synced_kind) may_sync true) c h)

    synced_committed : eqb r.kind synced_kind ≡ true → any (commits_to (record_transaction r)) rs ≡ true
    synced_committed s =
        and_right (is_free (y.holds (record_card r)) || written_out rs (record_card r) 0 (length rs)) (any (commits_to (record_transaction r)) rs)
        (sync_rule (ap (λ (n : ℕ). eqb n commit_kind) (eqb-true r.kind synced_kind s)) s)

    order : Ordered (more rs r)
    order = ordered_more rs r k.ordered follow synced_committed

    -- What it changes on card j, by its kind.
    module _ (j : ℕ) where
      abbrev card : Card
      card = at k.cs j

      abbrev Changes : Type 0
      Changes = Change d rs r (y.meant j) (meant j) j card (y.holds j)

      no_commit : eqb r.kind commit_kind ≡ false → (l : Language) → y.meant j l ≡ meant j l
      no_commit c l = sym (rw (z, c))

      is_commit_lem : eqb r.kind commit_kind ≡ true → (l : Language) → meant j l ≡ with_updates rs (record_transaction r) l j (length rs) (y.meant j l)
      is_commit_lem c l = rw (z, c)

      rule : eqb r.kind commit_kind ≡ true → all_held ≡ true
      rule c = picks_first (eqb r.kind commit_kind) all_held (cond (eqb r.kind synced_kind) may_sync true) c h

      -- A card that is not held is not updated by the transaction.
      pub apart : eqb r.kind commit_kind ≡ true → is_held (y.holds j) ≡ false → (i : ℕ) → i < length rs → update_in rs (record_transaction r) i ≡ true → eqb (record_card (record_in rs i)) j ≡ false
      apart c e i q u = pick (cases (eqb (record_card (record_in rs i)) j))
        where
          holds_it : (not (update_in rs (record_transaction r) i) ≡ true) ⊎ (is_held (y.holds (record_card (record_in rs i))) ≡ true) → is_held (y.holds (record_card (record_in rs i))) ≡ true
          holds_it (inl a) = absurd (never_both u (not-true (update_in rs (record_transaction r) i) a))
          holds_it (inr a) = a

          pick : (eqb (record_card (record_in rs i)) j ≡ true) ⊎ (eqb (record_card (record_in rs i)) j ≡ false) → eqb (record_card (record_in rs i)) j ≡ false
          pick (inr a) = a
          pick (inl a) =
              absurd
              (never_both
              (subst (λ (n : ℕ). is_held (y.holds n) ≡ true) (eqb-true (record_card (record_in rs i)) j a)
              (holds_it (or_cases (not (update_in rs (record_transaction r) i)) (is_held (y.holds (record_card (record_in rs i))))
              (every_out (λ (n : ℕ). not (update_in rs (record_transaction r) n) || is_held (y.holds (record_card (record_in rs n)))) (length rs) (rule c) i q))))
              e)

      unheld_commit : eqb r.kind commit_kind ≡ true → is_held (y.holds j) ≡ false → (l : Language) (s : List ℕ) → with_updates rs (record_transaction r) l j (length rs) s ≡ s
      unheld_commit c e l s = applied_away rs r k.ordered follow c l j (apart c e) s

      change_commit : eqb r.kind commit_kind ≡ true → Changes
      change_commit c = go (cases (is_held (y.holds j)))
        where
          go : (is_held (y.holds j) ≡ true) ⊎ (is_held (y.holds j) ≡ false) → Changes
          go (inl e) =
              let bearing = (held_of d rs y.orders y.shown j card (y.holds j) e (k.knows j)).bearing in
              committed c e
              (λ l.
              text_commit rs r k.ordered follow c l j (text l card)
              ∙ ap (with_updates rs (record_transaction r) l j (length rs)) ((k.texts j).marked bearing l)
              ∙ sym (is_commit_lem c l))
          go (inr e) =
              unchanged (λ l. same_commit rs r k.ordered follow c l j (apart c e))
              (λ l. sym (is_commit_lem c l ∙ unheld_commit c e l (y.meant j l)))

      change_synced : eqb r.kind commit_kind ≡ false → eqb r.kind synced_kind ≡ true → Changes
      change_synced c s = go (cases (eqb (record_card r) j))
        where
          fewer : (l : Language) (i : ℕ) → rewrites rs l j i ≡ false → rewrites (more rs r) l j i ≡ false
          fewer l i q = no_more rs r k.ordered follow l j c i q

          by : (bears d card ≡ false) ⊎ Clear rs j → Changes
          by (inl b) = unmarked b (λ q l i. fewer l i (q l i)) (no_commit c)
          by (inr q) = unchanged (λ l i. fewer l i (q l i) ∙ sym (q l i)) (no_commit c)

          either : record_card r ≡ j → (is_free (y.holds (record_card r)) ≡ true) ⊎ (written_out rs (record_card r) 0 (length rs) ≡ true) → Changes
          either e (inl f) = by (free_of d rs y.orders y.shown j card (y.holds j) (subst (λ (n : ℕ). is_free (y.holds n) ≡ true) e f) (k.knows j))
          either e (inr f) = by (inr (out_clear rs j (subst (λ (n : ℕ). written_out rs n 0 (length rs) ≡ true) e f)))

          go : (eqb (record_card r) j ≡ true) ⊎ (eqb (record_card r) j ≡ false) → Changes
          go (inr e) = unchanged (λ l. same_apart rs r k.ordered follow l j c (rw (s, e))) (no_commit c)
          go (inl e) =
              either (eqb-true (record_card r) j e)
              (or_cases (is_free (y.holds (record_card r))) (written_out rs (record_card r) 0 (length rs))
              (and_left (is_free (y.holds (record_card r)) || written_out rs (record_card r) 0 (length rs)) (any (commits_to (record_transaction r)) rs) (sync_rule c s)))

      pub change : Changes
      change = go (cases (eqb r.kind commit_kind)) (cases (eqb r.kind synced_kind))
        where
          go : (eqb r.kind commit_kind ≡ true) ⊎ (eqb r.kind commit_kind ≡ false) → (eqb r.kind synced_kind ≡ true) ⊎ (eqb r.kind synced_kind ≡ false) → Changes
          go (inl c) s = change_commit c
          go (inr c) (inl s) = change_synced c s
          go (inr c) (inr s) = unchanged (λ l. same_apart rs r k.ordered follow l j c (rw s)) (no_commit c)

    module _ (good : good_log log ≡ true) (back : records log ≡ more rs r) where
      abbrev order_at : ℕ → Order
      order_at i = get_or y.orders i no_order

      abbrev shown_at : ℕ → Shown
      shown_at i = get_or y.shown i no_shown

      safe_at : (i : ℕ) → i < length y.orders → Safe d (more rs r) (card_for (order_at i)) (at k.cs (card_for (order_at i))) (order_at i)
      safe_at i q =
          let w = all_at (λ (o : Order). Safe d rs (card_for o) (at k.cs (card_for o)) o) y.orders i no_order q k.sent in
          let j : ℕ = card_for (order_at i) in
          record {
            bytes = w.bytes;
            below = w.below;
            above = w.above;
            fine = fine_more d rs r y.orders y.shown (y.meant j) (meant j) j (at k.cs j) (y.holds j) (k.knows j) i q refl (change j) w.fine;
          }

      told_at : (i : ℕ) → i < length y.shown → Told d (more rs r) (shown_at i).card (at k.cs (shown_at i).card) (shown_at i)
      told_at i q =
          let j : ℕ = (shown_at i).card in
          told_more d rs r y.orders y.shown (y.meant j) (meant j) j (at k.cs j) (y.holds j) (k.knows j) i q refl (change j)
          (all_at (λ (v : Shown). Told d rs v.card (at k.cs v.card) v) y.shown i no_shown q k.told)

      append_more : Kept d (after_step d y (append budget r))
      unfolding after_step
      append_more =
          record {
            some = k.some;
            cs = k.cs;
            image_is = k.image_is;
            good = k.good;
            good_log_lem = good;
            log_bytes = (appends budget y.log r).bytes k.log_bytes rb;
            ordered = subst Ordered (sym back) order;
            texts = λ j.
                subst (λ (q : List LogRecord). Stands d q (meant j) j (at k.cs j)) (sym back)
                (stands_more d rs r y.orders y.shown (y.meant j) (meant j) j (at k.cs j) (y.holds j) (k.knows j) (change j) (k.texts j));
            sent =
                subst (λ (q : List LogRecord). All (λ (o : Order). Safe d q (card_for o) (at k.cs (card_for o)) o) y.orders) (sym back)
                (all_by (λ (o : Order). Safe d (more rs r) (card_for o) (at k.cs (card_for o)) o) y.orders no_order safe_at);
            told =
                subst (λ (q : List LogRecord). All (λ (v : Shown). Told d q v.card (at k.cs v.card) v) y.shown) (sym back)
                (all_by (λ (v : Shown). Told d (more rs r) v.card (at k.cs v.card) v) y.shown no_shown told_at);
            knows = λ j.
                subst (λ (q : List LogRecord). Knows d q y.orders y.shown j (at k.cs j) (y.holds j)) (sym back)
                (knows_more d rs r y.orders y.shown (y.meant j) (meant j) j (at k.cs j) (y.holds j) (k.knows j) (change j));
          }

  -- What is meant of a card that does not bear the mark stays, whatever it is.
  pub unborne_meant : (j : ℕ) → bears d (at k.cs j) ≡ false → (m : ℕ → Language → List ℕ) (l : Language) → meant_logged number rs r m j l ≡ m j l
  unborne_meant j b m l = go number refl (cases (eqb r.kind commit_kind)) (cases (is_held (y.holds j)))
    where
      go : (n : ℕ) → number ≡ n → (eqb r.kind commit_kind ≡ true) ⊎ (eqb r.kind commit_kind ≡ false) → (is_held (y.holds j) ≡ true) ⊎ (is_held (y.holds j) ≡ false)
          → meant_logged number rs r m j l ≡ m j l
      go (suc n) e c q = rw (ne_eqb number 0 (λ z. omega arith))
      go zero e (inr c) q = rw (e, c)
      go zero e (inl c) (inl q) = absurd (never_both (held_of d rs y.orders y.shown j (at k.cs j) (y.holds j) q (k.knows j)).bearing b)
      go zero e (inl c) (inr q) = rw (e, c) (unheld_commit e j c q l (m j l))

  -- A refused append, and one that is cut, leave what is read back.
  left_alone : log ≡ y.log → (good_log log ≡ true) × (records log ≡ rs)
  left_alone e = (ap good_log e ∙ k.good_log_lem, ap records e)

  by_row : (n : ℕ) → number ≡ suc n → any (eqb (suc n)) append_numbers ≡ true → (good_log log ≡ true) × (records log ≡ rs)
  by_row n e a = first (or_cases (eqb (suc n) 23) (any (eqb (suc n)) (24 ∷ 26 ∷ [])) a)
    where
      third : (eqb (suc n) 26 ≡ true) ⊎ (false ≡ true) → (good_log log ≡ true) × (records log ≡ rs)
      third (inl q) = (appends budget y.log r).cut (e ∙ eqb-true (suc n) 26 q)
      third (inr q) = absurd (never_both refl (sym q))

      second : (eqb (suc n) 24 ≡ true) ⊎ (any (eqb (suc n)) (26 ∷ []) ≡ true) → (good_log log ≡ true) × (records log ≡ rs)
      second (inl q) = left_alone ((appends budget y.log r).full (e ∙ eqb-true (suc n) 24 q))
      second (inr q) = third (or_cases (eqb (suc n) 26) false q)

      first : (eqb (suc n) 23 ≡ true) ⊎ (any (eqb (suc n)) (24 ∷ 26 ∷ []) ≡ true) → (good_log log ≡ true) × (records log ≡ rs)
      first (inl q) = left_alone ((appends budget y.log r).bad (e ∙ eqb-true (suc n) 23 q))
      first (inr q) = second (or_cases (eqb (suc n) 24) (any (eqb (suc n)) (26 ∷ [])) q)

  pub uncounted : (n : ℕ) → number ≡ suc n → (good_log log ≡ true) × (records log ≡ rs)
  uncounted n e = by_row n e (listed_of (from_T (eqb number 0 || any (eqb number) append_numbers) (log_listed.appends budget y.log r)))
    where
      listed_of : (eqb number 0 || any (eqb number) append_numbers) ≡ true → any (eqb (suc n)) append_numbers ≡ true
      listed_of a = pick (or_cases (eqb number 0) (any (eqb number) append_numbers) a)
        where
          pick : (eqb number 0 ≡ true) ⊎ (any (eqb number) append_numbers ≡ true) → any (eqb (suc n)) append_numbers ≡ true
          pick (inl q) = absurd (omega (arith, eqb-true number 0 q, e))
          pick (inr q) = subst (λ (m : ℕ). any (eqb m) append_numbers ≡ true) e q

  pub kept_append : Kept d (after_step d y (append budget r))
  kept_append = go number refl
    where
      go : (n : ℕ) → number ≡ n → Kept d (after_step d y (append budget r))
      go zero e = let w = (appends budget y.log r).whole e in append_more e w.0 w.1
      go (suc n) e = let w = uncounted n e in append_same n e w.0 w.1
