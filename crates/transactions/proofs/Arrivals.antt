-- What holds at every moment is kept when an order reaches the store, late or again. Assumes nothing.
use Prim.Native.Nat.{ℕ, zero, suc, ◌≤◌, ◌<◌}
use native.Mathlib.Omega.{arith}
use mathlib.Core.Path.{◌≡◌, refl, sym, ap, ◌∙◌, subst}
use mathlib.Core.Logic.{◌⊎◌, inl, inr}
use mathlib.Core.List.{List, ◌∷◌}
use mathlib.Core.Bool.{Bool, true, false, cond, not, ◌&&◌}
use borrow.Author.Tests.{eqb-true, eqb-false, ne_eqb, ltb-true, not-true}
use lib.ListN.{length, get_or}
use lib.Dec.{eqb}
use Rattle.formats.specs.Format.{V1}
use Rattle.lists.specs.Table.{settled}
use Rattle.lists.proofs.Tests.{cases, never_both, and_left, and_right}
use Rattle.stamps.specs.declared.Mark.{Mark}
use Rattle.commands.specs.declared.Command.{Command}
use Rattle.commands.specs.Command.{Language, is_write, writes}
use Rattle.commands.specs.Bytes.{payload}
use Rattle.guard.specs.declared.Answer.{Answer}
use Rattle.image.specs.Image.{Card, Cards, text, encode}
use Rattle.store_model.specs.Words.{Sent}
use Rattle.store_model.proofs.Machine.{number_on}
use Rattle.redo_log.specs.Log.{LogRecord, record_text, records}
use Rattle.redo_recovery_model.specs.Recovery.{record_in}
use Rattle.redo_recovery_model.specs.Claims.{rewrites, rewritten}
use Rattle.transactions.specs.System.{
  OneDesk,
  Order,
  Shown,
  Holding,
  unknown,
  held,
  free,
  arrive,
  no_order,
  command_in,
  expects_mark,
  leaves_mark,
  prepares,
  writes_out,
  releases,
  lawful,
  outcome,
  heard_of,
  noting,
  reach_of,
  after_step,
}
use Rattle.transactions.proofs.Records.{All, all_map}
use Rattle.transactions.proofs.Due.{rewritten_none, rewritten_some}
use Rattle.transactions.proofs.Serving.{at, then, Taken, taken, kept}
use Rattle.transactions.proofs.Kept.{
  bears,
  Clear,
  Reached,
  Later,
  Onward,
  Stands,
  card_for,
  relies,
  Ready,
  Fine,
  preparing,
  releasing,
  writing,
  Safe,
  Told,
  Held,
  Knows,
  Kept,
  safe_raised,
  told_raised,
  all_at,
  all_moved,
}
use Rattle.transactions.proofs.Requests.{knows_shown, no_writes, onward_none, number_now, image_now, x_now, mark_shown, good_now, knows_heard, knows_with}

module _ (d : ℕ) (y : OneDesk) (k : Kept d y) (i : ℕ) (h : lawful d y (arrive i) ≡ true) where
  abbrev rs : List LogRecord
  rs = records y.log

  abbrev o : Order
  o = get_or y.orders i no_order

  abbrev s : Sent
  s = o.sent

  abbrev c : Command
  c = command_in s

  abbrev a : Answer
  a = (outcome y s).answer

  abbrev new : Cards
  new = then k.cs s

  abbrev old : Card
  old = at k.cs c.card

  abbrev now : Card
  now = at new c.card

  abbrev v : Shown
  v = record { card = c.card; x = a.pair.x; reach = reach_of o a }

  inside : i < length y.orders
  inside = ltb-true i (length y.orders) h

  safe : Safe d rs c.card old o
  safe = all_at (λ (q : Order). Safe d rs (card_for q) (at k.cs (card_for q)) q) y.orders i no_order inside k.sent

  abbrev holding : Holding
  holding = heard_of d s a (y.holds c.card)

  -- On another card nothing changes.
  all_knows : Knows d rs y.orders (v ∷ y.shown) c.card now holding
      → ((j : ℕ) → eqb c.card j ≡ false → at new j ≡ at k.cs j)
      → (j : ℕ) → Knows d rs y.orders (v ∷ y.shown) j (at new j) (noting c.card holding y.holds j)
  all_knows w others =
      knows_with d rs y.orders (v ∷ y.shown) new c.card holding y.holds w
      (λ j e.
      subst (λ (q : Card). Knows d rs y.orders (v ∷ y.shown) j q (y.holds j)) (sym (others j (ne_eqb c.card j (λ f. eqb-false j c.card e (sym f)))))
      (knows_shown d rs y.orders y.shown v j (at k.cs j) (y.holds j) (λ f. absurd (eqb-false j c.card e (sym f))) (k.knows j)))

  -- ---- it is refused

  reach_refused : (n : ℕ) → a.number ≡ suc n → reach_of o a ≡ 0
  reach_refused n e = ap (λ (m : ℕ). cond (is_write c) (settled m (suc o.line) 0) 0) e ∙ go (is_write c)
    where
      go : (b : Bool) → ◌≡◌ {A = ℕ} (cond b 0 0) 0
      go true = refl
      go false = refl

  module _ (n : ℕ) (e : number_on V1 k.cs s ≡ suc n) where
    same : new ≡ k.cs
    same = kept k.cs s k.good n e

    number : a.number ≡ suc n
    number = number_now d y k s ∙ e

    reach : reach_of o a ≡ 0
    reach = reach_refused n number

    knows_refused : Knows d rs y.orders (v ∷ y.shown) c.card now holding
    knows_refused =
        subst (λ (m : Cards). Knows d rs y.orders (v ∷ y.shown) c.card (at m c.card) holding) (sym same)
        (knows_heard d rs y.orders (v ∷ y.shown) c.card old s a (y.holds c.card)
        (knows_shown d rs y.orders y.shown v c.card old (y.holds c.card) (λ f q. reach) (k.knows c.card))
        (λ p z. absurd (omega (arith, number, z)))
        (λ p f. inl (subst (λ (m : Cards). bears d (at m c.card) ≡ false) same (mark_shown d y k s p f))))

    arrive_refused : Kept d (after_step d y (arrive i))
    unfolding after_step
    arrive_refused =
        record {
          some = k.some;
          cs = k.cs;
          image_is = image_now d y k s ∙ ap (encode V1) same;
          good = k.good;
          good_log_lem = k.good_log_lem;
          log_bytes = k.log_bytes;
          ordered = k.ordered;
          texts = k.texts;
          sent = k.sent;
          told = (
            record {
              low = subst (λ (m : Cards). v.x ≤ (at m c.card).pair.x) same (x_now d y k s);
              reached = λ live q. subst (λ (m : ℕ). Onward rs c.card m old) (sym reach) (onward_none rs c.card old);
            },
            k.told,
          );
          knows = λ j. subst (λ (m : Cards). Knows d rs y.orders (v ∷ y.shown) j (at m j) (noting c.card holding y.holds j)) same
              (all_knows knows_refused (λ p q. ap (λ (m : Cards). at m p) same) j);
        }

  -- ---- it is accepted: every order for the card is stale from now on, and every earlier answer is overtaken

  module _ (z : number_on V1 k.cs s ≡ 0) where
    abbrev t : Taken k.cs s
    t = taken k.cs s k.good z

    number_zero : a.number ≡ 0
    number_zero = number_now d y k s ∙ z

    pub rises : old.pair.x < now.pair.x
    rises = omega (arith, t.x, t.fresh, safe.above)

    pub all_stale : All (λ (q : Order). card_for q ≡ c.card → relies q < now.pair.x) y.orders
    all_stale =
        all_map (λ (q : Order). Safe d rs (card_for q) (at k.cs (card_for q)) q) (λ (q : Order). card_for q ≡ c.card → relies q < now.pair.x) y.orders
        (λ q w e. let low : relies q ≤ old.pair.x = subst (λ (j : ℕ). relies q ≤ (at k.cs j).pair.x) e w.below in omega (arith, low, rises))
        k.sent

    all_overtaken : All (λ (w : Shown). w.card ≡ c.card → now.pair.x ≤ w.x → w.reach ≡ 0) y.shown
    all_overtaken =
        all_map (λ (w : Shown). Told d rs w.card (at k.cs w.card) w) (λ (w : Shown). w.card ≡ c.card → now.pair.x ≤ w.x → w.reach ≡ 0) y.shown
        (λ w q e live. let low : w.x ≤ old.pair.x = subst (λ (j : ℕ). w.x ≤ (at k.cs j).pair.x) e q.low in absurd (omega (arith, low, rises, live)))
        k.told

    -- What was known of the card, where the order is not stale.
    known : (g : Holding) → Knows d rs y.orders y.shown c.card old g → (bears d old ≡ false → (bears d now ≡ false) ⊎ Clear rs c.card)
        → Knows d rs y.orders (v ∷ y.shown) c.card now g
    known unknown w f = tt
    known held w f =
        absurd
        (omega (arith, t.fresh, all_at (λ (q : Order). card_for q ≡ c.card → relies q < old.pair.x) y.orders i no_order inside w.stale refl))
    known free (inl w) f = f w
    known free (inr w) f = inr w

    -- All but the card itself.
    arrived : Stands d rs (y.meant c.card) c.card now
        → (now.pair.x ≤ v.x → bears d now ≡ true → Onward rs c.card v.reach now)
        → Knows d rs y.orders (v ∷ y.shown) c.card now holding
        → Kept d (after_step d y (arrive i))
    unfolding after_step
    arrived stands reached knows =
        record {
          some = k.some;
          cs = new;
          image_is = image_now d y k s;
          good = good_now d y k s safe.bytes;
          good_log_lem = k.good_log_lem;
          log_bytes = k.log_bytes;
          ordered = k.ordered;
          texts = λ j. texts_then j (cases (eqb c.card j));
          sent = all_moved card_for (Safe d rs) k.cs new c.card y.orders t.others (safe_raised d rs c.card old now rises) k.sent;
          told = (
            record { low = x_now d y k s; reached = reached },
            all_moved (λ (w : Shown). w.card) (Told d rs) k.cs new c.card y.shown t.others (told_raised d rs c.card old now rises) k.told,
          );
          knows = all_knows knows t.others;
        }
      where
        texts_then : (j : ℕ) → (eqb c.card j ≡ true) ⊎ (eqb c.card j ≡ false) → Stands d rs (y.meant j) j (at new j)
        texts_then j (inl e) = subst (λ (m : ℕ). Stands d rs (y.meant m) m (at new m)) (eqb-true c.card j e) stands
        texts_then j (inr e) = subst (Stands d rs (y.meant j) j) (sym (t.others j e)) (k.texts j)

    -- A text that is not written stays.
    stays : is_write c ≡ false → (l : Language) → text l now ≡ text l old
    stays e l = t.text_is l ∙ rw (no_writes c e l)

    -- No order is two kinds at once.
    not_none : (m : ℕ) → eqb m d ≡ true → eqb m 0 ≡ false
    not_none m e = ne_eqb m 0 (λ q. k.some (sym (eqb-true m d e) ∙ q))

    no_reach : is_write c ≡ false → reach_of o a ≡ 0
    no_reach e = ap (λ (b : Bool). cond b (settled a.number (suc o.line) 0) 0) e

    bears_next : (b : Bool) → eqb c.next.desk d ≡ b → bears d now ≡ b
    bears_next b e = ap (λ (m : Mark). eqb m.desk d) t.mark ∙ e

    bears_old : (b : Bool) → eqb c.expected.desk d ≡ b → bears d old ≡ b
    bears_old b e = subst (λ (m : ℕ). eqb m d ≡ b) t.fits e

    -- A prepare.
    module _ (p : prepares d c ≡ true) (f : old.pair.x ≤ relies o → (bears d old ≡ true) ⊎ Clear rs c.card) where
      plain : is_write c ≡ false
      plain = not-true (is_write c) (and_left (not (is_write c)) (eqb c.expected.desk 0) (and_left (not (is_write c) && eqb c.expected.desk 0) (leaves_mark d c) p))

      none : eqb c.expected.desk 0 ≡ true
      none = and_right (not (is_write c)) (eqb c.expected.desk 0) (and_left (not (is_write c) && eqb c.expected.desk 0) (leaves_mark d c) p)

      unborne : bears d old ≡ false
      unborne = bears_old false (ne_eqb c.expected.desk d (λ e. k.some (sym e ∙ eqb-true c.expected.desk 0 none)))

      borne : bears d now ≡ true
      borne = bears_next true (and_right (not (is_write c) && eqb c.expected.desk 0) (leaves_mark d c) p)

      clear : Clear rs c.card
      clear = go (f t.fresh)
        where
          go : (bears d old ≡ true) ⊎ Clear rs c.card → Clear rs c.card
          go (inl e) = absurd (never_both e unborne)
          go (inr e) = e

      holds_it : Held d y.orders (v ∷ y.shown) c.card now
      holds_it = record { bearing = borne; stale = all_stale; unwritten = ((λ e q. no_reach plain), all_overtaken) }

      first_line_lem : (l : Language) → rewritten rs l c.card 0 (text l now) ≡ text l now
      unfolding rewritten
      first_line_lem l = refl

      arrive_prepare : Kept d (after_step d y (arrive i))
      arrive_prepare =
          arrived
          (record {
            plain = λ e l. absurd (never_both borne e);
            marked = λ e l.
                rewritten_none rs l c.card 0 (length rs) (text l now) (omega arith) (λ j q r. clear l j)
                ∙ first_line_lem l
                ∙ stays plain l
                ∙ (k.texts c.card).plain unborne l;
          })
          (λ live e. subst (λ (m : ℕ). Onward rs c.card m now) (sym (no_reach plain)) (onward_none rs c.card now))
          (knows_heard d rs y.orders (v ∷ y.shown) c.card now s a (y.holds c.card)
          (known (y.holds c.card) (k.knows c.card) (λ e. inr clear))
          (λ q e. holds_it)
          (λ q e. inr clear))

    -- A release.
    module _ (p : releases d c ≡ true) (f : old.pair.x ≤ relies o → bears d old ≡ true → Reached rs c.card (length rs) old) where
      plain_r : is_write c ≡ false
      plain_r = not-true (is_write c) (and_left (not (is_write c)) (expects_mark d c) (and_left (not (is_write c) && expects_mark d c) (eqb c.next.desk 0) p))

      expected_r : expects_mark d c ≡ true
      expected_r = and_right (not (is_write c)) (expects_mark d c) (and_left (not (is_write c) && expects_mark d c) (eqb c.next.desk 0) p)

      borne_r : bears d old ≡ true
      borne_r = bears_old true expected_r

      unborne_r : bears d now ≡ false
      unborne_r = bears_next false (ne_eqb c.next.desk d (λ e. k.some (sym e ∙ eqb-true c.next.desk 0 (and_right (not (is_write c) && expects_mark d c) (eqb c.next.desk 0) p))))

      arrive_release : Kept d (after_step d y (arrive i))
      arrive_release =
          arrived
          (record {
            plain = λ e l. stays plain_r l ∙ sym (f t.fresh borne_r l) ∙ (k.texts c.card).marked borne_r l;
            marked = λ e l. absurd (never_both e unborne_r);
          })
          (λ live e. absurd (never_both e unborne_r))
          (knows_heard d rs y.orders (v ∷ y.shown) c.card now s a (y.holds c.card)
          (known (y.holds c.card) (k.knows c.card) (λ e. inl unborne_r))
          (λ q e. absurd (never_both
          (and_right (not (is_write c)) (eqb c.expected.desk 0) (and_left (not (is_write c) && eqb c.expected.desk 0) (leaves_mark d c) q))
          (not_none c.expected.desk expected_r)))
          (λ q e. inl unborne_r))

    -- A write.
    module _ (p : writes_out d c ≡ true) (f : old.pair.x ≤ relies o → bears d old ≡ true → Ready rs c.card old o) where
      is_write_lem : is_write c ≡ true
      is_write_lem = and_left (is_write c) (expects_mark d c) (and_left (is_write c && expects_mark d c) (leaves_mark d c) p)

      borne_w : bears d old ≡ true
      borne_w = bears_old true (and_right (is_write c) (expects_mark d c) (and_left (is_write c && expects_mark d c) (leaves_mark d c) p))

      still : bears d now ≡ true
      still = bears_next true (and_right (is_write c && expects_mark d c) (leaves_mark d c) p)

      ready : Ready rs c.card old o
      ready = f t.fresh borne_w

      reach_w : reach_of o a ≡ suc o.line
      reach_w = rw (is_write_lem, number_zero)

      -- The text in each language: written, or as it was.
      text_w : (l : Language) → (rewritten rs l c.card (length rs) (text l now) ≡ rewritten rs l c.card (length rs) (text l old)) ×
          (Later rs l c.card (suc o.line) ⊎ (rewritten rs l c.card (suc o.line) (text l now) ≡ text l now))
      unfolding rewritten
      text_w l = go (cases (writes l c))
        where
          go : (writes l c ≡ true) ⊎ (writes l c ≡ false)
              → (rewritten rs l c.card (length rs) (text l now) ≡ rewritten rs l c.card (length rs) (text l old))
              × (Later rs l c.card (suc o.line) ⊎ (cond (rewrites rs l c.card o.line) (record_text (record_in rs o.line)) (rewritten rs l c.card o.line (text l now)) ≡ text l now))
          go (inl e) =
              let hit : rewrites rs l c.card o.line ≡ true = ready.place l ∙ e in
              let written : text l now ≡ payload V1 s.command = t.text_is l ∙ ap (λ (b : Bool). cond b (payload V1 s.command) (text l old)) e in (
                rewritten_some rs l c.card (length rs) o.line ready.within hit (text l now) (text l old),
                inr (ap (λ (b : Bool). cond b (record_text (record_in rs o.line)) (rewritten rs l c.card o.line (text l now))) hit ∙ sym ready.words ∙ sym written),
              )
          go (inr e) =
              let miss : rewrites rs l c.card o.line ≡ false = ready.place l ∙ e in
              let same_text : text l now ≡ text l old = t.text_is l ∙ ap (λ (b : Bool). cond b (payload V1 s.command) (text l old)) e in (
                ap (rewritten rs l c.card (length rs)) same_text,
                subst (λ (w : List ℕ). Later rs l c.card (suc o.line) ⊎ (rewritten rs l c.card (suc o.line) w ≡ w)) (sym same_text) (ready.done l miss),
              )

      none_w : is_write c ≡ false → ⊥
      none_w e = never_both is_write_lem e

      arrive_write : Kept d (after_step d y (arrive i))
      arrive_write =
          arrived
          (record {
            plain = λ e l. absurd (never_both still e);
            marked = λ e l. (text_w l).0 ∙ (k.texts c.card).marked borne_w l;
          })
          (λ live e. subst (λ (m : ℕ). Onward rs c.card m now) (sym reach_w) (λ l. (text_w l).1))
          (knows_heard d rs y.orders (v ∷ y.shown) c.card now s a (y.holds c.card)
          (known (y.holds c.card) (k.knows c.card) (λ e. absurd (never_both borne_w e)))
          (λ q e. absurd (none_w (not-true (is_write c) (and_left (not (is_write c)) (eqb c.expected.desk 0) (and_left (not (is_write c) && eqb c.expected.desk 0) (leaves_mark d c) q)))))
          (λ q e. inl (mark_shown d y k s q e)))

    arrive_taken : Fine d rs c.card old o → Kept d (after_step d y (arrive i))
    arrive_taken (preparing p f) = arrive_prepare p f
    arrive_taken (releasing p f) = arrive_release p f
    arrive_taken (writing p f) = arrive_write p f

  pub kept_arrive : Kept d (after_step d y (arrive i))
  kept_arrive = go (number_on V1 k.cs s) refl
    where
      go : (n : ℕ) → number_on V1 k.cs s ≡ n → Kept d (after_step d y (arrive i))
      go zero e = arrive_taken e safe.fine
      go (suc n) e = arrive_refused n e
