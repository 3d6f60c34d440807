-- What a desk has seen of a card stays true until it acts on the card: held is held, and free is free as long as
-- something is due there. Assumes nothing.
use Prim.Native.Nat.{ℕ, zero, suc, ◌<◌}
use native.Mathlib.Omega.{arith}
use mathlib.Core.Path.{◌≡◌, refl, sym, ap, ◌∙◌, subst}
use mathlib.Core.Logic.{◌⊎◌, inl, inr}
use mathlib.Core.List.{List, []}
use mathlib.Core.Bool.{Bool, true, false, cond, not, ◌&&◌}
use borrow.Author.Tests.{eqb-true, eq-eqb, ltb-true, not-true}
use lib.ListN.{length, get_or}
use lib.Dec.{eqb}
use Rattle.formats.specs.Format.{V1}
use Rattle.lists.specs.Table.{settled}
use Rattle.lists.proofs.Tests.{cases, never_both, and_left, and_right}
use Rattle.stamps.specs.declared.Mark.{Mark}
use Rattle.commands.specs.declared.Command.{Command}
use Rattle.commands.specs.Command.{is_write}
use Rattle.commands.specs.Bytes.{formed}
use Rattle.guard.specs.declared.Answer.{Answer}
use Rattle.image.specs.Image.{Card, Cards}
use Rattle.store_model.specs.Serve.{Outcome}
use Rattle.store_model.specs.Words.{Sent}
use Rattle.store_model.proofs.Machine.{number_on}
use Rattle.redo_log.specs.Log.{LogRecord, commit_kind, record_card, record_transaction, records}
use Rattle.redo_log.specs.Append.{append_number}
use Rattle.redo_log_claims.proofs.Claims.{appends}
use Rattle.redo_log_claims.proofs.Life.{renews}
use Rattle.redo_recovery_model.specs.Recovery.{record_in}
use Rattle.redo_recovery_model.specs.Claims.{rewrites}
use Rattle.transactions.specs.System.{
  OneDesk,
  Order,
  Holding,
  unknown,
  held,
  free,
  other,
  order,
  arrive,
  append,
  renew,
  no_order,
  command_in,
  expects_mark,
  leaves_mark,
  prepares,
  update_in,
  is_held,
  is_free,
  lawful,
  outcome,
  heard_of,
  noting,
  after_step,
}
use Rattle.transactions.specs.Claims.{StepBytes}
use Rattle.transactions.proofs.Records.{more}
use Rattle.transactions.proofs.Due.{no_more, same_commit}
use Rattle.transactions.proofs.Serving.{at, then, Taken, taken, kept, shown_mark}
use Rattle.transactions.proofs.Kept.{bears, Clear, card_for, relies, Fine, preparing, releasing, writing, Safe, Kept, all_at}
use Rattle.transactions.proofs.Requests.{if_so, outcome_is, number_now, mark_shown}
use Rattle.transactions.proofs.Orders.{past_none}
use Rattle.transactions.proofs.Logged.{held_of, follow, uncounted}
use Rattle.transaction_steps.specs.declared.LastSeen.{LastSeen}
use Rattle.transaction_steps.specs.Steps.{shows_none, look_step, prepare_step, seen_upon}
use Rattle.transaction_steps_claims.specs.Follower.{step_of}

-- A card is free to the desk, or nothing of it is due.
abbrev pub Freely : List LogRecord → ℕ → Holding → Type 0
Freely rs k g = (is_free g ≡ true) ⊎ Clear rs k

pub record Sees (d : ℕ) (y : OneDesk) (k : ℕ) (v : LastSeen) : Type 0 where
  pub holding : v.held ≡ true → is_held (y.holds k) ≡ true
  pub freely : eqb v.mark d ≡ false → Freely (records y.log) k (y.holds k)

-- ---- what an answer tells, by what it can tell

heard_by : (P : Holding → Type 0) (d : ℕ) (s : Sent) (a : Answer) (old : Holding)
    → (formed V1 s.command ≡ true → eqb a.mark.desk d ≡ false → P free)
    → (prepares d (command_in s) ≡ true → a.number ≡ 0 → P held)
    → P old
    → P (heard_of d s a old)
heard_by P d s a old p q w = go (formed V1 s.command && not (eqb a.mark.desk d)) refl (prepares d (command_in s)) refl
  where
    by_number : (n : ℕ) → a.number ≡ n → prepares d (command_in s) ≡ true → P (settled n held old)
    by_number zero e f = q f e
    by_number (suc n) e f = w

    go : (u : Bool) → (formed V1 s.command && not (eqb a.mark.desk d)) ≡ u → (t : Bool) → prepares d (command_in s) ≡ t
        → P (cond u free (cond t (settled a.number held old) old))
    go true f t e = p (and_left (formed V1 s.command) (not (eqb a.mark.desk d)) f) (not-true (eqb a.mark.desk d) (and_right (formed V1 s.command) (not (eqb a.mark.desk d)) f))
    go false f true e = by_number a.number refl e
    go false f false e = w

noted_by : (P : ℕ → Holding → Type 0) (k j : ℕ) (g : Holding) (holds : ℕ → Holding) → (P k (holds k) → P k g) → P j (holds j) → P j (noting k g holds j)
noted_by P k j g holds f w = go (cases (eqb j k))
  where
    go : (eqb j k ≡ true) ⊎ (eqb j k ≡ false) → P j (noting k g holds j)
    go (inr e) = subst (λ (t : Bool). P j (cond t g (holds j))) (sym e) w
    go (inl e) =
        let same : j ≡ k = eqb-true j k e in
        subst (λ (t : Bool). P j (cond t g (holds j))) (sym e)
        (subst (λ (m : ℕ). P m g) (sym same) (f (subst (λ (m : ℕ). P m (holds m)) same w)))

noted_here : (P : Holding → Type 0) (k : ℕ) (g : Holding) (holds : ℕ → Holding) → P g → P (noting k g holds k)
noted_here P k g holds w = subst (λ (t : Bool). P (cond t g (holds k))) (sym (same k)) w
  where
    same : (n : ℕ) → eqb n n ≡ true
    same n = eq-eqb n n refl

-- ---- a request that reaches the store

module _ (d : ℕ) (y : OneDesk) (w : Kept d y) (s : Sent) where
  abbrev c : Command
  c = command_in s

  abbrev a : Answer
  a = (outcome y s).answer

  abbrev rs : List LogRecord
  rs = records y.log

  abbrev old : Card
  old = at w.cs c.card

  -- An answer with an entry is one to a well-formed command.
  known_formed : not (shows_none a.number) ≡ true → formed V1 s.command ≡ true
  known_formed e = go (cases (formed V1 s.command))
    where
      malformed : formed V1 s.command ≡ false → number_on V1 w.cs s ≡ 1
      malformed f = rw f

      go : (formed V1 s.command ≡ true) ⊎ (formed V1 s.command ≡ false) → formed V1 s.command ≡ true
      go (inl f) = f
      go (inr f) = absurd (never_both e (ap (λ (n : ℕ). not (shows_none n)) (number_now d y w s ∙ malformed f)))

  -- It shows the mark that the card then bears.
  shows_mark : formed V1 s.command ≡ true → a.mark.desk ≡ (at (then w.cs s) c.card).mark.desk
  shows_mark f = ap (λ (q : Outcome). q.answer.mark.desk) (outcome_is d y w s) ∙ ap (λ (m : Mark). m.desk) (shown_mark w.cs s w.good f)

  -- The card stays marked unless an accepted command takes the mark off.
  still_bears : (number_on V1 w.cs s ≡ 0 → ⊥) → bears d old ≡ true → bears d (at (then w.cs s) c.card) ≡ true
  still_bears n b = go (number_on V1 w.cs s) refl
    where
      go : (m : ℕ) → number_on V1 w.cs s ≡ m → bears d (at (then w.cs s) c.card) ≡ true
      go zero z = absurd (n z)
      go (suc m) e = subst (λ (q : Cards). bears d (at q c.card) ≡ true) (sym (kept w.cs s w.good m e)) b

  -- A card that is held stays so where the request is refused.
  held_heard : (is_held (y.holds c.card) ≡ true → number_on V1 w.cs s ≡ 0 → ⊥) → is_held (y.holds c.card) ≡ true → is_held (heard_of d s a (y.holds c.card)) ≡ true
  held_heard n e =
      heard_by (λ (g : Holding). is_held g ≡ true) d s a (y.holds c.card)
      (λ f m.
      absurd
      (never_both
      (still_bears (n e) (held_of d rs y.orders y.shown c.card old (y.holds c.card) e (w.knows c.card)).bearing)
      (mark_shown d y w s f m)))
      (λ p z. refl)
      e

  free_heard : (prepares d c ≡ true → number_on V1 w.cs s ≡ 0 → Clear rs c.card) → Freely rs c.card (y.holds c.card) → Freely rs c.card (heard_of d s a (y.holds c.card))
  free_heard p v = heard_by (Freely rs c.card) d s a (y.holds c.card) (λ f m. inl refl) (λ q z. inr (p q (sym (number_now d y w s) ∙ z))) v

  -- What is seen by the answer itself.
  free_told : not (shows_none a.number) ≡ true → eqb a.mark.desk d ≡ false → is_free (heard_of d s a (y.holds c.card)) ≡ true
  free_told k m = rw (known_formed k, m)

  held_told : prepares d c ≡ true → a.number ≡ 0 → is_held (heard_of d s a (y.holds c.card)) ≡ true
  held_told p z =
      let t = taken w.cs s w.good (sym (number_now d y w s) ∙ z) in
      let own : eqb c.next.desk d ≡ true = and_right (not (is_write c) && eqb c.expected.desk 0) (leaves_mark d c) p in
      let mark : eqb a.mark.desk d ≡ true = subst (λ (m : ℕ). eqb m d ≡ true) (sym (shows_mark t.well_formed ∙ ap (λ (m : Mark). m.desk) t.mark)) own in
      rw (t.well_formed, mark, p, z)

-- ---- a request of somebody else

module _ (d : ℕ) (y : OneDesk) (w : Kept d y) (s : Sent) (h : lawful d y (other s) ≡ true) where
  unnamed : formed V1 s.command ≡ true → (expects_mark d (command_in s) ≡ false) × (leaves_mark d (command_in s) ≡ false)
  unnamed f =
      let both = if_so (formed V1 s.command) h f in (
        not-true (expects_mark d (command_in s)) (and_left (not (expects_mark d (command_in s))) (not (leaves_mark d (command_in s))) both),
        not-true (leaves_mark d (command_in s)) (and_right (not (expects_mark d (command_in s))) (not (leaves_mark d (command_in s))) both),
      )

  refused_held : is_held (y.holds (command_in s).card) ≡ true → number_on V1 w.cs s ≡ 0 → ⊥
  refused_held e z =
      let t = taken w.cs s w.good z in
      let bearing = (held_of d (records y.log) y.orders y.shown (command_in s).card (at w.cs (command_in s).card) (y.holds (command_in s).card) e
      (w.knows (command_in s).card)).bearing in
      never_both (subst (λ (m : ℕ). eqb m d ≡ true) (sym t.fits) bearing) (unnamed t.well_formed).0

  no_prepare : prepares d (command_in s) ≡ true → number_on V1 w.cs s ≡ 0 → Clear (records y.log) (command_in s).card
  no_prepare p z =
      let t = taken w.cs s w.good z in
      absurd (never_both (and_right (not (is_write (command_in s)) && eqb (command_in s).expected.desk 0) (leaves_mark d (command_in s)) p) (unnamed t.well_formed).1)

  pub sees_other : (j : ℕ) (v : LastSeen) → Sees d y j v → Sees d (after_step d y (other s)) j v
  unfolding after_step
  sees_other j v q =
      record {
        holding = λ e. noted_by (λ (i : ℕ) (g : Holding). is_held g ≡ true) (command_in s).card j (heard_of d s (outcome y s).answer (y.holds (command_in s).card))
            y.holds (held_heard d y w s refused_held) (q.holding e);
        freely = λ e. noted_by (Freely (records y.log)) (command_in s).card j (heard_of d s (outcome y s).answer (y.holds (command_in s).card))
            y.holds (free_heard d y w s no_prepare) (q.freely e);
      }

  pub looks_new : not (shows_none (outcome y s).answer.number) ≡ true
      → Sees d (after_step d y (other s)) (command_in s).card (seen_upon look_step 0 (outcome y s).answer.number (outcome y s).answer.mark.desk)
  unfolding after_step
  looks_new k =
      record {
        holding = λ e. absurd (never_both refl (sym e));
        freely = λ e. inl (noted_here (λ (g : Holding). is_free g ≡ true) (command_in s).card (heard_of d s (outcome y s).answer (y.holds (command_in s).card))
            y.holds (free_told d y w s k e));
      }

-- ---- an order that arrives

module _ (d : ℕ) (y : OneDesk) (w : Kept d y) (i : ℕ) (h : lawful d y (arrive i) ≡ true) where
  abbrev o : Order
  o = get_or y.orders i no_order

  abbrev so : Sent
  so = o.sent

  inside : i < length y.orders
  inside = ltb-true i (length y.orders) h

  safe : Safe d (records y.log) (card_for o) (at w.cs (card_for o)) o
  safe = all_at (λ (q : Order). Safe d (records y.log) (card_for q) (at w.cs (card_for q)) q) y.orders i no_order inside w.sent

  stale_held : is_held (y.holds (card_for o)) ≡ true → number_on V1 w.cs so ≡ 0 → ⊥
  stale_held e z =
      let t = taken w.cs so w.good z in
      let u = held_of d (records y.log) y.orders y.shown (card_for o) (at w.cs (card_for o)) (y.holds (card_for o)) e (w.knows (card_for o)) in
      absurd (omega (arith, t.fresh, all_at (λ (q : Order). card_for q ≡ card_for o → relies q < (at w.cs (card_for o)).pair.x) y.orders i no_order inside u.stale refl))

  -- A prepare is accepted only where nothing is due.
  clear_prepare : prepares d (command_in so) ≡ true → number_on V1 w.cs so ≡ 0 → Clear (records y.log) (card_for o)
  clear_prepare p z = go safe.fine
    where
      t : Taken w.cs so
      t = taken w.cs so w.good z

      front : (not (is_write (command_in so)) && eqb (command_in so).expected.desk 0) ≡ true
      front = and_left (not (is_write (command_in so)) && eqb (command_in so).expected.desk 0) (leaves_mark d (command_in so)) p

      none : (command_in so).expected.desk ≡ 0
      none = eqb-true (command_in so).expected.desk 0 (and_right (not (is_write (command_in so))) (eqb (command_in so).expected.desk 0) front)

      go : Fine d (records y.log) (card_for o) (at w.cs (card_for o)) o → Clear (records y.log) (card_for o)
      go (preparing q f) = pick (f t.fresh)
        where
          pick : (bears d (at w.cs (card_for o)) ≡ true) ⊎ Clear (records y.log) (card_for o) → Clear (records y.log) (card_for o)
          pick (inr u) = u
          pick (inl b) = absurd (w.some (sym (eqb-true (at w.cs (card_for o)).mark.desk d b) ∙ sym t.fits ∙ none))
      go (releasing q f) =
          absurd (w.some (sym (eqb-true (command_in so).expected.desk d (and_right (not (is_write (command_in so))) (expects_mark d (command_in so))
          (and_left (not (is_write (command_in so)) && expects_mark d (command_in so)) (eqb (command_in so).next.desk 0) q))) ∙ none))
      go (writing q f) =
          absurd
          (never_both (and_left (is_write (command_in so)) (expects_mark d (command_in so)) (and_left (is_write (command_in so) && expects_mark d (command_in so)) (leaves_mark d (command_in so)) q))
          (not-true (is_write (command_in so)) (and_left (not (is_write (command_in so))) (eqb (command_in so).expected.desk 0) front)))

  pub sees_arrive : (j : ℕ) (v : LastSeen) → Sees d y j v → Sees d (after_step d y (arrive i)) j v
  unfolding after_step
  sees_arrive j v q =
      record {
        holding = λ e. noted_by (λ (n : ℕ) (g : Holding). is_held g ≡ true) (card_for o) j (heard_of d so (outcome y so).answer (y.holds (card_for o)))
            y.holds (held_heard d y w so stale_held) (q.holding e);
        freely = λ e. noted_by (Freely (records y.log)) (card_for o) j (heard_of d so (outcome y so).answer (y.holds (card_for o)))
            y.holds (free_heard d y w so clear_prepare) (q.freely e);
      }

  pub arrives_new : not (shows_none (outcome y so).answer.number) ≡ true
      → Sees d (after_step d y (arrive i)) (card_for o) (seen_upon (step_of d so) o.line (outcome y so).answer.number (outcome y so).answer.mark.desk)
  unfolding after_step
  arrives_new k =
      record {
        holding = λ e. noted_here (λ (g : Holding). is_held g ≡ true) (card_for o) (heard_of d so (outcome y so).answer (y.holds (card_for o))) y.holds
            (held_told d y w so (is_prepare (and_left (eqb (step_of d so) prepare_step) (eqb (outcome y so).answer.number 0) e))
            (eqb-true (outcome y so).answer.number 0 (and_right (eqb (step_of d so) prepare_step) (eqb (outcome y so).answer.number 0) e)));
        freely = λ e. inl (noted_here (λ (g : Holding). is_free g ≡ true) (card_for o) (heard_of d so (outcome y so).answer (y.holds (card_for o))) y.holds (free_told d y w so k e));
      }
    where
      is_prepare : eqb (step_of d so) prepare_step ≡ true → prepares d (command_in so) ≡ true
      is_prepare e = go (prepares d (command_in so)) (is_write (command_in so)) e
        where
          go : (p q : Bool) → eqb (cond p 2 (cond q 4 5)) 2 ≡ true → p ≡ true
          go true q e = refl
          go false true e = e
          go false false e = e

-- ---- an order that is sent, for another card

pub sees_order : (d : ℕ) (y : OneDesk) (s : Sent) (line from j : ℕ) (v : LastSeen) → eqb j (command_in s).card ≡ false → Sees d y j v → Sees d (after_step d y (order s line from)) j v
unfolding after_step
sees_order d y s line from j v e q =
    record {
      holding = λ f. subst (λ (t : Bool). is_held (cond t unknown (y.holds j)) ≡ true) (sym e) (q.holding f);
      freely = λ f. subst (λ (t : Bool). Freely (records y.log) j (cond t unknown (y.holds j))) (sym e) (q.freely f);
    }

-- ---- a record that is appended

module _ (d : ℕ) (y : OneDesk) (w : Kept d y) (budget : ℕ) (r : LogRecord) (b : StepBytes (append budget r)) (h : lawful d y (append budget r) ≡ true) where
  abbrev lines : List LogRecord
  lines = records y.log

  pub sees_append : (j : ℕ) (v : LastSeen)
      → (eqb v.mark d ≡ false → eqb r.kind commit_kind ≡ true → (i : ℕ) → i < length lines → update_in lines (record_transaction r) i ≡ true → eqb (record_card (record_in lines i)) j ≡ false)
      → Sees d y j v
      → Sees d (after_step d y (append budget r)) j v
  unfolding after_step
  sees_append j v away q = record { holding = q.holding; freely = λ e. go (append_number budget y.log r) refl e (q.freely e) }
    where
      fewer : append_number budget y.log r ≡ 0 → eqb v.mark d ≡ false → (eqb r.kind commit_kind ≡ true) ⊎ (eqb r.kind commit_kind ≡ false) → Clear lines j → Clear (more lines r) j
      fewer z e (inl c) u l i = same_commit lines r w.ordered (follow d y w budget r b h z) c l j (away e c) i ∙ u l i
      fewer z e (inr c) u l i = no_more lines r w.ordered (follow d y w budget r b h z) l j c i (u l i)

      go : (n : ℕ) → append_number budget y.log r ≡ n → eqb v.mark d ≡ false → Freely lines j (y.holds j) → Freely (records (after_step d y (append budget r)).log) j (y.holds j)
      go n z e (inl f) = inl f
      go zero z e (inr u) = inr (subst (λ (l : List LogRecord). Clear l j) (sym ((appends budget y.log r).whole z).1) (fewer z e (cases (eqb r.kind commit_kind)) u))
      go (suc n) z e (inr u) = inr (subst (λ (l : List LogRecord). Clear l j) (sym (uncounted d y w budget r b h n z).1) u)

-- ---- a log that begins again

pub sees_renew : (d : ℕ) (y : OneDesk) → Kept d y → (j : ℕ) (v : LastSeen) → Sees d y j v → Sees d (after_step d y renew) j v
unfolding after_step
sees_renew d y w j v q =
    record {
      holding = q.holding;
      freely = λ e. inr (λ l i. subst (λ (rs : List LogRecord). rewrites rs l j i ≡ false) (sym (renews y.log w.good_log_lem).empty) (past_none [] j l i (omega arith)));
    }
