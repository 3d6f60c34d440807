-- The store with marks and a log is a store in which a commit is one step. Assumes nothing.
use Prim.Native.Nat.{ℕ, zero, suc, ◌≤◌, ◌<◌}
use native.Mathlib.Omega.{arith}
use mathlib.Core.Path.{◌≡◌, refl, sym, ap, ◌∙◌, subst}
use mathlib.Core.Logic.{◌⊎◌, inl, inr}
use mathlib.Core.List.{List, [], ◌∷◌}
use mathlib.Core.Bool.{Bool, true, false, cond, ◌&&◌, and-false}
use borrow.Author.Tests.{eqb-false, eq-eqb, ne_eqb, le-leb, lt-ltb, ltb-true}
use lib.ListN.{length, get_or, take, replicate, length-replicate}
use lib.Dec.{eqb, lit<}
use Rattle.formats.specs.Format.{V1}
use Rattle.lists.specs.Parts.{Bytes, every, tabulate}
use Rattle.lists.proofs.Bytes.{Bytes_replicate}
use Rattle.lists.proofs.Tests.{cases, never_both, and_left, and_right, from_T, to_T}
use Rattle.lists.specs.Runs.{foldl, every_along}
use Rattle.commands.specs.Command.{Language, is_write}
use Rattle.commands.specs.Bytes.{payload}
use Rattle.image.specs.Image.{Cards, text, no_card, encode, decode, sound, fresh, fresh_cards}
use Rattle.image_claims.proofs.Claims.{sound_reads_back, good_encodes, fresh_sound}
use Rattle.store_model.specs.Serve.{Outcome, serve}
use Rattle.store_model.proofs.Machine.{number_on}
use Rattle.store_model.specs.Words.{Sent}
use Rattle.redo_log.specs.Log.{LogRecord, bodies_from, most_log, commit_kind, record_transaction, record_count, good_log, records}
use Rattle.redo_log.specs.Append.{append_number}
use Rattle.redo_recovery_model.specs.Claims.{text_in, rewritten, text_of}
use Rattle.redo_recovery_model.proofs.Texts.{recovered_texts}
use Rattle.transactions.specs.System.{
  OneDesk,
  Order,
  no_order,
  Step,
  other,
  order,
  arrive,
  append,
  crash,
  recover,
  renew,
  one_desk_opening,
  command_in,
  mark_in,
  written_out,
  with_updates,
  lawful,
  outcome,
  meant_after,
  meant_logged,
  after_step,
  after_steps,
  lawful_all,
}
use Rattle.transactions.specs.Claims.{StepBytes, AllSteps, FreshClean, ZerosBlank, Moment, Refines, RecoversMeant, CommitsAtOnce, MeantOnlyThen, ShowsAll, ReadsMeant, OrdersOnce, NeverHalf}
use Rattle.transactions.proofs.Records.{Ordered, ordered_none}
use Rattle.transactions.proofs.Due.{rewritten_none}
use Rattle.transactions.proofs.Serving.{at, then, taken, number_is, shown_text}
use Rattle.transactions.proofs.Kept.{bears, card_for, relies, Safe, Kept, decoded, all_at}
use Rattle.transactions.proofs.Requests.{no_writes, outcome_is, number_now, image_now, good_now, kept_other, kept_crash}
use Rattle.transactions.proofs.Orders.{out_clear, kept_order}
use Rattle.transactions.proofs.Arrivals.{all_stale, kept_arrive}
use Rattle.transactions.proofs.Logged.{kept_append}
use Rattle.transactions.proofs.Rewriting.{kept_recover}
use Rattle.transactions.proofs.Renewing.{kept_renew}

-- ---- the beginning, and a run

pub kept_opening : (d : ℕ) (y : OneDesk) (r : Moment d y) → Kept d (one_desk_opening r.image r.log)
kept_opening d y r =
    let back = sound_reads_back V1 r.image r.store.bytes (to_T r.store.sounds) in
    record {
      some = λ e. eqb-false 0 d r.store.nobody (sym e);
      cs = decode V1 r.image;
      image_is = sym back.same;
      good = back.good;
      good_log_lem = r.blank.good;
      log_bytes = r.blank.bytes;
      ordered = subst Ordered (sym r.blank.empty) ordered_none;
      texts = λ k. record { plain = λ b l. refl; marked = λ b l. absurd (never_both b (r.store.unmarked k)) };
      sent = tt;
      told = tt;
      knows = λ k. tt;
    }

pub kept_next : (d : ℕ) (y : OneDesk) (m : Step) → Kept d y → StepBytes m → lawful d y m ≡ true → Kept d (after_step d y m)
kept_next d y (other s) k b h = kept_other d y k s b h
kept_next d y (order s line from) k b h = kept_order d y k s line from b h
kept_next d y (arrive i) k b h = kept_arrive d y k i h
kept_next d y (append budget r) k b h = kept_append d y k budget r b h
kept_next d y crash k b h = kept_crash d y k
kept_next d y (recover pairs lines) k b h = kept_recover d y k pairs lines b h
kept_next d y renew k b h = kept_renew d y k h

kept_run : (d : ℕ) (y : OneDesk) (steps : List Step) → Kept d y → AllSteps steps → lawful_all d y steps ≡ true → Kept d (after_steps d y steps)
unfolding foldl every_along
kept_run d y [] k b h = k
kept_run d y (m ∷ steps) k b h =
    kept_run d (after_step d y m) steps
    (kept_next d y m k b.0 (and_left (lawful d y m) (lawful_all d (after_step d y m) steps) h))
    b.1
    (and_right (lawful d y m) (lawful_all d (after_step d y m) steps) h)

pub kept_always : (d : ℕ) (y : OneDesk) → Moment d y → Kept d y
kept_always d y r = subst (Kept d) r.led (kept_run d (one_desk_opening r.image r.log) r.steps (kept_opening d y r) r.sent r.rules)

-- ---- what is claimed of a moment

first_line_lem : (rs : List LogRecord) (l : Language) (j : ℕ) (s : List ℕ) → rewritten rs l j 0 s ≡ s
unfolding rewritten
first_line_lem rs l j s = refl

pub refines : (d : ℕ) (y : OneDesk) → Kept d y → Refines d y
refines d y k =
    let same = decoded d y k in
    record {
      sounds = ap (sound V1) k.image_is ∙ from_T (sound V1 (encode V1 k.cs)) (good_encodes V1 k.cs k.good).sounds;
      good = k.good_log_lem;
      plain = λ j l b. ap (λ (cs : Cards). text l (at cs j)) same ∙ (k.texts j).plain (subst (λ (cs : Cards). bears d (at cs j) ≡ false) same b) l;
      marked = λ j l b.
          subst (λ (cs : Cards). Rewrites l j cs ≡ y.meant j l) (sym same) ((k.texts j).marked (subst (λ (cs : Cards). bears d (at cs j) ≡ true) same b) l);
    }
  where
    Rewrites : Language → ℕ → Cards → List ℕ
    Rewrites l j cs = rewritten (records y.log) l j (length (records y.log)) (text l (at cs j))

shows : (d : ℕ) (y : OneDesk) → Kept d y → ShowsAll d y y.meant
shows d y k s l z r e =
    let zero-now = sym (number_now d y k s) ∙ z in
    let t = taken k.cs s k.good zero-now in
    let unborne : bears d (at k.cs (command_in s).card) ≡ false = subst (λ (m : ℕ). eqb m d ≡ false) t.fits e in
    ap (λ (o : Outcome). take o.answer.length o.reply) (outcome_is d y k s)
    ∙ shown_text k.cs s k.good l zero-now r
    ∙ (k.texts (command_in s).card).plain unborne l

-- ---- the beginning

unmarked_fresh : (n k : ℕ) → (get_or (replicate n (no_card V1)) k (no_card V1)).mark.desk ≡ 0
unmarked_fresh zero k = refl
unmarked_fresh (suc n) zero = refl
unmarked_fresh (suc n) (suc k) = unmarked_fresh n k

pub fresh_clean : FreshClean
unfolding fresh_cards
fresh_clean ruled z n c t =
    let f = fresh_sound V1 n c t in
    let e = good_encodes V1 (fresh_cards V1 n c) f.good in
    let back : decode V1 (fresh V1 n c) ≡ fresh_cards V1 n c = ap (decode V1) (sym f.cards) ∙ e.same in
    record {
      nobody = z;
      sounds = from_T (sound V1 (fresh V1 n c)) f.sounds;
      bytes = subst Bytes f.cards e.bytes;
      unmarked = λ k. subst (λ (m : Cards). ruled (at m k).mark.desk ≡ false) (sym back) (subst (λ (i : ℕ). ruled i ≡ false) (sym (unmarked_fresh n k)) z);
    }

none_counted : (size : ℕ) → record_count (replicate size 0) ≡ 0
none_counted zero = refl
none_counted (suc size) = refl

pub zeros_blank : ZerosBlank
unfolding good_log records every tabulate
zeros_blank size low high =
    let zeros : List ℕ = replicate size 0 in
    let long : length zeros ≡ size = length-replicate size 0 in
    record {
      bytes = Bytes_replicate size (lit< tt);
      good = rw (none_counted size, long, le-leb bodies_from size low, le-leb size most_log high);
      empty = rw (none_counted size);
    }

-- ---- an order is accepted at most once

once : (d : ℕ) (y : OneDesk) (k : Kept d y) (i j : ℕ) (h : lawful d y (arrive i) ≡ true) → j < length y.orders
    → (command_in (get_or y.orders j no_order).sent).card ≡ (command_in (get_or y.orders i no_order).sent).card
    → (outcome y (get_or y.orders i no_order).sent).answer.number ≡ 0
    → (serve V1 (outcome y (get_or y.orders i no_order).sent).image (get_or y.orders j no_order).sent.command (get_or y.orders j no_order).sent.lent).answer.number ≡ 0 → ⊥
once d y k i j h l same z again =
    let s : Sent = (get_or y.orders i no_order).sent in
    let t : Sent = (get_or y.orders j no_order).sent in
    let zero-now : number_on V1 k.cs s ≡ 0 = sym (number_now d y k s) ∙ z in
    let inside : i < length y.orders = ltb-true i (length y.orders) h in
    let bytes = (all_at (λ (o : Order). Safe d (records y.log) (card_for o) (at k.cs (card_for o)) o) y.orders i no_order inside k.sent).bytes in
    let good = good_now d y k s bytes in
    let number : number_on V1 (then k.cs s) t ≡ 0 =
    sym (number_is (then k.cs s) t good) ∙ ap (λ (m : List ℕ). (serve V1 m t.command t.lent).answer.number) (sym (image_now d y k s)) ∙ again in
    let fresh-then = (taken (then k.cs s) t good number).fresh in
    let old = all_at (λ (o : Order). card_for o ≡ (command_in s).card → relies o < (at (then k.cs s) (command_in s).card).pair.x) y.orders j no_order l (all_stale d y k i h zero-now) same in
    let here : (at (then k.cs s) (command_in s).card).pair.x ≤ relies (get_or y.orders j no_order) =
    subst (λ (n : ℕ). (at (then k.cs s) n).pair.x ≤ relies (get_or y.orders j no_order)) same fresh-then in
    absurd (omega (arith, old, here))

pub orders_once : OrdersOnce
unfolding after_step
orders_once d y i j m hi hj same z again = once d y (kept_always d y m) i j (lt-ltb i (length y.orders) hi) hj same z again

-- ---- recovery

pub recovers_meant : RecoversMeant
recovers_meant d y r pairs fp clear z j l =
    let k = kept_always d y r in
    let w = refines d y k in
    let ib : Bytes y.image = subst Bytes (sym k.image_is) (good_encodes V1 k.cs k.good).bytes in
    recovered_texts pairs y.log y.image fp k.log_bytes ib z l j ∙ go y w clear (cases (eqb (mark_in y.image j).desk d))
  where
    go : (y : OneDesk) → Refines d y → ((i : ℕ) → eqb (mark_in y.image i).desk d ≡ false → written_out (records y.log) i 0 (length (records y.log)) ≡ true)
        → (eqb (mark_in y.image j).desk d ≡ true) ⊎ (eqb (mark_in y.image j).desk d ≡ false)
        → text_of (records y.log) l j (text_in y.image l j) ≡ y.meant j l
    go y w clear (inl e) = w.marked j l e
    go y w clear (inr e) =
        rewritten_none (records y.log) l j 0 (length (records y.log)) (text_in y.image l j) (omega arith) (λ i a b. out_clear (records y.log) j (clear j e) l i)
        ∙ first_line_lem (records y.log) l j (text_in y.image l j)
        ∙ w.plain j l e

-- ---- the claims

pub commits_at_once : CommitsAtOnce
commits_at_once d y r = refines d y (kept_always d y r)

pub reads_meant : ReadsMeant
reads_meant d y r = shows d y (kept_always d y r)

module _ (y : OneDesk) (k : ℕ) (l : Language) where
  after_refusal : (s : Sent) (n : ℕ) → (outcome y s).answer.number ≡ suc n → meant_after (outcome y s).answer.number s y.meant k l ≡ y.meant k l
  after_refusal s n e = rw (ne_eqb (outcome y s).answer.number 0 (λ z. omega arith))

  after_read : (s : Sent) → is_write (command_in s) ≡ false → meant_after (outcome y s).answer.number s y.meant k l ≡ y.meant k l
  after_read s e =
      ap (λ (b : Bool). cond (eqb (outcome y s).answer.number 0 && eqb (command_in s).card k && b) (payload V1 s.command) (y.meant k l)) (no_writes (command_in s) e l)
      ∙ ap (λ (b : Bool). cond b (payload V1 s.command) (y.meant k l)) (and-false (eqb (outcome y s).answer.number 0 && eqb (command_in s).card k))

  module _ (budget : ℕ) (r : LogRecord) where
    abbrev number : ℕ
    number = append_number budget y.log r

    after_cut : (n : ℕ) → number ≡ suc n → meant_logged number (records y.log) r y.meant k l ≡ y.meant k l
    after_cut n e = rw (ne_eqb number 0 (λ z. omega arith))

    after_other : eqb r.kind commit_kind ≡ false → meant_logged number (records y.log) r y.meant k l ≡ y.meant k l
    after_other e =
        ap (λ (b : Bool). cond (eqb number 0 && b) (with_updates (records y.log) (record_transaction r) l k (length (records y.log)) (y.meant k l)) (y.meant k l)) e
        ∙ ap (λ (b : Bool). cond b (with_updates (records y.log) (record_transaction r) l k (length (records y.log)) (y.meant k l)) (y.meant k l)) (and-false (eqb number 0))

    after_commit : (d : ℕ) → number ≡ 0 → eqb r.kind commit_kind ≡ true
        → (after_step d y (append budget r)).meant k l ≡ with_updates (records y.log) (record_transaction r) l k (length (records y.log)) (y.meant k l)
    unfolding after_step
    after_commit d z c =
        ap (λ (b : Bool). cond (b && eqb r.kind commit_kind) (with_updates (records y.log) (record_transaction r) l k (length (records y.log)) (y.meant k l)) (y.meant k l)) (eq-eqb number 0 z)
        ∙ ap (λ (b : Bool). cond b (with_updates (records y.log) (record_transaction r) l k (length (records y.log)) (y.meant k l)) (y.meant k l)) c

pub meant_only_then : MeantOnlyThen
unfolding after_step
meant_only_then d y =
    record {
      refused = λ s n e i k l. after_refusal y k l s n e i;
      unwritten = λ s e i k l. after_read y k l s e i;
      ordered = λ s line from. refl;
      arrived = λ i. refl;
      uncounted = λ budget r n e i k l. after_cut y k l budget r n e i;
      uncommitted = λ budget r e i k l. after_other y k l budget r e i;
      crashed = refl;
      recovered = λ pairs lines. refl;
      renews = refl;
    }

pub never_half : NeverHalf
unfolding foldl every_along
never_half d y budget r later m z c rules bytes quiet =
    let k = kept_always d y m in
    let now = kept_next d y (append budget r) k bytes.0 (and_left (lawful d y (append budget r)) (lawful_all d (after_step d y (append budget r)) later) rules) in
    let then = kept_run d (after_step d y (append budget r)) later now bytes.1 (and_right (lawful d y (append budget r)) (lawful_all d (after_step d y (append budget r)) later) rules) in (
      shows d y k,
      λ s l e q f.
          shows d (after_steps d (after_step d y (append budget r)) later) then s l e q f
          ∙ ap (λ (m : ℕ → Language → List ℕ). m (command_in s).card l) quiet
          ∙ after_commit y (command_in s).card l budget r d z c,
    )
