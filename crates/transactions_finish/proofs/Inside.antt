-- Of a card that is not in the image nothing is due: a commit is made where its cards are held, and those are there. Assumes
-- nothing.
use Prim.Native.Nat.{ℕ, zero, suc, ◌≤◌}
use native.Mathlib.Omega.{arith}
use mathlib.Core.Path.{◌≡◌, refl, sym, ap, ◌∙◌, subst}
use mathlib.Core.Logic.{◌⊎◌, inl, inr}
use mathlib.Core.List.{List, [], ◌∷◌}
use mathlib.Core.Bool.{true, false}
use borrow.Author.Tests.{eqb-true, ltb-true, leb-true}
use lib.ListN.{length, get_or, get_or-eq_default}
use lib.Dec.{eqb, leb}
use Rattle.formats.specs.Format.{V1}
use Rattle.lists.specs.Parts.{every}
use Rattle.lists.proofs.Tests.{cases, and_left, and_right}
use Rattle.lists.specs.Runs.{foldl, every_along}
use Rattle.image.specs.Image.{Card, Cards, no_card, encode, decode}
use Rattle.store_model.specs.Words.{Sent}
use Rattle.store_model.specs.Claims.{SentBytes}
use Rattle.store_model.proofs.Machine.{number_on, cards_from, count_kept}
use Rattle.redo_log.specs.Log.{LogRecord, commit_kind, records}
use Rattle.redo_log.specs.Append.{append_number}
use Rattle.redo_log_claims.proofs.Claims.{appends}
use Rattle.redo_log_claims.proofs.Life.{renews}
use Rattle.redo_recovery_model.specs.Recovery.{Pairs, FitsPairs, recovering}
use Rattle.redo_recovery_model.specs.Claims.{rewrites}
use Rattle.redo_recovery_model.proofs.Steps.{R}
use Rattle.redo_recovery_model.proofs.Sending.{fits_log}
use Rattle.redo_recovery_model.proofs.Texts.{decode_is}
use Rattle.transactions.specs.System.{
  OneDesk,
  Order,
  Step,
  other,
  order,
  arrive,
  append,
  crash,
  recover,
  renew,
  no_order,
  one_desk_opening,
  is_held,
  rewritable,
  lawful,
  outcome,
  after_step,
  after_steps,
  lawful_all,
}
use Rattle.transactions.specs.Claims.{StepBytes, AllSteps, Moment}
use Rattle.transactions.proofs.Records.{more}
use Rattle.transactions.proofs.Due.{no_more, same_commit}
use Rattle.transactions.proofs.Serving.{at}
use Rattle.transactions.proofs.Kept.{bears, Clear, card_for, Safe, Kept, decoded, all_at}
use Rattle.transactions.proofs.Orders.{past_none}
use Rattle.transactions.proofs.Logged.{held_of, follow, apart, uncounted}
use Rattle.transactions.proofs.Claims.{kept_opening, kept_next}
use Rattle.transactions_finish.proofs.Requests.{good_cards, cards_on, count_then}

abbrev pub Bare : OneDesk → Type 0
Bare y = (k : ℕ) → length (decode V1 y.image).cards ≤ k → Clear (records y.log) k

count_from : (cs : Cards) (sent : List Sent) → length (cards_from V1 cs sent).cards ≡ length cs.cards
unfolding cards_from
count_from cs [] = refl
count_from cs (s ∷ earlier) = count_kept V1 (number_on V1 (cards_from V1 cs earlier) s) (cards_from V1 cs earlier) s ∙ count_from cs earlier

module _ (d : ℕ) (y : OneDesk) (w : Kept d y) (q : Bare y) where
  abbrev rs : List LogRecord
  rs = records y.log

  abbrev many : ℕ
  many = length (decode V1 y.image).cards

  same_count : (s : Sent) → SentBytes s → length (decode V1 (outcome y s).image).cards ≡ many
  same_count s b = ap (λ (m : Cards). length m.cards) (cards_on d y w s b) ∙ count_then (decode V1 y.image) (good_cards d y w) s

  bare_other : (s : Sent) → SentBytes s → Bare (after_step d y (other s))
  unfolding after_step
  bare_other s b k h = q k (subst (λ (n : ℕ). n ≤ k) (same_count s b) h)

  bare_arrive : (i : ℕ) → lawful d y (arrive i) ≡ true → Bare (after_step d y (arrive i))
  unfolding after_step
  bare_arrive i e k h =
      let b : SentBytes (get_or y.orders i no_order).sent =
      (all_at (λ (o : Order). Safe d rs (card_for o) (at w.cs (card_for o)) o) y.orders i no_order (ltb-true i (length y.orders) e) w.sent).bytes in
      q k (subst (λ (n : ℕ). n ≤ k) (same_count (get_or y.orders i no_order).sent b) h)

  not_held : (k : ℕ) → many ≤ k → is_held (y.holds k) ≡ false
  not_held k h = go (cases (is_held (y.holds k)))
    where
      away : at w.cs k ≡ no_card V1
      away = get_or-eq_default w.cs.cards (no_card V1) {n = k} (subst (λ (m : Cards). length m.cards ≤ k) (decoded d y w) h)

      go : (is_held (y.holds k) ≡ true) ⊎ (is_held (y.holds k) ≡ false) → is_held (y.holds k) ≡ false
      go (inr e) = e
      go (inl e) =
          let b : bears d (at w.cs k) ≡ true = (held_of d rs y.orders y.shown k (at w.cs k) (y.holds k) e (w.knows k)).bearing in
          absurd (w.some (sym (eqb-true 0 d (subst (λ (c : Card). bears d c ≡ true) away b))))

  bare_append : (budget : ℕ) (r : LogRecord) → StepBytes (append budget r) → lawful d y (append budget r) ≡ true → Bare (after_step d y (append budget r))
  unfolding after_step
  bare_append budget r b e k h = go (append_number budget y.log r) refl
    where
      fewer : append_number budget y.log r ≡ 0 → (eqb r.kind commit_kind ≡ true) ⊎ (eqb r.kind commit_kind ≡ false) → Clear (more rs r) k
      fewer z (inl c) l i = same_commit rs r w.ordered (follow d y w budget r b e z) c l k (apart d y w budget r b e z k c (not_held k h)) i ∙ q k h l i
      fewer z (inr c) l i = no_more rs r w.ordered (follow d y w budget r b e z) l k c i (q k h l i)

      go : (n : ℕ) → append_number budget y.log r ≡ n → Clear (records (after_step d y (append budget r)).log) k
      go zero z = subst (λ (l : List LogRecord). Clear l k) (sym ((appends budget y.log r).whole z).1) (fewer z (cases (eqb r.kind commit_kind)))
      go (suc n) z = subst (λ (l : List LogRecord). Clear l k) (sym (uncounted d y w budget r b e n z).1) (q k h)

  bare_recover : (pairs : Pairs) (lines : ℕ) → FitsPairs pairs → lawful d y (recover pairs lines) ≡ true → Bare (after_step d y (recover pairs lines))
  unfolding after_step
  bare_recover pairs lines fp e k h =
      let upto : lines ≤ length rs = leb-true lines (length rs) (and_left (leb lines (length rs)) (every (rewritable d y.image rs pairs) (length rs)) e) in
      let ran : length (decode V1 (R pairs rs (encode V1 w.cs) lines).image).cards ≡ length w.cs.cards =
      ap (λ (m : Cards). length m.cards) (decode_is pairs rs w.cs w.good fp (fits_log y.log w.log_bytes w.good_log_lem) lines upto)
      ∙ count_from w.cs (R pairs rs (encode V1 w.cs) lines).sent in
      let now : length (decode V1 (recovering pairs rs y.image lines).image).cards ≡ many =
      ap (λ (i : List ℕ). length (decode V1 (recovering pairs rs i lines).image).cards) w.image_is ∙ ran ∙ ap (λ (m : Cards). length m.cards) (sym (decoded d y w)) in
      q k (subst (λ (n : ℕ). n ≤ k) now h)

  bare_renew : Bare (after_step d y renew)
  unfolding after_step
  bare_renew k h l i = subst (λ (r : List LogRecord). rewrites r l k i ≡ false) (sym (renews y.log w.good_log_lem).empty) (past_none [] k l i (omega arith))

  bare_next : (m : Step) → StepBytes m → lawful d y m ≡ true → Bare (after_step d y m)
  unfolding after_step
  bare_next (other s) b h = bare_other s b
  bare_next (order s line from) b h = q
  bare_next (arrive i) b h = bare_arrive i h
  bare_next (append budget r) b h = bare_append budget r b h
  bare_next crash b h = q
  bare_next (recover pairs lines) b h = bare_recover pairs lines b h
  bare_next renew b h = bare_renew

bare_run : (d : ℕ) (y : OneDesk) (steps : List Step) → Kept d y → Bare y → AllSteps steps → lawful_all d y steps ≡ true → Bare (after_steps d y steps)
unfolding foldl every_along
bare_run d y [] w q b h = q
bare_run d y (m ∷ steps) w q b h =
    let now = and_left (lawful d y m) (lawful_all d (after_step d y m) steps) h in
    bare_run d (after_step d y m) steps (kept_next d y m w b.0 now) (bare_next d y w q m b.0 now) b.1 (and_right (lawful d y m) (lawful_all d (after_step d y m) steps) h)

pub bare_always : (d : ℕ) (y : OneDesk) → Moment d y → Bare y
bare_always d y r =
    subst Bare r.led
    (bare_run d (one_desk_opening r.image r.log) r.steps (kept_opening d y r)
    (λ k h l i. subst (λ (rs : List LogRecord). rewrites rs l k i ≡ false) (sym r.blank.empty) (past_none [] k l i (omega arith))) r.sent r.rules)
