-- What weighing, reading and keeping come to: the laws that the code of one request cites. Assumes nothing.
use Prim.Native.Nat.{ℕ, zero, suc, ◌+◌, ◌≤◌, min}
use native.Mathlib.Omega.{arith}
use mathlib.Core.Path.{◌≡◌, refl, sym, ap, ◌∙◌}
use mathlib.Core.Logic.{◌≢◌, ◌⊎◌, inl, inr}
use mathlib.Core.List.{List, [], ◌∷◌, reverse}
use mathlib.Core.Bool.{Bool, true, false, cond, ◌&&◌, ◌||◌}
use borrow.Author.Tests.{ltb-true, ltb-false, eqb-true, eqb-false, eq-eqb}
use lib.Dec.{ltb, eqb}
use lib.ListN.{length, take}
use lib.Seq.{take_all}
use Rattle.formats.specs.Format.{V1, fixed}
use Rattle.lists.specs.Parts.{splice}
use Rattle.lists.specs.Table.{row, first, settled}
use Rattle.lists.proofs.Table.{first_then, settled_new, settled_old}
use Rattle.lists.specs.Search.{last}
use Rattle.lists.proofs.Tests.{cases}
use Rattle.commands.specs.Command.{original, reads_translation, reads}
use Rattle.commands.specs.declared.Command.{Command}
use Rattle.commands.specs.Bytes.{fields_of, payload, formed}
use Rattle.commands.proofs.CommandBytes.{formedness}
use Rattle.guard.specs.Judge.{judge_rows, raise, judged}
use Rattle.guard.specs.declared.Entry.{Entry}
use Rattle.guard.specs.declared.Judged.{Judged}
use Rattle.guard.proofs.Judge.{Accepted, accepted}
use Rattle.guard.specs.Replies.{replied, refused}
use Rattle.guard.specs.declared.Answer.{Answer}
use Rattle.stream.specs.Stream.{commands, end_of}
use Rattle.history.specs.WorkedOut.{concerns, entry_from, text_from}
use Rattle.history.specs.Engine.{most_kept, most_payload, over_limits, read_from, guard_rows, engine_rows, kept_by, deduced_by, deduced}
use Rattle.history.specs.Lent.{history_size, kept_in, bytes_by, used_by, HistoryOutcome, history_serve}
use Rattle.history.specs.inner.Steps.{Measured, written_by, over_with, weighed_number, weighed, history_carried}
use Rattle.history.specs.declared.inner.kept.Totals.{Totals}
use Rattle.history.proofs.Raised.{one_translation, entry_here}
use Rattle.history.proofs.Extents.{Sized, sized_commands, sized_last, over_is, fits_behind_lem}
use Rattle.numbers.specs.Numbers.{HISTORY_FULL}

-- ---- weighing

twice : {A : Type 0} (n : ℕ) (new old : A) → settled n (settled n new old) old ≡ settled n new old
twice zero new old = refl
twice (suc n) new old = refl

module _ (kept : List (List ℕ)) (c : Command) (room lent : ℕ) where
  abbrev e : Entry
  e = entry_from kept c.card

  abbrev given : ℕ
  given = (judged e c room lent).number

  number_refused : given ≢ 0 → weighed_number kept c room lent ≡ given
  unfolding weighed_number
  number_refused h = settled_old (cond (over_with kept c) HISTORY_FULL 0) given h

  number_reached : given ≡ 0 → weighed_number kept c room lent ≡ cond (over_with kept c) HISTORY_FULL 0
  unfolding weighed_number
  number_reached h = settled_new (cond (over_with kept c) HISTORY_FULL 0) given h

  -- Refused by the entry; accepted by it and full; accepted.
  pub weighs_refused : (j : Judged) → j ≡ judged e c room lent → j.number ≢ 0 → j ≡ weighed kept c room lent
  unfolding weighed judged
  weighs_refused j z h =
      z
      ∙ rw (number_refused (λ k. h (ap (λ (d : Judged). d.number) z ∙ k)), twice (first (judge_rows e c room lent)) (raise e c) e)

  pub weighs_full : (d : Entry) → d ≡ e → given ≡ 0 → over_with kept c ≡ true → record { number = HISTORY_FULL; entry = d } ≡ weighed kept c room lent
  unfolding weighed
  weighs_full d z h f = rw (z, number_reached h, f)

  pub weighs_accepted : (j : Judged) → j ≡ judged e c room lent → j.number ≡ 0 → over_with kept c ≡ false → j ≡ weighed kept c room lent
  unfolding weighed judged
  weighs_accepted j z h f =
      let zero_is : first (judge_rows e c room lent) ≡ 0 = sym (ap (λ (d : Judged). d.number) z) ∙ h in
      z ∙ rw (number_reached zero_is, f, zero_is)

  pub weighed_number_lem : (weighed kept c room lent).number ≡ weighed_number kept c room lent
  unfolding weighed
  weighed_number_lem = refl

  -- What is accepted in the end leaves the raised entry.
  pub weighed_entry : (weighed kept c room lent).entry ≡ settled (weighed_number kept c room lent) (raise e c) e
  unfolding weighed weighed_number judged
  weighed_entry = go (first (judge_rows e c room lent))
    where
      go : (n : ℕ)
          → settled (settled n (cond (over_with kept c) HISTORY_FULL 0) n) (settled n (raise e c) e) e
          ≡ settled (settled n (cond (over_with kept c) HISTORY_FULL 0) n) (raise e c) e
      go zero = refl
      go (suc n) = refl

  -- An accepted command was accepted by the entry.
  pub weighed_accepts : weighed_number kept c room lent ≡ 0 → given ≡ 0
  weighed_accepts h = go (cases (eqb given 0))
    where
      go : (eqb given 0 ≡ true) ⊎ (eqb given 0 ≡ false) → given ≡ 0
      go (inl z) = eqb-true given 0 z
      go (inr z) = sym (number_refused (eqb-false given 0 z)) ∙ h

-- ---- showing

module _ (kept : List (List ℕ)) (c : Command) where
  pub shows_original : reads original c ≡ true → read_from kept c ≡ written_by 3 kept c.card
  unfolding text_from written_by
  shows_original h = rw h

  pub shows_translation : reads original c ≡ false → reads_translation c ≡ true → read_from kept c ≡ written_by 4 kept c.card
  unfolding text_from written_by
  shows_translation h k =
      rw (h, k)
      (ap (λ (p : List ℕ → Bool). last p (payload V1) [] kept)
      (λ i. λ b. ap (λ (w : Bool). concerns c.card b && w) (one_translation b) i))

  pub shows_none_lem : reads original c ≡ false → reads_translation c ≡ false → read_from kept c ≡ []
  shows_none_lem h k = rw (h, k)

-- ---- reading

-- The text that an accepted command reads fits the lent buffer.
pub read_fits : (s : List ℕ) (c : Command) (room lent : ℕ) → weighed_number (reverse (commands V1 s)) c room lent ≡ 0
    → length (read_from (reverse (commands V1 s)) c) ≤ lent
unfolding judged text_from entry_from
read_fits s c room lent h = go (cases (reads original c)) (cases (reads_translation c))
  where
    kept : List (List ℕ)
    kept = reverse (commands V1 s)

    sized : Sized kept
    sized = sized_commands s

    known : Accepted (entry_from kept c.card) c room lent
    known = accepted (entry_from kept c.card) c room lent (weighed_accepts kept c room lent h)

    go : (reads original c ≡ true) ⊎ (reads original c ≡ false) → (reads_translation c ≡ true) ⊎ (reads_translation c ≡ false)
        → length (read_from kept c) ≤ lent
    go (inl a) b =
        let short : ltb lent (entry_from kept c.card).original ≡ false = sym (rw a) ∙ known.lends_original in
        rw (a, sized_last _ kept sized) (ltb-false lent (entry_from kept c.card).original short)
    go (inr a) (inl b) =
        let short : ltb lent (entry_from kept c.card).translation ≡ false = sym (rw b) ∙ known.lends_translation in
        rw (a, b, sized_last _ kept sized) (ltb-false lent (entry_from kept c.card).translation short)
    go (inr a) (inr b) = rw (a, b) (omega arith)

-- ---- what a request leaves

module _ (n room : ℕ) (bytes : List ℕ) (used : ℕ) (command reply : List ℕ) where
  abbrev kept : List (List ℕ)
  kept = kept_in bytes used

  pub serves_malformed : formed V1 command ≡ false → history_serve n room bytes used command reply ≡ record { answer = refused 1; bytes = bytes; used = used; reply = reply }
  unfolding history_serve deduced deduced_by replied bytes_by used_by
  serves_malformed h = rw h

  pub serves_no_card : formed V1 command ≡ true → ltb (fields_of V1 command).card n ≡ false
      → history_serve n room bytes used command reply ≡ record { answer = refused 2; bytes = bytes; used = used; reply = reply }
  unfolding history_serve deduced deduced_by replied bytes_by used_by
  serves_no_card h k = rw (h, k)

  module _ (h : formed V1 command ≡ true) (k : ltb (fields_of V1 command).card n ≡ true) where
    number_is : first (engine_rows n room kept command (length reply)) ≡ weighed_number kept (fields_of V1 command) room (length reply)
    unfolding weighed_number judged
    number_is =
        first_then (guard_rows n room kept command (length reply)) (row (over_limits (command ∷ kept)) HISTORY_FULL ∷ []) tt
        ∙ rw (h, k, (formedness V1 command h).rules, over_is command kept h)

    entry_by_lem : (m : ℕ) → entry_from (kept_by m kept command) (fields_of V1 command).card
        ≡ settled m (raise (entry_from kept (fields_of V1 command).card) (fields_of V1 command)) (entry_from kept (fields_of V1 command).card)
    entry_by_lem zero = entry_here kept command (fields_of V1 command).card (eq-eqb (fields_of V1 command).card (fields_of V1 command).card refl)
    entry_by_lem (suc j) = refl

    found : history_serve n room bytes used command reply ≡ history_carried room bytes used (fields_of V1 command) command reply
    unfolding history_serve deduced deduced_by replied history_carried
    found =
        rw (
          number_is,
          entry_by_lem (weighed_number kept (fields_of V1 command) room (length reply)),
          weighed_entry kept (fields_of V1 command) room
              (length reply),
          weighed_number_lem kept (fields_of V1 command) room (length reply),
        )

    pub serves_found : (c : Command) → c ≡ fields_of V1 command → history_serve n room bytes used command reply ≡ history_carried room bytes used c command reply
    serves_found c e = found ∙ ap (λ (d : Command). history_carried room bytes used d command reply) (sym e)

-- ---- the bytes that count

pub take_min : (used : ℕ) (bytes : List ℕ) → length bytes ≡ history_size → take (min used history_size) bytes ≡ take used bytes
take_min used bytes h = go (cases (ltb used history_size))
  where
    go : (ltb used history_size ≡ true) ⊎ (ltb used history_size ≡ false) → take (min used history_size) bytes ≡ take used bytes
    go (inl t) = let less = ltb-true used history_size t in let same : min used history_size ≡ used = omega (arith, less) in ap (λ (n : ℕ). take n bytes) same
    go (inr f) =
        let more = ltb-false used history_size f in
        take_all (min used history_size) bytes (omega (arith, more, h)) ∙ sym (take_all used bytes (omega (arith, more, h)))

-- ---- the exits of `weigh`

module _ (bytes : List ℕ) (c : Command) (room lent : ℕ) (e : Entry) (x : Totals) (j : Judged) (he : e ≡ entry_from (reverse (commands V1 bytes)) c.card)
    (hx : Measured bytes x.end x.count x.payloads) (hj : j ≡ judged e c room lent) where
  abbrev Weighs : Judged → Type 0
  Weighs d =
      (d ≡ weighed (reverse (commands V1 bytes)) c room lent)
      × ((x.end ≡ end_of V1 bytes) × (d.number ≡ 0 → x.end + fixed V1 + c.length ≤ history_size))

  abbrev passes : Bool
  passes = ltb most_kept (x.count + 1) || ltb most_payload (c.length + x.payloads)

  passes_is : passes ≡ over_with (reverse (commands V1 bytes)) c
  passes_is = rw (hx.counts, hx.pays)

  by_entry : j ≡ judged (entry_from (reverse (commands V1 bytes)) c.card) c room lent
  by_entry = hj ∙ rw he

  pub weigh_refused : j.number ≢ 0 → Weighs j
  weigh_refused h = (weighs_refused (reverse (commands V1 bytes)) c room lent j by_entry h, (hx.ends, λ z. absurd (h z)))

  pub weigh_full : (b : Bool) → b ≡ passes → b ≡ true → j.number ≡ 0 → Weighs (record { number = HISTORY_FULL; entry = e })
  weigh_full b hb t h = (
    weighs_full (reverse (commands V1 bytes)) c room lent e he (sym (ap (λ (d : Judged). d.number) by_entry) ∙ h) (sym passes_is ∙ sym hb ∙ t),
    (hx.ends, λ z. absurd (omega (arith, z))),
  )

  pub weigh_accepted : (b : Bool) → b ≡ passes → b ≡ false → j.number ≡ 0 → Weighs j
  weigh_accepted b hb t h = (
    weighs_accepted (reverse (commands V1 bytes)) c room lent j by_entry h (sym passes_is ∙ sym hb ∙ t),
    (hx.ends, λ z. fits_behind_lem bytes x.end x.count x.payloads c.length hx (sym hb ∙ t)),
  )

-- ---- the exits of `carry`

-- The four exit values of what a request leaves.
pub exits : {o : HistoryOutcome} {a a' : Answer} {u u' : ℕ} {b b' r r' : List ℕ} → o ≡ record { answer = a; bytes = b; used = u; reply = r }
    → a' ≡ a → u' ≡ u → b' ≡ b → r' ≡ r → (a' ≡ o.answer) × ((u' ≡ o.used) × ((b' ≡ o.bytes) × (r' ≡ o.reply)))
exits h p q t v = rw h (p, (q, (t, v)))

pub low : (used count : ℕ) (bytes : List ℕ) → length bytes ≡ history_size → count ≡ min used history_size → count ≤ length bytes
low used count bytes h e = omega (arith, h, e)

module _ (room : ℕ) (bytes : List ℕ) (used : ℕ) (c : Command) (command reply : List ℕ) (long : length bytes ≡ history_size) (count : ℕ) (hc : count ≡ min used history_size)
    (j : Judged) (hj : j ≡ weighed (reverse (commands V1 (take count bytes))) c room (length reply)) where
  standing_is : take count bytes ≡ take used bytes
  standing_is = ap (λ (n : ℕ). take n bytes) hc ∙ take_min used bytes long

  kept_is : kept_in bytes used ≡ reverse (commands V1 (take count bytes))
  unfolding kept_in
  kept_is = ap (λ (s : List ℕ). reverse (commands V1 s)) (sym standing_is)

  judged_is : weighed (kept_in bytes used) c room (length reply) ≡ j
  judged_is = ap (λ (kept : List (List ℕ)). weighed kept c room (length reply)) kept_is ∙ sym hj

  pub carry_refused : j.number ≢ 0
      → history_carried room bytes used c command reply ≡ record { answer = replied j.number j.entry c; bytes = bytes; used = used; reply = reply }
  unfolding history_carried bytes_by used_by
  carry_refused h = rw judged_is (go j.number h)
    where
      go : (m : ℕ) → m ≢ 0
          → ◌≡◌ {A = HistoryOutcome}
          (record {
            answer = replied m j.entry c;
            bytes = settled m (splice (end_of V1 (take used bytes)) command bytes) bytes;
            used = settled m (end_of V1 (take used bytes) + length command) used;
            reply = settled m (splice 0 (read_from (kept_in bytes used) c) reply) reply;
          })
          (record { answer = replied m j.entry c; bytes = bytes; used = used; reply = reply })
      go zero h = absurd (h refl)
      go (suc k) h = refl

  module _ (h : j.number ≡ 0) where
    pub number_zero : weighed_number (reverse (commands V1 (take count bytes))) c room (length reply) ≡ 0
    unfolding weighed
    number_zero = sym (ap (λ (d : Judged). d.number) hj) ∙ h

    pub carry_accepted : (end : ℕ) → end ≡ end_of V1 (take count bytes)
        → history_carried room bytes used c command reply
        ≡ record {
          answer = replied j.number j.entry c;
          bytes = splice end command bytes;
          used = end + length command;
          reply = splice 0 (read_from (reverse (commands V1 (take count bytes))) c) reply;
        }
    unfolding history_carried bytes_by used_by
    carry_accepted end he =
        let place : end_of V1 (take used bytes) ≡ end = ap (end_of V1) (sym standing_is) ∙ sym he in
        rw (judged_is, h, place, kept_is)
