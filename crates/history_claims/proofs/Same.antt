-- The engine and a store of cards that it shows: one request, then lists. Assumes nothing.
use Prim.Native.Nat.{ℕ, zero, suc, ◌<◌}
use mathlib.Core.Path.{◌≡◌, refl, sym, ap, subst, ◌∙◌}
use mathlib.Core.Logic.{◌≢◌, ◌⊎◌, inl, inr}
use mathlib.Core.List.{List, [], ◌∷◌}
use mathlib.Core.Bool.{true, false}
use borrow.Author.Tests.{eqb-true, eqb-false, eq-eqb, ltb-true, not-true}
use lib.Dec.{eqb, ltb, lit<}
use lib.ListN.{length, get_or, set, length-replicate, get_or-replicate}
use lib.Seq.{get_or-set_same, get_or-set_other}
use Rattle.formats.specs.Format.{V1}
use Rattle.lists.specs.Parts.{splice}
use Rattle.lists.specs.Table.{first, settled}
use Rattle.lists.proofs.Table.{last_given, last_idle}
use Rattle.lists.proofs.Tests.{cases, or_fails}
use Rattle.commands.specs.Bytes.{fields_of, payload, formed}
use Rattle.commands.proofs.CommandBytes.{length_payload}
use Rattle.guard.specs.Judge.{raise}
use Rattle.guard.specs.declared.Entry.{Entry}
use Rattle.guard.specs.Replies.{replied}
use Rattle.image.specs.Image.{Card, Cards, view, no_card}
use Rattle.image.specs.Image.{fresh_cards}
use Rattle.store_model.specs.Serve.{card_of, entry_of, stepped, answer_by, reply_by}
use Rattle.store_model.specs.Words.{Sent, Event, received}
use Rattle.lists.specs.Search.{any, none}
use Rattle.store_model.proofs.Stepped.{seen_named}
use Rattle.store_model.proofs.Machine.{number_on, event_by, cards_by, cards_from, events_from, Passed, passed, count_kept}
use Rattle.history.specs.WorkedOut.{entry_from}
use Rattle.history.specs.Engine.{over_limits, guard_rows, engine_rows, kept_by, read_from, deduced_by, deduced}
use Rattle.history_claims.specs.Claims.{card_from, kept_after, engine_event, engine_events, gave22}
use Rattle.history_claims.proofs.Cards.{card_here, card_other, card_none, entry_none}
use Rattle.history.proofs.Raised.{names_one, entry_here, entry_other}
use Rattle.numbers.specs.Numbers.{HISTORY_FULL}

-- The engine shows these cards.
pub record Shows (n c : ℕ) (kept : List (List ℕ)) (cs : Cards) : Type 0 where
  pub count : length cs.cards ≡ n
  pub room : cs.room ≡ c
  pub each : (k : ℕ) → k < n → get_or cs.cards k (no_card V1) ≡ card_from kept k
  -- the lengths that the commands name are those of the texts that they brought
  pub entries : (k : ℕ) → k < n → view 0 (get_or cs.cards k (no_card V1)) ≡ entry_from kept k

pub shows_fresh : (n c : ℕ) → Shows n c [] (fresh_cards V1 n c)
unfolding fresh_cards
shows_fresh n c =
    record {
      count = length-replicate n (no_card V1);
      room = refl;
      each = λ k h. get_or-replicate n k (no_card V1) (no_card V1) h ∙ sym (card_none k);
      entries = λ k h. ap (view 0) (get_or-replicate n k (no_card V1) (no_card V1) h) ∙ entry_none k;
    }

-- ---- one request

module _ (n c : ℕ) (kept : List (List ℕ)) (cs : Cards) (shows : Shows n c kept cs) (s : Sent) where
  abbrev place : ℕ
  place = (fields_of V1 s.command).card

  abbrev number : ℕ
  number = first (engine_rows n c kept s.command (length s.lent))

  card_is : ltb place n ≡ true → card_of V1 cs (fields_of V1 s.command) ≡ card_from kept place
  card_is h = shows.each place (ltb-true place n h)

  entry_is : ltb place n ≡ true → entry_of V1 cs (fields_of V1 s.command) ≡ entry_from kept place
  entry_is h = ap (λ (t : ℕ). view t (card_of V1 cs (fields_of V1 s.command))) (names_one s.command) ∙ shows.entries place (ltb-true place n h)

  -- The event's number is the table's.
  pub number_is : (deduced n c kept s.command s.lent).answer.number ≡ number
  unfolding deduced deduced_by replied
  number_is = refl

  -- The rows of the guard, on what is worked out and on the cards.
  pub guard_number : first (guard_rows n c kept s.command (length s.lent)) ≡ number_on V1 cs s
  guard_number = go (cases (formed V1 s.command)) (cases (ltb place n))
    where
      go : (formed V1 s.command ≡ true) ⊎ (formed V1 s.command ≡ false) → (ltb place n ≡ true) ⊎ (ltb place n ≡ false)
          → first (guard_rows n c kept s.command (length s.lent)) ≡ number_on V1 cs s
      go (inr f) p = rw f
      go (inl f) (inr p) = rw (f, shows.count, p)
      go (inl f) (inl p) = rw (sym (entry_is p), shows.count, shows.room)

  same_number : number ≢ HISTORY_FULL → number ≡ number_on V1 cs s
  same_number h =
      last_idle (guard_rows n c kept s.command (length s.lent)) (over_limits (s.command ∷ kept)) 21 tt refl h ∙ guard_number

  -- Where the engine gives 22, the cards accept, and the entry of the command's card is theirs.
  pub full_accepted : number ≡ HISTORY_FULL → number_on V1 cs s ≡ 0
  full_accepted h =
      sym guard_number
      ∙ ((last_given (guard_rows n c kept s.command (length s.lent)) (over_limits (s.command ∷ kept)) 21 tt refl).0 h).0

  pub full_entry : number ≡ HISTORY_FULL → entry_from kept place ≡ entry_of V1 cs (fields_of V1 s.command)
  full_entry h =
      let there = (passed V1 cs s (full_accepted h)).exists in
      sym (entry_is (sym (ap (ltb place) shows.count) ∙ there))

  -- The answer and the text read, where the card is there.
  answer_is : (m : ℕ) → ltb place n ≡ true
      → replied m (entry_from (kept_by m kept s.command) place) (fields_of V1 s.command) ≡ answer_by V1 m cs s.command
  answer_is zero p =
      ap (λ (e : Entry). replied 0 e (fields_of V1 s.command))
      (entry_here kept s.command place (eq-eqb place place refl) ∙ ap (λ (e : Entry). raise e (fields_of V1 s.command)) (sym (entry_is p)))
  answer_is (suc j) p = ap (λ (e : Entry). replied (suc j) e (fields_of V1 s.command)) (sym (entry_is p))

  reply_is : (m : ℕ) → ltb place n ≡ true
      → settled m (splice 0 (read_from kept (fields_of V1 s.command)) s.lent) s.lent ≡ reply_by V1 m cs s.command s.lent
  reply_is m p = rw (card_is p, names_one s.command)

  -- The event, by the number of the table of cards.
  event_by_lem : (m : ℕ) → number_on V1 cs s ≡ m → engine_event s (deduced_by m kept s.command s.lent) ≡ event_by V1 m cs s
  unfolding deduced_by replied
  event_by_lem m e = go m e (cases (formed V1 s.command)) (cases (ltb place n))
    where
      go : (m : ℕ) → number_on V1 cs s ≡ m → (formed V1 s.command ≡ true) ⊎ (formed V1 s.command ≡ false) → (ltb place n ≡ true) ⊎ (ltb place n ≡ false)
          → engine_event s (deduced_by m kept s.command s.lent) ≡ event_by V1 m cs s
      go m e (inr f) p = let one : 1 ≡ m = sym (rw f) ∙ e in rw (← one)
      go m e (inl f) (inr p) = let two : 2 ≡ m = sym (rw (f, shows.count, p)) ∙ e in rw (← two)
      go m e (inl f) (inl p) = λ i. record { sent = s; read = received V1 s; answer = answer_is m p i; reply = reply_is m p i }

  pub same_event : number ≢ HISTORY_FULL → engine_event s (deduced n c kept s.command s.lent) ≡ event_by V1 (number_on V1 cs s) cs s
  unfolding deduced
  same_event h = rw (same_number h) (event_by_lem (number_on V1 cs s) refl)

  -- The cards after it.
  shows_by : (m : ℕ) → number_on V1 cs s ≡ m → Shows n c (kept_by m kept s.command) (cards_by V1 m cs s)
  shows_by (suc j) e = shows
  shows_by zero e =
      record { count = count_kept V1 0 cs s ∙ shows.count; room = shows.room; each = each; entries = entries }
    where
      known : Passed V1 cs s
      known = passed V1 cs s e

      after : Card
      after = stepped (card_of V1 cs (fields_of V1 s.command)) (fields_of V1 s.command) (payload V1 s.command)

      there : place < length cs.cards
      there = ltb-true place (length cs.cards) known.exists

      -- The card that the command names has the translation that it names.
      has : (fields_of V1 s.command).language < length (card_of V1 cs (fields_of V1 s.command)).translated
      has = rw (names_one s.command, shows.each place (rw shows.count at there)) (lit< tt)

      raised : view 0 after ≡ entry_from (s.command ∷ kept) place
      raised =
          ap (λ (t : ℕ). view t after) (sym (names_one s.command))
          ∙ seen_named (card_of V1 cs (fields_of V1 s.command)) (fields_of V1 s.command) (payload V1 s.command) has (length_payload V1 s.command known.well_formed)
          ∙ ap (λ (e : Entry). raise e (fields_of V1 s.command))
          (ap (λ (t : ℕ). view t (card_of V1 cs (fields_of V1 s.command))) (names_one s.command) ∙ shows.entries place (rw shows.count at there))
          ∙ sym (entry_here kept s.command place (eq-eqb place place refl))

      entries : (k : ℕ) → k < n → view 0 (get_or (set cs.cards place after) k (no_card V1)) ≡ entry_from (s.command ∷ kept) k
      entries k h = go (cases (eqb place k))
        where
          go : (eqb place k ≡ true) ⊎ (eqb place k ≡ false) → view 0 (get_or (set cs.cards place after) k (no_card V1)) ≡ entry_from (s.command ∷ kept) k
          go (inl q) =
              subst (λ (j : ℕ). view 0 (get_or (set cs.cards place after) j (no_card V1)) ≡ entry_from (s.command ∷ kept) j) (eqb-true place k q)
              (ap (view 0) (get_or-set_same cs.cards place after (no_card V1) there) ∙ raised)
          go (inr q) =
              ap (view 0) (get_or-set_other cs.cards place k after (no_card V1) (λ z. eqb-false place k q (sym z)))
              ∙ shows.entries k h
              ∙ sym (entry_other kept s.command k q)

      each : (k : ℕ) → k < n → get_or (set cs.cards place after) k (no_card V1) ≡ card_from (s.command ∷ kept) k
      each k h = go (cases (eqb place k))
        where
          go : (eqb place k ≡ true) ⊎ (eqb place k ≡ false) → get_or (set cs.cards place after) k (no_card V1) ≡ card_from (s.command ∷ kept) k
          go (inl q) =
              let here : place ≡ k = eqb-true place k q in
              rw (← here)
              (get_or-set_same cs.cards place after (no_card V1) there
              ∙ ap (λ (card : Card). stepped card (fields_of V1 s.command) (payload V1 s.command)) (shows.each place (rw here h))
              ∙ sym (card_here kept s.command place (eq-eqb place place refl)))
          go (inr q) =
              get_or-set_other cs.cards place k after (no_card V1) (λ z. eqb-false place k q (sym z))
              ∙ shows.each k h
              ∙ sym (card_other kept s.command k q)

  pub shows_more : number ≢ HISTORY_FULL → Shows n c (deduced n c kept s.command s.lent).kept (cards_by V1 (number_on V1 cs s) cs s)
  unfolding deduced deduced_by
  shows_more h = rw (same_number h) (shows_by (number_on V1 cs s) refl)

-- ---- lists of requests

module _ (n c : ℕ) (start : Cards) (fresh : Shows n c [] start) where
  -- As long as no event gave 22.
  pub record Together (sent : List Sent) : Type 0 where
    pub trace : engine_events n c sent ≡ events_from V1 start sent
    pub cards : Shows n c (kept_after n c sent) (cards_from V1 start sent)

  pub together : (sent : List Sent) → none gave22 (engine_events n c sent) ≡ true → Together sent
  unfolding engine_events kept_after events_from cards_from
  together [] h = record { trace = refl; cards = fresh }
  together (s ∷ earlier) h =
      let kept : List (List ℕ) = kept_after n c earlier in
      let both = or_fails (gave22 (engine_event s (deduced n c kept s.command s.lent))) (any gave22 (engine_events n c earlier)) (not-true _ h) in
      let rest = together earlier (rw both.1) in
      let other : number n c kept (cards_from V1 start earlier) rest.cards s ≢ HISTORY_FULL =
      λ z. eqb-false _ HISTORY_FULL both.0 (number_is n c kept (cards_from V1 start earlier) rest.cards s ∙ z) in
      record {
        trace =
            ap (λ (e : Event). e ∷ engine_events n c earlier) (same_event n c kept (cards_from V1 start earlier) rest.cards s other)
            ∙ ap (λ (l : List Event). event_by V1 (number_on V1 (cards_from V1 start earlier) s) (cards_from V1 start earlier) s ∷ l) rest.trace;
        cards = shows_more n c kept (cards_from V1 start earlier) rest.cards s other;
      }
