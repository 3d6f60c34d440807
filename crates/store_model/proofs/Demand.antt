-- Demand 3, whole. Assumes nothing.
use Prim.Native.Nat.{ℕ, ◌<◌}
use native.Mathlib.Omega.{arith}
use mathlib.Core.Path.{◌≡◌, refl, sym, ap, subst, ◌∙◌}
use mathlib.Core.Logic.{◌⊎◌, inl, inr}
use mathlib.Core.List.{List, [], ◌∷◌, ◌++◌, map, reverse, reverse_aux, append-nil}
use mathlib.Core.Bool.{true, false}
use lib.Dec.{T}
use lib.ListN.{length, length-replicate, get_or-replicate}
use Rattle.lists.proofs.Tests.{cases}
use Rattle.formats.specs.Format.{Format}
use Rattle.image.specs.Image.{Cards, no_card, fresh}
use Rattle.image.specs.Image.{fresh_cards}
use Rattle.image.specs.Layout.{shape_ok}
use Rattle.image_claims.proofs.Claims.{fresh_sound}
use Rattle.store_model.specs.Words.{Sent, Event, Received, received, trace_from, trace_of, command_of, late, premise, commands_in}
use Rattle.store_model.specs.Claims.{AllBytes, Claim, Demand3}
use Rattle.store_model.specs.Meaning.{Among}
use Rattle.store_model.proofs.Meaning.{among_map, among_mapped, among_reverse, premise_within}
use Rattle.store_model.proofs.Isolation.{Timely, isolated}
use Rattle.store_model.proofs.Machine.{number_on, event_by, cards_from, events_from, tied_fresh, Ties, ties_more, count_kept}
use Rattle.store_model.proofs.Sentences.{Told, told}
use Rattle.store_model.proofs.Simulation.{same_events}

-- What holds of each event and the events before it, along a list of events.
abbrev pub Along : (Event → List Event → Type 0) → List Event → Type 0
Along P [] = Unit {0}
Along P (e ∷ before) = P e before × Along P before

module _ (P : Event → List Event → Type 0) where
  along_at : (later : List Event) (e : Event) (before : List Event) → Along P (later ++ e ∷ before) → P e before
  along_at [] e before a = a.0
  along_at (d ∷ later) e before a = along_at later e before a.1

  pub along_split : (trace later : List Event) (e : Event) (before : List Event) → Along P trace → trace ≡ later ++ e ∷ before → P e before
  along_split trace later e before a split = along_at later e before (subst (Along P) split a)

-- ---- the run on cards

ties_fresh : (f : Format) (n c : ℕ) → Ties f (fresh_cards f n c) []
unfolding fresh_cards
ties_fresh f n c k b =
    rw (get_or-replicate n k (no_card f) (no_card f) (subst (λ (m : ℕ). k < m) (length-replicate n (no_card f)) b)) (tied_fresh f k)

pub count_all : (f : Format) (start : Cards) (sent : List Sent) → length (cards_from f start sent).cards ≡ length start.cards
unfolding cards_from
count_all f start [] = refl
count_all f start (s ∷ earlier) =
    count_kept f (number_on f (cards_from f start earlier) s) (cards_from f start earlier) s ∙ count_all f start earlier

module _ (f : Format) (start : Cards) (past : List Event) (first : Ties f start past) where
  ties_all : (sent : List Sent) → Ties f (cards_from f start sent) (events_from f start sent ++ past)
  unfolding cards_from events_from
  ties_all [] = first
  ties_all (s ∷ earlier) =
      ties_more f (cards_from f start earlier) s (events_from f start earlier ++ past) (ties_all earlier) (number_on f (cards_from f start earlier) s) refl

  pub told_all : Along (Told (length start.cards)) past → (sent : List Sent) → Along (Told (length start.cards)) (events_from f start sent ++ past)
  unfolding events_from
  told_all a [] = a
  told_all a (s ∷ earlier) = (
    subst (λ (n : ℕ). Told n (event_by f (number_on f (cards_from f start earlier) s) (cards_from f start earlier) s) (events_from f start earlier ++ past)) (count_all f start earlier)
        (told f (cards_from f start earlier) s (events_from f start earlier ++ past) (ties_all earlier)),
    told_all a earlier,
  )

-- ---- the trace

-- Each event of the trace has what was sent.
pub whole_history : (f : Format) (start : List ℕ) (sent : List Sent) → map (λ (e : Event). e.sent) (trace_from f start sent) ≡ sent
unfolding trace_from
whole_history f start [] = refl
whole_history f start (s ∷ earlier) = ap (λ (l : List Sent). s ∷ l) (whole_history f start earlier)

pub bytes_reverse : (sent more : List Sent) → AllBytes sent → AllBytes more → AllBytes (reverse_aux sent more)
bytes_reverse [] more b m = m
bytes_reverse (s ∷ sent) more b m = bytes_reverse sent (s ∷ more) b.1 (b.0, m)

-- An accepted event is proper, and not late: a late one is refused as stale.
timely : (n : ℕ) (e : Event) (before : List Event) → Told n e before → e.answer.number ≡ 0 → Timely n e before
timely n e before t z = record { proper = t.proper z; rules = t.rules (t.proper z); prompt = go (cases (late before (command_of e))) }
  where
    go : (late before (command_of e) ≡ true) ⊎ (late before (command_of e) ≡ false) → late before (command_of e) ≡ false
    go (inl h) = let stale : e.answer.number ≡ 3 = (t.staleness (t.proper z)).1 h in absurd (omega arith)
    go (inr h) = h

pub claim : (n : ℕ) (sent : List Sent) (trace : List Event) → map (λ (e : Event). e.sent) trace ≡ reverse sent → Along (Told n) trace → Claim n sent trace
claim n sent trace whole a =
    record {
      whole = whole;
      staleness = λ later e before split p. (at later e before split).staleness p;
      aheadness = λ later e before split p h. (at later e before split).aheadness p h;
      behindness = λ later e before t split p r h g m. (at later e before split).behindness t p r h g m;
      showing = λ later e before l split z r. (at later e before split).showing l z r;
      showing_length = λ later e before l split z r. (at later e before split).showing_length l z r;
      isolation = isolated n trace (λ later e before split z. timely n e before (at later e before split) z);
    }
  where
    at : (later : List Event) (e : Event) (before : List Event) → trace ≡ later ++ e ∷ before → Told n e before
    at later e before split = along_split (Told n) trace later e before a split

pub same_log : (f : Format) (n c : ℕ) → T (shape_ok f n c) → (sent : List Sent) → AllBytes sent → trace_of f n c sent ≡ events_from f (fresh_cards f n c) (reverse sent)
unfolding trace_of
same_log f n c shape sent b =
    ap (λ (image : List ℕ). trace_from f image (reverse sent)) (sym (fresh_sound f n c shape).cards)
    ∙ same_events f (fresh_cards f n c) (reverse sent) (fresh_sound f n c shape).good (bytes_reverse sent [] b tt)

pub count_fresh : (f : Format) (n c : ℕ) → length (fresh_cards f n c).cards ≡ n
unfolding fresh_cards
count_fresh f n c = length-replicate n (no_card f)

-- The run on cards from fresh ones.
pub fresh_told : (f : Format) (n c : ℕ) (sent : List Sent) → Along (Told n) (events_from f (fresh_cards f n c) sent)
fresh_told f n c sent =
    subst (λ (m : ℕ). Along (Told m) (events_from f (fresh_cards f n c) sent)) (count_fresh f n c)
    (subst (Along (Told (length (fresh_cards f n c).cards))) (append-nil (events_from f (fresh_cards f n c) sent))
    (told_all f (fresh_cards f n c) [] (ties_fresh f n c) tt sent))

pub fresh_ties : (f : Format) (n c : ℕ) (sent : List Sent) → Ties f (cards_from f (fresh_cards f n c) sent) (events_from f (fresh_cards f n c) sent)
fresh_ties f n c sent =
    subst (Ties f (cards_from f (fresh_cards f n c) sent)) (append-nil (events_from f (fresh_cards f n c) sent))
    (ties_all f (fresh_cards f n c) [] (ties_fresh f n c) sent)

pub demand3 : Demand3
unfolding trace_of
demand3 f n c shape sent b =
    claim n sent (trace_of f n c sent) (whole_history f (fresh f n c) (reverse sent))
    (subst (Along (Told n)) (sym (same_log f n c shape sent b))
    (fresh_told f n c (reverse sent)))

-- ---- the premise on what is sent, and on the trace

commands_read : (f : Format) (start : List ℕ) (sent : List Sent) → commands_in (trace_from f start sent) ≡ map (received f) sent
unfolding trace_from
commands_read f start [] = refl
commands_read f start (s ∷ earlier) = ap (λ (l : List Received). received f s ∷ l) (commands_read f start earlier)

pub premise_logged : (f : Format) (n c k : ℕ) (sent : List Sent) → premise k (map (received f) sent) ≡ true → premise k (commands_in (trace_of f n c sent)) ≡ true
unfolding trace_of
premise_logged f n c k sent h =
    premise_within k (map (received f) sent) (commands_in (trace_from f (fresh f n c) (reverse sent))) back h
  where
    back : (r : Received) → Among r (commands_in (trace_from f (fresh f n c) (reverse sent))) → Among r (map (received f) sent)
    back r m =
        let one = among_mapped (received f) (reverse sent) (subst (Among r) (commands_read f (fresh f n c) (reverse sent)) m) in
        subst (λ (d : Received). Among d (map (received f) sent)) (sym one.is) (among_map (received f) {l = sent} (among_reverse {l = sent} one.among))
