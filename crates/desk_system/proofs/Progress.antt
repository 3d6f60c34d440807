-- A command on the word of a reply, and a desk's own pair. Assumes nothing.
use Prim.Native.Nat.{ℕ, zero, suc, ◌+◌, ◌*◌, ◌/◌, ◌%◌, ◌≤◌, ◌<◌}
use native.Mathlib.Omega.{arith}
use mathlib.Core.Path.{◌≡◌, refl, sym, ap, subst, ◌∙◌}
use mathlib.Core.Logic.{◌⊎◌, inl, inr}
use mathlib.Core.List.{List, [], ◌∷◌, ◌++◌}
use mathlib.Core.Bool.{Bool, true, false, cond, not, ◌&&◌, ◌||◌}
use borrow.Author.Tests.{eqb-false, ne_eqb, ltb-true, le-ltb, le-leb, not-true}
use lib.Dec.{T, eqb, ltb, leb}
use lib.ListN.{length, get_or}
use lib.Seq.{get_or-set_same}
use Rattle.formats.specs.Format.{Format}
use Rattle.lists.specs.Search.{any, none}
use Rattle.lists.specs.Table.{row, first, all, all_from, listed}
use Rattle.lists.proofs.Table.{first_all}
use Rattle.lists.proofs.Tests.{cases, to_T, from_false, or_fails, or_none, never_both, not_in, T_and_left, all_append, and_in}
use Rattle.stamps.specs.Stamp.{stamp_t, stamp_valid, session_checks, shared, exclusive, own, stale, most_ahead, too_far, mark_fits, no_pair}
use Rattle.stamps.specs.declared.Pair.{Pair}
use Rattle.stamps.proofs.Stamp.{SessionRules, session_rules}
use Rattle.commands.specs.Command.{verifier, update, verifier_checks, pair_checks}
use Rattle.commands.specs.declared.Command.{Command}
use Rattle.commands.specs.Bytes.{fields_of, formed, payload}
use Rattle.guard.specs.Judge.{wrong_edition, editions_spent, reply_short, raise}
use Rattle.guard.specs.Replies.{blank_reply, replied}
use Rattle.image.specs.Image.{Card, Cards, no_card, encode, decode, sound, GoodCards}
use Rattle.image_claims.proofs.Claims.{sound_reads_back}
use Rattle.store_model.specs.Serve.{stepped, serve, serve_by, store_rows, entry_of}
use Rattle.store_model.specs.Words.{Sent, Event, accepted, event_of, image_after, trace_from}
use Rattle.store_model.specs.Claims.{SentBytes, AllBytes}
use Rattle.store_model.proofs.Machine.{number_on, event_by, cards_by, cards_from, events_from, passed, accepted_at, count_kept}
use Rattle.store_model.proofs.Simulation.{good_more, same_event, same_image, same_images, same_events, all_good}
use Rattle.lock_queue.specs.Queue.{State, empty_queue, desk, desks, standing, stands}
use Rattle.lock_queue.specs.Requests.{Request, asks, upgrading}
use Rattle.lock_queue.proofs.Removed.{absent_removed}
use Rattle.lock_queue.proofs.Standing.{map-append, stands_append}
use Rattle.lock_queue_claims.specs.Traces.{queue_after}
use Rattle.lock_queue_claims.specs.Stability.{untouched}
use Rattle.lock_queue_claims.proofs.Stability.{all_keep}
use Rattle.lock_queue_claims.proofs.Claims.{each_number}
use Rattle.lock_queue.specs.declared.Waiting.{Waiting}
use Rattle.desk_proposals.specs.declared.Known.{Known}
use Rattle.desk_proposals.specs.Propose.{next_t, own_above, last_t, pair_for, proposed}
use Rattle.desk_proposals.proofs.Propose.{made_pair}
use Rattle.desk_proposal_claims.specs.Claims.{Fine}
use Rattle.desk_proposal_claims.proofs.Claims.{reaches}
use Rattle.desk_system.specs.System.{System, knows}
use Rattle.desk_system.specs.Claims.{finally}
use Rattle.desk_system.specs.Progress.{reply_pair, image_left, Resumes, guard_numbers, NotStale, own_entry, OwnPair, OwnPairs}
use Rattle.desk_system.proofs.Backing.{next_most}
use Rattle.desk_system.proofs.Store.{stored_pairs}
use Rattle.desk_system.proofs.Claims.{kept_finally, desks_valid}

-- ---- cards that nobody is accepted for

-- The pair of card k stays.
pair_stays : (f : Format) (cs : Cards) (k : ℕ) (sent : List Sent) → none (accepted k) (events_from f cs sent) ≡ true
    → (get_or (cards_from f cs sent).cards k (no_card f)).pair ≡ (get_or cs.cards k (no_card f)).pair
unfolding cards_from events_from
pair_stays f cs k [] h = refl
pair_stays f cs k (s ∷ earlier) h =
    one (or_fails (accepted k (event_by f (number_on f before s) before s)) (any (accepted k) (events_from f cs earlier)) (not-true _ h)) (pair_stays f cs k earlier)
  where
    before : Cards
    before = cards_from f cs earlier

    one : (accepted k (event_by f (number_on f before s) before s) ≡ false) × (any (accepted k) (events_from f cs earlier) ≡ false)
        → (none (accepted k) (events_from f cs earlier) ≡ true → (get_or before.cards k (no_card f)).pair ≡ (get_or cs.cards k (no_card f)).pair)
        → (get_or (cards_by f (number_on f before s) before s).cards k (no_card f)).pair ≡ (get_or cs.cards k (no_card f)).pair
    one parts rest =
        stored_pairs f before s (λ (j : ℕ) (p : Pair). j ≡ k → p ≡ (get_or cs.cards k (no_card f)).pair)
        (λ j e. ap (λ (i : ℕ). (get_or before.cards i (no_card f)).pair) e ∙ rest (not_in parts.1))
        (λ zero_is here. absurd (eqb-false (fields_of f s.command).card k
        (sym (accepted_at f before s k) ∙ subst (λ (number : ℕ). accepted k (event_by f number before s) ≡ false) zero_is parts.0) here))
        (number_on f before s) refl k refl

-- N stays.
count_stays : (f : Format) (cs : Cards) (sent : List Sent) → length (cards_from f cs sent).cards ≡ length cs.cards
unfolding cards_from
count_stays f cs [] = refl
count_stays f cs (s ∷ earlier) = count_kept f (number_on f (cards_from f cs earlier) s) (cards_from f cs earlier) s ∙ count_stays f cs earlier

-- ---- the reply

-- It shows the stored pair as it then is, unless it is blank, and its card exists.
module _ (f : Format) (cs : Cards) (s : Sent) where
  abbrev place : ℕ
  place = (fields_of f s.command).card

  reply_stored : (number : ℕ) → number_on f cs s ≡ number → blank_reply number ≡ false → (event_by f number cs s).answer.pair ≡ (get_or (cards_by f number cs s).cards place (no_card f)).pair
  unfolding replied raise stepped
  reply_stored zero e h =
      let there = ltb-true place (length cs.cards) (passed f cs s e).exists in
      let next = stepped (get_or cs.cards place (no_card f)) (fields_of f s.command) (payload f s.command) in
      sym (ap (λ (d : Card). d.pair) (get_or-set_same cs.cards place next (no_card f) there))
  reply_stored (suc j) e h = go (blank_reply (suc j)) h
    where
      go : (b : Bool) → b ≡ false → cond b no_pair (get_or cs.cards place (no_card f)).pair ≡ (get_or cs.cards place (no_card f)).pair
      go true q = absurd (never_both refl q)
      go false q = refl

  reply_card : blank_reply (number_on f cs s) ≡ false → ltb place (length cs.cards) ≡ true
  reply_card h = go (cases (formed f s.command)) (cases (ltb place (length cs.cards)))
    where
      go : (formed f s.command ≡ true) ⊎ (formed f s.command ≡ false) → (ltb place (length cs.cards) ≡ true) ⊎ (ltb place (length cs.cards) ≡ false)
          → ltb place (length cs.cards) ≡ true
      go a (inl e) = e
      go (inl a) (inr e) = let two : number_on f cs s ≡ 2 = rw (a, e) in absurd (never_both (ap blank_reply two) h)
      go (inr a) (inr e) = let one : number_on f cs s ≡ 1 = rw a in absurd (never_both (ap blank_reply one) h)

-- ---- neither stale nor too far ahead

not_stale : (mode : ℕ) (stored new : Pair) → stored.s ≤ new.s → stored.x ≤ new.x → stale mode stored new ≡ false
not_stale mode stored new s x = rw (le-ltb new.x stored.x x, le-ltb new.s stored.s s) (go (eqb mode exclusive))
  where
    go : (b : Bool) → (b && false) ≡ false
    go true = refl
    go false = refl

not_far : (k : Known) (mode : ℕ) (stored : Pair) → k.desk < 65536 → k.start < 65536 → stamp_t k.pair.s < stamp_t stored.s + most_ahead → stamp_t k.pair.x < stamp_t stored.x + most_ahead
    → too_far stored (pair_for k mode) ≡ false
unfolding pair_for
not_far k mode stored d i s x = go (eqb mode exclusive)
  where
    near : (n m : ℕ) → stamp_t n < stamp_t m + most_ahead → ltb (stamp_t m + most_ahead) (stamp_t n) ≡ false
    near n m h = le-ltb (stamp_t m + most_ahead) (stamp_t n) (omega (arith, h))

    near_own : (n m : ℕ) → stamp_t n < stamp_t m + most_ahead → ltb (stamp_t m + most_ahead) (stamp_t (own_above k.desk k.start n)) ≡ false
    near_own n m h = le-ltb (stamp_t m + most_ahead) (stamp_t (own_above k.desk k.start n)) (let most = next_most k.desk k.start n in omega (arith, h, most, d, i))

    go : (b : Bool) → too_far stored (record { s = cond b k.pair.s (own_above k.desk k.start k.pair.s); x = cond b (own_above k.desk k.start k.pair.x) k.pair.x }) ≡ false
    go true = or_none (near k.pair.s stored.s s) (near_own k.pair.x stored.x x)
    go false = or_none (near_own k.pair.s stored.s s) (near k.pair.x stored.x x)

-- The rows behind 17.
rows_listed : (f c s t m p e x r : Bool) → f ≡ true → c ≡ true → s ≡ false → t ≡ false
    → T (listed guard_numbers (first (row (not f) 1 ∷ row (not c) 2 ∷ row s 3 ∷ row t 17 ∷ row m 4 ∷ row p 5 ∷ row e 6 ∷ row x 7 ∷ row r 8 ∷ [])))
rows_listed true true false false m p e x r a b d g = first_all (listed guard_numbers) (row m 4 ∷ row p 5 ∷ row e 6 ∷ row x 7 ∷ row r 8 ∷ []) tt tt
rows_listed false c s t m p e x r a b d g = absurd (never_both a refl)
rows_listed true false s t m p e x r a b d g = absurd (never_both b refl)
rows_listed true true true t m p e x r a b d g = absurd (never_both refl d)
rows_listed true true false true m p e x r a b d g = absurd (never_both refl g)

-- The number on cards, where the command is well formed, its card exists, and neither 3 nor 17 applies.
number_listed : (f : Format) (cs : Cards) (s : Sent) → formed f s.command ≡ true → ltb (fields_of f s.command).card (length cs.cards) ≡ true
    → stale (fields_of f s.command).mode (get_or cs.cards (fields_of f s.command).card (no_card f)).pair (verifier (fields_of f s.command)) ≡ false
    → too_far (get_or cs.cards (fields_of f s.command).card (no_card f)).pair (update (fields_of f s.command)) ≡ false
    → T (listed guard_numbers (number_on f cs s))
number_listed f cs s a b st fa =
    let c = fields_of f s.command in
    let e = entry_of f cs c in
    rows_listed (formed f s.command) (ltb c.card (length cs.cards)) (stale c.mode e.pair (verifier c)) (too_far e.pair (update c))
    (not (mark_fits e.mark c.expected)) (ltb cs.room c.length) (wrong_edition e c) (editions_spent e c) (reply_short e c (length s.lent)) a b st fa

-- ---- the claim, over the cards that the image stands for

module _ (f : Format) (cs : Cards) (good : GoodCards f cs) (asked : Sent) (between : List Sent) (k : Known) (mode : ℕ) (s : Sent)
    (ab : SentBytes asked) (bb : AllBytes between) (r : Resumes f (encode f cs) asked between k mode s) where
  abbrev number1 : ℕ
  number1 = number_on f cs asked

  abbrev cards1 : Cards
  cards1 = cards_by f number1 cs asked

  abbrev cards2 : Cards
  cards2 = cards_from f cards1 between

  abbrev card : ℕ
  card = (fields_of f asked.command).card

  event1 : event_of f asked (serve f (encode f cs) asked.command asked.lent) ≡ event_by f number1 cs asked
  event1 = same_event f cs asked good

  image1 : image_left f (encode f cs) asked ≡ encode f cards1
  image1 = same_image f cs asked good

  good1 : GoodCards f cards1
  good1 = good_more f cs asked good ab number1 refl

  image2 : image_after f (image_left f (encode f cs) asked) between ≡ encode f cards2
  image2 = ap (λ (i : List ℕ). image_after f i between) image1 ∙ same_images f cards1 between good1 bb

  shown : blank_reply number1 ≡ false
  unfolding replied
  shown = subst (λ (e : Event). blank_reply e.answer.number ≡ false) event1 r.replied

  -- The reply's pair is the stored one when the command comes.
  stored_now : reply_pair f (encode f cs) asked ≡ (get_or cards2.cards card (no_card f)).pair
  stored_now =
      ap (λ (e : Event). e.answer.pair) event1
      ∙ reply_stored f cs asked number1 refl shown
      ∙ sym (pair_stays f cards1 card between
      (subst (λ (l : List Event). none (accepted card) l ≡ true) (ap (λ (i : List ℕ). trace_from f i between) image1 ∙ same_events f cards1 between good1 bb) r.still))

  exists : ltb card (length cards2.cards) ≡ true
  exists =
      subst (λ (many : ℕ). ltb card many ≡ true) (sym (count_stays f cards1 between ∙ count_kept f number1 cs asked)) (reply_card f cs asked shown)

  pair_is : update (fields_of f s.command) ≡ pair_for k mode
  pair_is = r.opens ∙ made_pair k mode r.proposes

  listed_on : k.desk < 65536 → k.start < 65536 → T (listed guard_numbers (number_on f cards2 s))
  listed_on d i =
      number_listed f cards2 s r.is_formed
      (subst (λ (j : ℕ). ltb j (length cards2.cards) ≡ true) (sym r.card_is) exists)
      (subst (λ (j : ℕ). stale (fields_of f s.command).mode (get_or cards2.cards j (no_card f)).pair (verifier (fields_of f s.command)) ≡ false) (sym r.card_is)
      (subst (λ (p : Pair). stale (fields_of f s.command).mode p (verifier (fields_of f s.command)) ≡ false) stored_now
      (not_stale (fields_of f s.command).mode (reply_pair f (encode f cs) asked) (verifier (fields_of f s.command)) r.relies_s r.relies_x)))
      (subst (λ (j : ℕ). too_far (get_or cards2.cards j (no_card f)).pair (update (fields_of f s.command)) ≡ false) (sym r.card_is)
      (subst (λ (p : Pair). too_far p (update (fields_of f s.command)) ≡ false) stored_now
      (subst (λ (p : Pair). too_far (reply_pair f (encode f cs) asked) p ≡ false) (sym pair_is)
      (not_far k mode (reply_pair f (encode f cs) asked) d i r.near_s r.near_x))))

  number_same : (serve f (image_after f (image_left f (encode f cs) asked) between) s.command s.lent).answer.number ≡ number_on f cards2 s
  unfolding replied
  number_same =
      ap (λ (i : List ℕ). (serve f i s.command s.lent).answer.number) image2
      ∙ ap (λ (e : Event). e.answer.number) (same_event f cards2 s (all_good f cards1 between good1 bb))

  on_cards : k.desk < 65536 → k.start < 65536 → T (listed guard_numbers (serve f (image_after f (image_left f (encode f cs) asked) between) s.command s.lent).answer.number)
  on_cards d i = subst (λ (number : ℕ). T (listed guard_numbers number)) (sym number_same) (listed_on d i)

-- A store that replies is sound.
replied_sound : (f : Format) (image : List ℕ) (s : Sent) → blank_reply (serve f image s.command s.lent).answer.number ≡ false → sound f image ≡ true
unfolding serve serve_by replied
replied_sound f image s h = go (cases (sound f image))
  where
    go : (sound f image ≡ true) ⊎ (sound f image ≡ false) → sound f image ≡ true
    go (inl e) = e
    go (inr e) = let nine : first (store_rows f image s.command (length s.lent)) ≡ 9 = rw e in absurd (never_both (ap blank_reply nine) h)

pub not_stale_after : NotStale
not_stale_after f image asked between k mode s d i ib ab bb r =
    let back = sound_reads_back f image ib (to_T (replied_sound f image asked r.replied)) in
    subst (λ (bytes : List ℕ). T (listed guard_numbers (serve f (image_after f (image_left f bytes asked) between) s.command s.lent).answer.number)) back.same
    (on_cards f (decode f image) back.good asked between k mode s ab bb (subst (λ (bytes : List ℕ). Resumes f bytes asked between k mode s) (sym back.same) r) d i)

-- ---- a desk's own pair

-- A verifier of valid stamps, none of them above the update pair's.
checks : (c : Command) {p q : Pair} → verifier c ≡ p → update c ≡ q → stamp_valid p.s ≡ true → stamp_valid p.x ≡ true → leb p.s q.s ≡ true → leb p.x q.x ≡ true
    → all (verifier_checks c) ≡ true
unfolding all all_from
checks c {p} {q} is-p is-q vs vx s x =
    let low-s : leb (verifier c).s (update c).s ≡ true = ap (λ (d : Pair). leb d.s (update c).s) is-p ∙ ap (λ (d : Pair). leb p.s d.s) is-q ∙ s in
    let low_x : leb (verifier c).x (update c).x ≡ true = ap (λ (d : Pair). leb d.x (update c).x) is-p ∙ ap (λ (d : Pair). leb p.x d.x) is-q ∙ x in
    let valid_s : stamp_valid (verifier c).s ≡ true = ap (λ (d : Pair). stamp_valid d.s) is-p ∙ vs in
    let valid_x : stamp_valid (verifier c).x ≡ true = ap (λ (d : Pair). stamp_valid d.x) is-p ∙ vx in
    four valid_s valid_x low-s low_x
  where
    four : {a b c d : Bool} → a ≡ true → b ≡ true → c ≡ true → d ≡ true → (a && b && c && d) ≡ true
    four e f g h = rw (e, f, g, h)

-- Who never got a request accepted at a queue does not stand in it.
never_stood : (d lent : ℕ) (places : List Waiting) (rs : List Request) → lent ≤ length places → untouched d lent (empty_queue places) rs ≡ true
    → stands d (desks (standing (queue_after lent (empty_queue places) rs))) ≡ false
unfolding stands
never_stood d lent places rs lie alone =
    all_keep d (λ (ws : List Waiting). stands d (desks ws) ≡ false) (λ z ws other p. absent_removed d z ws p) (λ new ws other p. behind new ws other p) lent (empty_queue places)
    rs lie alone refl
  where
    behind : (new : Waiting) (ws : List Waiting) → eqb (desk new) d ≡ false → stands d (desks ws) ≡ false → stands d (desks (ws ++ (new ∷ []))) ≡ false
    behind new ws other p = ap (stands d) (map-append desk ws (new ∷ [])) ∙ stands_append d (desks ws) (desk new ∷ []) ∙ or_none p (or_none other refl)

-- One of the two modes, and a desk: the proposal is made, or 16.
two_rows : (a b : Bool) → a ≡ false → T (listed (16 ∷ []) (first (row a 1 ∷ row b 16 ∷ [])))
two_rows true b e = absurd (never_both refl e)
two_rows false b e = first_all (listed (16 ∷ [])) (row b 16 ∷ []) tt tt

proposal_or_spent : (k : Known) (mode : ℕ) → (k.desk ≡ 0 → ⊥) → (mode ≡ shared) ⊎ (mode ≡ exclusive) → T (listed (16 ∷ []) (proposed k mode).number)
unfolding proposed
proposal_or_spent k mode some which =
    two_rows (not ((eqb mode shared || eqb mode exclusive) && not (eqb k.desk 0))) (ltb last_t (next_t k.desk k.start (own mode k.pair))) (fair which)
  where
    fair : (mode ≡ shared) ⊎ (mode ≡ exclusive) → not ((eqb mode shared || eqb mode exclusive) && not (eqb k.desk 0)) ≡ false
    fair (inl e) = rw (e, ne_eqb k.desk 0 some)
    fair (inr e) = rw (e, ne_eqb k.desk 0 some)

module _ (y : System) (who card mode : ℕ) (width : who < 4294967296) (valid_s : stamp_valid (y.desks.known who card).s ≡ true) (valid_x : stamp_valid (y.desks.known who card).x ≡ true)
    (fine : (proposed (knows y who card) mode).number ≡ 0 → Fine (knows y who card) mode) where
  own_pair : OwnPair y who card mode
  own_pair =
      record {
        proposes = λ some which. proposal_or_spent (knows y who card) mode some which;
        asked = λ e lent q one. from_false (not_out (fine e).rules) ((each_number lent q (asks (own_entry y who card mode)) 0).0 one).0;
        stands_itself = λ e lent q twelve. itself lent q (fine e) ((each_number lent q (asks (own_entry y who card mode)) 11).0 twelve).0;
        unasked = λ e lent places rs lie alone twelve.
            let now = queue_after lent (empty_queue places) rs in
            from_false (never_stood who lent places rs lie alone) (itself lent now (fine e) ((each_number lent now (asks (own_entry y who card mode)) 11).0 twelve).0);
        sent = λ e c mode_is pair_is relies. formed_pairs e (fine e) c mode_is pair_is relies;
      }
    where
      not_out : {b : Bool} → b ≡ true → not b ≡ false
      not_out e = rw e

      itself : (lent : ℕ) (q : State) → Fine (knows y who card) mode
          → T (stands (desk (own_entry y who card mode)) (desks (standing q)) && not (upgrading mode (desk (own_entry y who card mode)) (standing q)))
          → T (stands who (desks (standing q)))
      itself lent q g t =
          let whole : who / 65536 * 65536 + who % 65536 ≡ who = omega arith in
          subst (λ (d : ℕ). T (stands d (desks (standing q)))) (g.desk ∙ whole)
          (T_and_left (stands (desk (own_entry y who card mode)) (desks (standing q))) (not (upgrading mode (desk (own_entry y who card mode)) (standing q))) t)

      -- A verifier of valid stamps that are not above the proposal's.
      relied : (p q : Pair) → stamp_valid p.s ≡ true → stamp_valid p.x ≡ true → p.s ≤ q.s → p.x ≤ q.x → (c : Command) → verifier c ≡ p → update c ≡ q → all (verifier_checks c) ≡ true
      relied p q vs vx s x c is-p is-q = checks c is-p is-q vs vx (le-leb p.s q.s s) (le-leb p.x q.x x)

      formed_pairs : (proposed (knows y who card) mode).number ≡ 0 → Fine (knows y who card) mode → (c : Command) → c.mode ≡ mode → update c ≡ (proposed (knows y who card) mode).pair
          → (verifier c ≡ (proposed (knows y who card) mode).pair) ⊎ (verifier c ≡ y.desks.known who card)
          → all (pair_checks c) ≡ true
      formed_pairs e g c mode_is pair_is relies =
          let session = subst (λ (m : ℕ). all (session_checks m (update c)) ≡ true) (sym mode_is) (subst (λ (p : Pair). all (session_checks mode p) ≡ true) (sym pair_is) g.rules) in
          let rules = session_rules mode (proposed (knows y who card) mode).pair g.rules in
          all_append (session_checks c.mode (update c)) (verifier_checks c) ∙ and_in session (pick rules relies)
        where
          pick : SessionRules mode (proposed (knows y who card) mode).pair → (verifier c ≡ (proposed (knows y who card) mode).pair) ⊎ (verifier c ≡ y.desks.known who card)
              → all (verifier_checks c) ≡ true
          pick rules (inl own) = relied (proposed (knows y who card) mode).pair (proposed (knows y who card) mode).pair rules.s rules.x (omega arith) (omega arith) c own pair_is
          pick rules (inr knew) =
              let up = reaches (knows y who card) mode in
              let made = made_pair (knows y who card) mode e in
              relied (y.desks.known who card) (pair_for (knows y who card) mode) valid_s valid_x up.0 up.1 c knew (pair_is ∙ made)

pub own_pairs : OwnPairs
own_pairs v n c places logs steps r who card mode running =
    let y = finally v n c places logs steps in
    let valid = desks_valid v n c places logs steps r in
    own_pair y who card mode ((kept_finally v n c places logs steps r).numbered who running) (valid.known_s who card) (valid.known_x who card) (λ e. valid.proposes who card mode running e)
