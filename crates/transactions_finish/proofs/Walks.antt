-- A desk that takes its own steps: a look, and an order that is accepted at once. Assumes nothing.
use Prim.Native.Nat.{ℕ, zero, suc, ◌+◌, ◌<◌, max}
use native.Mathlib.Omega.{arith}
use mathlib.Core.Path.{◌≡◌, refl, sym, ap, ◌∙◌, subst}
use mathlib.Core.List.{List, [], ◌∷◌}
use mathlib.Core.Bool.{Bool, true, false, cond, not, ◌&&◌}
use borrow.Author.Tests.{eqb-true, eq-eqb, ne_eqb, lt-ltb}
use lib.ListN.{length, get_or}
use lib.Dec.{eqb, ltb}
use Rattle.formats.specs.Format.{V1}
use Rattle.lists.specs.Parts.{Bytes}
use Rattle.lists.specs.Table.{settled}
use Rattle.lists.proofs.Tests.{and_in, and_left, and_right, or_left, or_right, eqb_comm}
use Rattle.lists.specs.Runs.{foldl, every_along}
use Rattle.stamps.specs.Stamp.{stamp_t}
use Rattle.stamps.specs.declared.Pair.{Pair}
use Rattle.stamps.specs.declared.Mark.{Mark}
use Rattle.commands.specs.declared.Command.{Command}
use Rattle.commands.specs.Command.{original, is_write, writes, update}
use Rattle.commands.specs.Bytes.{formed, payload}
use Rattle.guard.specs.declared.Answer.{Answer}
use Rattle.guard.specs.Judge.{raise}
use Rattle.image.specs.Image.{Card, Cards, GoodCards, decode}
use Rattle.store_model.specs.Serve.{stepped}
use Rattle.store_model.specs.Words.{Sent}
use Rattle.store_model.specs.Claims.{SentBytes}
use Rattle.store_model.proofs.Machine.{number_on}
use Rattle.redo_log.specs.Log.{LogRecord, record_side, record_text, records}
use Rattle.redo_recovery_model.specs.Recovery.{record_in}
use Rattle.transactions.specs.System.{Shown, no_shown, command_in, same_bytes, prepares, writes_out, releases, opens_above, outcome, after_step, reach_of}
use Rattle.transactions.proofs.Serving.{at, then, taken, kept, stepped_here}
use Rattle.transaction_steps.specs.declared.LastSeen.{LastSeen}
use Rattle.transaction_steps.specs.Steps.{ToldStep, plain_step, look_step, write_step, release_step, shows_none, seen_upon, next_step}
use Rattle.transaction_steps_claims.specs.Follower.{
  Mind,
  Follower,
  no_mind,
  Doing,
  incoming,
  arriving,
  sending,
  is_seen,
  carries_out,
  as_told,
  step_of,
  mind_of,
  with_mind,
  after_doing,
  after_doings,
  all_as_told,
  DoingBytes,
  AllDoings,
}
use Rattle.transaction_steps_claims.proofs.Follower.{Going, one}
use Rattle.transactions_finish.specs.Finish.{own_doing, own_doings}
use Rattle.transactions_finish.proofs.Requests.{shows_entry, good_cards, number_on_lem, cards_on, pair_on, mark_on, others_then, count_then, room_then}
use Rattle.transactions_finish.proofs.Commands.{
  sends,
  above,
  above_more,
  looking,
  look_formed,
  look_fields,
  look_bytes,
  Deed,
  releasing,
  writing,
  next_of,
  order_of,
  Fit,
  order_update,
  order_formed,
  order_fields,
  order_payload,
  order_bytes,
  order_taken,
}

abbrev pub cards_of : Follower → Cards
cards_of z = decode V1 z.desk.image

-- ---- lists of steps

pub record Path (d : ℕ) (z end : Follower) : Type 0 where
  pub doings : List Doing
  pub bytes : AllDoings doings
  pub own : own_doings doings ≡ true
  pub told : all_as_told d z doings ≡ true
  pub led : after_doings d z doings ≡ end

pub path_none : (d : ℕ) (z : Follower) → Path d z z
unfolding own_doings every_along foldl
path_none d z = record { doings = []; bytes = tt; own = refl; told = refl; led = refl }

pub path_more : (d : ℕ) (z end : Follower) (a : Doing) → DoingBytes a → own_doing a ≡ true → as_told d z a ≡ true → Path d (after_doing d z a) end → Path d z end
unfolding own_doings every_along foldl
path_more d z end a b o t p = record { doings = a ∷ p.doings; bytes = (b, p.bytes); own = and_in o p.own; told = and_in t p.told; led = p.led }

path_onto : (d : ℕ) (z mid end : Follower) (doings : List Doing) → AllDoings doings → own_doings doings ≡ true → all_as_told d z doings ≡ true → after_doings d z doings ≡ mid
    → Path d mid end → Path d z end
unfolding own_doings every_along foldl
path_onto d z mid end [] b o t e p = subst (λ (w : Follower). Path d w end) (sym e) p
path_onto d z mid end (a ∷ doings) b o t e p =
    path_more d z end a b.0 (and_left (own_doing a) (own_doings doings) o) (and_left (as_told d z a) (all_as_told d (after_doing d z a) doings) t)
    (path_onto d (after_doing d z a) mid end doings b.1 (and_right (own_doing a) (own_doings doings) o) (and_right (as_told d z a) (all_as_told d (after_doing d z a) doings) t) e p)

pub path_join : (d : ℕ) (z mid end : Follower) → Path d z mid → Path d mid end → Path d z end
path_join d z mid end p q = path_onto d z mid end p.doings p.bytes p.own p.told p.led q

-- ---- steps for one card: the log and all other cards stay as they are, and what the desk has in mind of them

pub record Moved (d k : ℕ) (z end : Follower) : Type 0 where
  pub path : Path d z end
  pub going : Going d end
  pub log : end.desk.log ≡ z.desk.log
  pub others : (j : ℕ) → eqb k j ≡ false → at (cards_of end) j ≡ at (cards_of z) j
  pub minds : (j : ℕ) → eqb k j ≡ false → end.minds j ≡ z.minds j
  pub count : length (cards_of end).cards ≡ length (cards_of z).cards
  pub room : (cards_of end).room ≡ (cards_of z).room

pub moved_none : (d k : ℕ) (z : Follower) → Going d z → Moved d k z z
moved_none d k z g = record { path = path_none d z; going = g; log = refl; others = λ j e. refl; minds = λ j e. refl; count = refl; room = refl }

pub moved_join : (d k : ℕ) (z mid end : Follower) → Moved d k z mid → Moved d k mid end → Moved d k z end
moved_join d k z mid end a b =
    record {
      path = path_join d z mid end a.path b.path;
      going = b.going;
      log = b.log ∙ a.log;
      others = λ j e. b.others j e ∙ a.others j e;
      minds = λ j e. b.minds j e ∙ a.minds j e;
      count = b.count ∙ a.count;
      room = b.room ∙ a.room;
    }

-- ---- minds

with_here : (j k : ℕ) (mind : Mind) (minds : ℕ → Mind) → j ≡ k → with_mind j mind minds k ≡ mind
with_here j k mind minds e = rw (eq-eqb k j (sym e))

with_away : (j k i : ℕ) (mind : Mind) (minds : ℕ → Mind) → j ≡ k → eqb k i ≡ false → with_mind j mind minds i ≡ minds i
with_away j k i mind minds e f = ap (λ (b : Bool). cond b mind (minds i)) (ap (eqb i) e ∙ eqb_comm i k ∙ f)

-- What the desk has seen by an answer that it heard.
abbrev pub saw : ℕ → ℕ → LastSeen
saw mark reach = record { known = true; held = false; mark = mark; reach = reach }

-- The desk has this card before it: the last answer is of it, and shows what is stored.
pub record Facing (d k : ℕ) (z : Follower) (mark reach : ℕ) : Type 0 where
  pub seen : (z.minds k).seen ≡ saw mark reach
  pub x : (z.minds k).x ≡ (at (cards_of z) k).pair.x
  pub rest : List Shown
  pub shown : z.desk.shown ≡ record { card = k; x = (at (cards_of z) k).pair.x; reach = reach } ∷ rest

seen_look : (n m mark : ℕ) → shows_none n ≡ false → m ≡ mark → seen_upon look_step 0 n m ≡ saw mark 0
seen_look n m mark e q = rw (e, q)

-- ---- a look

module _ (d : ℕ) (small : d < 65536) (z : Follower) (g : Going d z) (k : ℕ) (inside : k < length (cards_of z).cards) (low : k < 65536) where
  abbrev some : d ≡ 0 → ⊥
  some = g.kept.some

  abbrev look : Sent
  look = sends (looking d k) []

  abbrev pub looked : Follower
  looked = after_doing d z (incoming look true)

  look_place : (command_in look).card ≡ k
  look_place = ap (λ (c : Command). c.card) (look_fields d k small some low)

  apart : eqb 0 d ≡ false
  apart = ne_eqb 0 d (λ e. some (sym e))

  look_told : as_told d z (incoming look true) ≡ true
  look_told = or_right (not (formed V1 look.command))
      (subst (λ (c : Command). (not (eqb c.expected.desk d) && not (eqb c.next.desk d)) ≡ true) (sym (look_fields d k small some low)) (rw apart))

  look_own : own_doing (incoming look true) ≡ true
  look_own = subst (λ (c : Command). not (is_write c) ≡ true) (sym (look_fields d k small some low)) refl

  cards_look : cards_of looked ≡ then (cards_of z) look
  unfolding after_doing after_step
  cards_look = cards_on d z.desk g.kept look (look_bytes d k small some low)

  pub look_moved : Moved d k z looked
  unfolding after_doing after_step
  look_moved =
      record {
        path = path_more d z looked (incoming look true) (look_bytes d k small some low) look_own look_told (path_none d looked);
        going = (one d z g (incoming look true) (look_bytes d k small some low) look_told).going;
        log = refl;
        others = λ j e. ap (λ (m : Cards). at m j) cards_look ∙ others_then (cards_of z) (good_cards d z.desk g.kept) look j (ap (λ (n : ℕ). eqb n j) look_place ∙ e);
        minds = λ j e. with_away (command_in look).card k j (mind_of look_step 0 (outcome z.desk look).answer) z.minds look_place e;
        count = ap (λ (m : Cards). length m.cards) cards_look ∙ count_then (cards_of z) (good_cards d z.desk g.kept) look;
        room = ap (λ (m : Cards). m.room) cards_look ∙ room_then (cards_of z) (good_cards d z.desk g.kept) look;
      }

  entry : shows_none (number_on V1 (cards_of z) look) ≡ false
  entry =
      shows_entry (cards_of z) look (look_formed d k small some low)
      (subst (λ (n : ℕ). ltb n (length (cards_of z).cards) ≡ true) (sym look_place) (lt-ltb k (length (cards_of z).cards) inside))

  pair_look : (outcome z.desk look).answer.pair.x ≡ (at (cards_of looked) k).pair.x
  pair_look =
      ap (λ (p : Pair). p.x) (pair_on d z.desk g.kept look entry)
      ∙ ap (λ (n : ℕ). (at (then (cards_of z) look) n).pair.x) look_place
      ∙ ap (λ (m : Cards). (at m k).pair.x) (sym cards_look)

  mark_look : (outcome z.desk look).answer.mark.desk ≡ (at (cards_of looked) k).mark.desk
  mark_look =
      ap (λ (m : Mark). m.desk) (mark_on d z.desk g.kept look (look_formed d k small some low))
      ∙ ap (λ (n : ℕ). (at (then (cards_of z) look) n).mark.desk) look_place
      ∙ ap (λ (m : Cards). (at m k).mark.desk) (sym cards_look)

  mind_look : looked.minds k ≡ mind_of look_step 0 (outcome z.desk look).answer
  unfolding after_doing
  mind_look = with_here (command_in look).card k (mind_of look_step 0 (outcome z.desk look).answer) z.minds look_place

  shown_look : looked.desk.shown ≡ record { card = (command_in look).card; x = (outcome z.desk look).answer.pair.x; reach = 0 } ∷ z.desk.shown
  unfolding after_doing after_step
  shown_look = refl

  pub look_facing : Facing d k looked (at (cards_of looked) k).mark.desk 0
  look_facing =
      record {
        seen = ap (λ (m : Mind). m.seen) mind_look
            ∙ seen_look (outcome z.desk look).answer.number (outcome z.desk look).answer.mark.desk (at (cards_of looked) k).mark.desk
            (ap shows_none (number_on_lem d z.desk g.kept look) ∙ entry) mark_look;
        x = ap (λ (m : Mind). m.x) mind_look ∙ pair_look;
        rest = z.desk.shown;
        shown = shown_look
            ∙ ap (λ (n : ℕ). record { card = n; x = (outcome z.desk look).answer.pair.x; reach = 0 } ∷ z.desk.shown) look_place
            ∙ ap (λ (n : ℕ). record { card = k; x = n; reach = 0 } ∷ z.desk.shown) pair_look;
      }

  -- A card with the mark refuses the look, and one without it gets none.
  pub look_marked : eqb (at (cards_of z) k).mark.desk d ≡ true → at (cards_of looked) k ≡ at (cards_of z) k
  look_marked m = ap (λ (cs : Cards). at cs k) cards_look ∙ go (number_on V1 (cards_of z) look) refl
    where
      go : (n : ℕ) → number_on V1 (cards_of z) look ≡ n → at (then (cards_of z) look) k ≡ at (cards_of z) k
      go (suc n) q = ap (λ (cs : Cards). at cs k) (kept (cards_of z) look (good_cards d z.desk g.kept) n q)
      go zero q =
          let t = taken (cards_of z) look (good_cards d z.desk g.kept) q in
          let zero_is : (at (cards_of z) k).mark.desk ≡ 0 =
          ap (λ (n : ℕ). (at (cards_of z) n).mark.desk) (sym look_place) ∙ sym t.fits ∙ ap (λ (c : Command). c.expected.desk) (look_fields d k small some low) in
          absurd (some (sym (eqb-true (at (cards_of z) k).mark.desk d m) ∙ zero_is))

  pub look_unmarked : eqb (at (cards_of z) k).mark.desk d ≡ false → eqb (at (cards_of looked) k).mark.desk d ≡ false
  look_unmarked m = subst (λ (cs : Cards). eqb (at cs k).mark.desk d ≡ false) (sym cards_look) (go (number_on V1 (cards_of z) look) refl)
    where
      go : (n : ℕ) → number_on V1 (cards_of z) look ≡ n → eqb (at (then (cards_of z) look) k).mark.desk d ≡ false
      go (suc n) q = subst (λ (cs : Cards). eqb (at cs k).mark.desk d ≡ false) (sym (kept (cards_of z) look (good_cards d z.desk g.kept) n q)) m
      go zero q =
          let t = taken (cards_of z) look (good_cards d z.desk g.kept) q in
          let zero_is : (at (then (cards_of z) look) k).mark.desk ≡ 0 =
          ap (λ (n : ℕ). (at (then (cards_of z) look) n).mark.desk) (sym look_place) ∙ ap (λ (w : Mark). w.desk) t.mark ∙ ap (λ (c : Command). c.next.desk) (look_fields d k small some low) in
          ap (λ (n : ℕ). eqb n d) zero_is ∙ apart

-- ---- an order

-- The step that it is, the line that it writes, and the reach that its answer shows.
abbrev pub telling : Deed → ℕ → ToldStep
telling releasing line = plain_step release_step
telling (writing b) line = record { step = write_step; line = line; transaction = 0 }

abbrev pub Carrying : Deed → List LogRecord → ℕ → List ℕ → Type 0
Carrying releasing rs line text = Unit {0}
Carrying (writing b) rs line text = (eqb (record_side (record_in rs line)) 1 ≡ b) × (text ≡ record_text (record_in rs line))

abbrev pub reaching : Deed → ℕ → ℕ
reaching releasing line = 0
reaching (writing b) line = line + 1

abbrev pub edition_after : Deed → ℕ → ℕ
edition_after releasing e = e
edition_after (writing b) e = cond b (e + 1) e

same_refl : (l : List ℕ) → same_bytes l l ≡ true
same_refl [] = refl
same_refl (b ∷ l) = and_in (eq-eqb b b refl) (same_refl l)

carries : (d : ℕ) (rs : List LogRecord) (s : Sent) (k : ℕ) (card : Card) (deed : Deed) (size line : ℕ) → command_in s ≡ order_of d k card deed size → card.mark.desk ≡ d
    → Carrying deed rs line (payload V1 s.command) → carries_out d rs s (telling deed line) line ≡ true
carries d rs s k card releasing size line f m w =
    let out : releases d (command_in s) ≡ true = subst (λ (c : Command). releases d c ≡ true) (sym f) (rw (eq-eqb card.mark.desk d m)) in
    or_left _ out
carries d rs s k card (writing true) size line f m w =
    let out : writes_out d (command_in s) ≡ true = subst (λ (c : Command). writes_out d c ≡ true) (sym f) (rw (eq-eqb card.mark.desk d m)) in
    let act : (command_in s).act ≡ 3 = ap (λ (c : Command). c.act) f in
    and_in (and_in (eq-eqb line line refl) out)
    (and_in (eq-eqb (command_in s).act _ (act ∙ sym (ap (λ (b : Bool). cond b 3 4) w.0)))
    (subst (λ (l : List ℕ). same_bytes (payload V1 s.command) l ≡ true) w.1 (same_refl (payload V1 s.command))))
carries d rs s k card (writing false) size line f m w =
    let out : writes_out d (command_in s) ≡ true = subst (λ (c : Command). writes_out d c ≡ true) (sym f) (rw (eq-eqb card.mark.desk d m)) in
    let act : (command_in s).act ≡ 4 = ap (λ (c : Command). c.act) f in
    and_in (and_in (eq-eqb line line refl) out)
    (and_in (eq-eqb (command_in s).act _ (act ∙ sym (ap (λ (b : Bool). cond b 3 4) w.0)))
    (subst (λ (l : List ℕ). same_bytes (payload V1 s.command) l ≡ true) w.1 (same_refl (payload V1 s.command))))

-- What its answer tells.
step_is : (d : ℕ) (s : Sent) (k : ℕ) (card : Card) (deed : Deed) (size line mark : ℕ) → (d ≡ 0 → ⊥) → command_in s ≡ order_of d k card deed size → card.mark.desk ≡ d
    → (seen_upon (step_of d s) line 0 mark ≡ saw mark (reaching deed line))
step_is d s k card releasing size line mark some f m =
    ap (λ (c : Command). seen_upon (cond (prepares d c) 2 (cond (is_write c) 4 5)) line 0 mark) f ∙ rw (ne_eqb card.mark.desk 0 (λ e. some (sym m ∙ e)))
step_is d s k card (writing true) size line mark some f m = ap (λ (c : Command). seen_upon (cond (prepares d c) 2 (cond (is_write c) 4 5)) line 0 mark) f
step_is d s k card (writing false) size line mark some f m = ap (λ (c : Command). seen_upon (cond (prepares d c) 2 (cond (is_write c) 4 5)) line 0 mark) f

reach_is : (d : ℕ) (s : Sent) (k : ℕ) (card : Card) (deed : Deed) (size line : ℕ) (a : Answer) → a.number ≡ 0 → command_in s ≡ order_of d k card deed size
    → reach_of (record { sent = s; line = line }) a ≡ reaching deed line
reach_is d s k card releasing size line a z f = ap (λ (c : Command). cond (is_write c) (settled a.number (suc line) 0) 0) f
reach_is d s k card (writing true) size line a z f = ap (λ (c : Command). cond (is_write c) (settled a.number (suc line) 0) 0) f ∙ ap (λ (n : ℕ). settled n (suc line) 0) z ∙ omega arith
reach_is d s k card (writing false) size line a z f = ap (λ (c : Command). cond (is_write c) (settled a.number (suc line) 0) 0) f ∙ ap (λ (n : ℕ). settled n (suc line) 0) z ∙ omega arith

edition_of_lem : (card : Card) (c : Command) (t : List ℕ) → (stepped card c t).edition ≡ cond (writes original c) (card.edition + 1) card.edition
unfolding stepped raise
edition_of_lem card c t = refl

edition_is : (d k : ℕ) (card : Card) (deed : Deed) (size : ℕ) → cond (writes original (order_of d k card deed size)) (card.edition + 1) card.edition ≡ edition_after deed card.edition
edition_is d k card releasing size = refl
edition_is d k card (writing true) size = refl
edition_is d k card (writing false) size = refl

module _ (d : ℕ) (small : d < 65536) (z : Follower) (g : Going d z) (k : ℕ) (inside : k < length (cards_of z).cards) (low : k < 65536)
    (left : stamp_t (at (cards_of z) k).pair.x + 1 < 4294967296) (marked : (at (cards_of z) k).mark.desk ≡ d) (reach : ℕ) (facing : Facing d k z d reach)
    (deed : Deed) (text : List ℕ) (tb : Bytes text) (short : length text < 65536) (fit : Fit (cards_of z) (at (cards_of z) k) deed text) (line : ℕ)
    (next_is : next_step d (records z.desk.log) k false (saw d reach) ≡ telling deed line) (carrying : Carrying deed (records z.desk.log) line text) where
  abbrev cs : Cards
  cs = cards_of z

  abbrev card : Card
  card = at cs k

  gc : GoodCards V1 cs
  gc = good_cards d z.desk g.kept

  abbrev s : Sent
  s = sends (order_of d k card deed (length text)) text

  abbrev c : Command
  c = order_of d k card deed (length text)

  abbrev v : Shown
  v = record { card = k; x = card.pair.x; reach = reach }

  fields : command_in s ≡ c
  fields = order_fields cs gc d k small g.kept.some inside low left deed text tb short fit

  bytes : SentBytes s
  bytes = order_bytes cs gc d k small g.kept.some inside low left deed text tb short fit

  place : (command_in s).card ≡ k
  place = ap (λ (q : Command). q.card) fields

  up : update c ≡ record { s = card.pair.s; x = above d card.pair.x }
  up = order_update cs gc d k small g.kept.some inside low left deed text tb short fit

  first_shown : get_or z.desk.shown 0 no_shown ≡ v
  first_shown = ap (λ (l : List Shown). get_or l 0 no_shown) facing.shown

  within : ltb 0 (length z.desk.shown) ≡ true
  within = lt-ltb 0 (length z.desk.shown) (subst (λ (l : List Shown). 0 < length l) (sym facing.shown) (omega arith))

  seen_one : is_seen (get_or z.desk.shown 0 no_shown) (command_in s).card (z.minds (command_in s).card) ≡ true
  seen_one =
      subst (λ (w : Shown). is_seen w (command_in s).card (z.minds (command_in s).card) ≡ true) (sym first_shown)
      (subst (λ (j : ℕ). is_seen v j (z.minds j) ≡ true) (sym place)
      (and_in (and_in (eq-eqb k k refl) (eq-eqb card.pair.x (z.minds k).x (sym facing.x))) (eq-eqb reach (z.minds k).seen.reach (sym (ap (λ (l : LastSeen). l.reach) facing.seen)))))

  opens : opens_above (command_in s) (get_or z.desk.shown 0 no_shown) ≡ true
  opens =
      subst (λ (w : Shown). opens_above (command_in s) w ≡ true) (sym first_shown)
      (subst (λ (q : Command). opens_above q v ≡ true) (sym fields)
      (and_in (and_in (eq-eqb k k refl) (eq-eqb card.pair.x card.pair.x refl))
      (lt-ltb card.pair.x (update c).x (subst (λ (p : Pair). card.pair.x < p.x) (sym up) (above_more d card.pair.x small g.kept.some left)))))

  payload_is : payload V1 s.command ≡ text
  payload_is = order_payload cs gc d k small g.kept.some inside low left deed text tb short fit

  carried : carries_out d (records z.desk.log) s (next_step d (records z.desk.log) (command_in s).card false (z.minds (command_in s).card).seen) line ≡ true
  carried =
      subst (λ (j : ℕ). carries_out d (records z.desk.log) s (next_step d (records z.desk.log) j false (z.minds j).seen) line ≡ true) (sym place)
      (subst (λ (l : LastSeen). carries_out d (records z.desk.log) s (next_step d (records z.desk.log) k false l) line ≡ true) (sym facing.seen)
      (subst (λ (n : ToldStep). carries_out d (records z.desk.log) s n line ≡ true) (sym next_is)
      (carries d (records z.desk.log) s k card deed (length text) line fields marked (subst (Carrying deed (records z.desk.log) line) (sym payload_is) carrying))))

  send_told : as_told d z (sending s false line 0) ≡ true
  send_told = and_in (and_in (and_in within seen_one) opens) carried

  abbrev sent : Follower
  sent = after_doing d z (sending s false line 0)

  g1 : Going d sent
  g1 = (one d z g (sending s false line 0) bytes send_told).going

  arrive_told : as_told d sent (arriving 0 true) ≡ true
  unfolding after_doing after_step
  arrive_told = lt-ltb 0 (suc (length z.desk.orders)) (omega arith)

  abbrev pub ordered : Follower
  ordered = after_doing d sent (arriving 0 true)

  abbrev a : Answer
  a = (outcome z.desk s).answer

  number : number_on V1 cs s ≡ 0
  number = order_taken cs gc d k small g.kept.some inside low left deed text tb short fit

  cards_order : cards_of ordered ≡ then cs s
  unfolding after_doing after_step
  cards_order = cards_on d z.desk g.kept s bytes

  minds_order : ordered.minds ≡ with_mind (command_in s).card (mind_of (step_of d s) line a) (with_mind (command_in s).card no_mind z.minds)
  unfolding after_doing after_step
  minds_order = refl

  shown_order : ordered.desk.shown ≡ record { card = (command_in s).card; x = a.pair.x; reach = reach_of (record { sent = s; line = line }) a } ∷ z.desk.shown
  unfolding after_doing after_step
  shown_order = refl

  log_order : ordered.desk.log ≡ z.desk.log
  unfolding after_doing after_step
  log_order = refl

  pub order_moved : Moved d k z ordered
  order_moved =
      record {
        path = path_more d z ordered (sending s false line 0) bytes refl send_told (path_more d sent ordered (arriving 0 true) tt refl arrive_told (path_none d ordered));
        going = (one d sent g1 (arriving 0 true) tt arrive_told).going;
        log = log_order;
        others = λ j e. ap (λ (m : Cards). at m j) cards_order ∙ others_then cs gc s j (ap (λ (n : ℕ). eqb n j) place ∙ e);
        minds = λ j e.
            ap (λ (m : ℕ → Mind). m j) minds_order
            ∙ with_away (command_in s).card k j (mind_of (step_of d s) line a) (with_mind (command_in s).card no_mind z.minds) place e
            ∙ with_away (command_in s).card k j no_mind z.minds place e;
        count = ap (λ (m : Cards). length m.cards) cards_order ∙ count_then cs gc s;
        room = ap (λ (m : Cards). m.room) cards_order ∙ room_then cs gc s;
      }

  -- The card after it.
  card_order : at (cards_of ordered) k ≡ stepped card c (payload V1 s.command)
  card_order =
      ap (λ (m : Cards). at m k) cards_order
      ∙ ap (λ (n : ℕ). at (then cs s) n) (sym place)
      ∙ stepped_here cs s gc number
      ∙ ap (λ (q : Command). stepped (at cs q.card) q (payload V1 s.command)) fields

  mark_of : (e : Card) (q : Command) (t : List ℕ) → (stepped e q t).mark ≡ q.next
  unfolding stepped raise
  mark_of e q t = refl

  x_of : (e : Card) (q : Command) (t : List ℕ) → (stepped e q t).pair.x ≡ max e.pair.x (update q).x
  unfolding stepped raise
  x_of e q t = refl

  pub mark_order : (at (cards_of ordered) k).mark ≡ next_of deed card.mark
  mark_order = ap (λ (e : Card). e.mark) card_order ∙ mark_of card c (payload V1 s.command)

  pub x_order : (at (cards_of ordered) k).pair.x ≡ above d card.pair.x
  x_order =
      ap (λ (e : Card). e.pair.x) card_order
      ∙ x_of card c (payload V1 s.command)
      ∙ ap (λ (p : Pair). max card.pair.x p.x) up
      ∙ larger
    where
      larger : max card.pair.x (above d card.pair.x) ≡ above d card.pair.x
      larger = let more = above_more d card.pair.x small g.kept.some left in omega arith

  pub edition_order : (at (cards_of ordered) k).edition ≡ edition_after deed card.edition
  edition_order = ap (λ (e : Card). e.edition) card_order ∙ edition_of_lem card c (payload V1 s.command) ∙ edition_is d k card deed (length text)

  number_order : a.number ≡ 0
  number_order = number_on_lem d z.desk g.kept s ∙ number

  pair_order : a.pair.x ≡ (at (cards_of ordered) k).pair.x
  pair_order =
      ap (λ (p : Pair). p.x) (pair_on d z.desk g.kept s (ap shows_none number))
      ∙ ap (λ (n : ℕ). (at (then cs s) n).pair.x) place
      ∙ ap (λ (m : Cards). (at m k).pair.x) (sym cards_order)

  desk_order : a.mark.desk ≡ (next_of deed card.mark).desk
  desk_order =
      ap (λ (m : Mark). m.desk) (mark_on d z.desk g.kept s (order_formed cs gc d k small g.kept.some inside low left deed text tb short fit))
      ∙ ap (λ (n : ℕ). (at (then cs s) n).mark.desk) place
      ∙ ap (λ (m : Cards). (at m k).mark.desk) (sym cards_order)
      ∙ ap (λ (m : Mark). m.desk) mark_order

  mind_order : ordered.minds k ≡ mind_of (step_of d s) line a
  mind_order = ap (λ (m : ℕ → Mind). m k) minds_order ∙ with_here (command_in s).card k (mind_of (step_of d s) line a) (with_mind (command_in s).card no_mind z.minds) place

  pub order_facing : Facing d k ordered (next_of deed card.mark).desk (reaching deed line)
  order_facing =
      record {
        seen = ap (λ (m : Mind). m.seen) mind_order
            ∙ ap (λ (n : ℕ). seen_upon (step_of d s) line n a.mark.desk) number_order
            ∙ ap (λ (n : ℕ). seen_upon (step_of d s) line 0 n) desk_order
            ∙ step_is d s k card deed (length text) line (next_of deed card.mark).desk g.kept.some fields marked;
        x = ap (λ (m : Mind). m.x) mind_order ∙ pair_order;
        rest = z.desk.shown;
        shown = shown_order
            ∙ ap (λ (n : ℕ). record { card = n; x = a.pair.x; reach = reach_of (record { sent = s; line = line }) a } ∷ z.desk.shown) place
            ∙ ap (λ (n : ℕ). record { card = k; x = n; reach = reach_of (record { sent = s; line = line }) a } ∷ z.desk.shown) pair_order
            ∙ ap (λ (n : ℕ). record { card = k; x = (at (cards_of ordered) k).pair.x; reach = n } ∷ z.desk.shown)
            (reach_is d s k card deed (length text) line a number_order fields);
      }
