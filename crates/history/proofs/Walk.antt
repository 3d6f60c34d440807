-- A walk over the kept commands, oldest first, that works something out: what is left to work out from the place reached on gives the whole.
-- Assumes nothing.
use Prim.Native.Nat.{ℕ, ◌+◌, ◌-◌, ◌*◌, ◌≤◌, ◌<◌}
use native.Mathlib.Omega.{arith}
use native.Mathlib.Nat.{zero-add}
use mathlib.Core.Path.{◌≡◌, refl, sym, ap, subst, ◌∙◌}
use mathlib.Core.Logic.{◌⊎◌, inl, inr}
use mathlib.Core.List.{List, [], ◌∷◌, ◌++◌, append_assoc, reverse, reverse_aux}
use mathlib.Core.Bool.{Bool, true, false, cond, ◌&&◌}
use lib.Dec.{eqb}
use borrow.Author.Tests.{ne_eqb}
use lib.ListN.{length, take, drop, length-append, length-drop, take-append-drop}
use lib.Seq.{take_all}
use Rattle.formats.specs.Format.{V1, fixed, format_of}
use Rattle.formats.proofs.Numbers.{numbers}
use Rattle.lists.specs.Parts.{concat_map}
use Rattle.lists.proofs.Parts.{part_middle}
use Rattle.lists.proofs.Tests.{cases}
use Rattle.commands.specs.Command.{original, writes}
use Rattle.commands.specs.declared.Command.{Command}
use Rattle.commands.specs.Bytes.{fields_of, payload}
use Rattle.guard.specs.Judge.{raise, last_edition, editions_spent}
use Rattle.guard.specs.Entry.{no_entry}
use Rattle.guard.specs.declared.Entry.{Entry}
use Rattle.stream.specs.Stream.{commands, end_of, end_to_end, unread}
use Rattle.stream.specs.declared.Reader.{Reader}
use Rattle.stream.proofs.Commands.{end_length, paid_in}
use Rattle.stream.proofs.Walks as walk
use Rattle.history.specs.WorkedOut.{concerns, entry_from, highest, times_written}
use Rattle.history.proofs.Raised.{entry_here, entry_other}
use Rattle.history.specs.Lent.{history_size}
use Rattle.history.specs.inner.Steps.{written_by, LiesIn, Measured}

module _ {B : Type 0} (step : B → List ℕ → B) where
  -- One command after another.
  unfoldable pub over : B → List (List ℕ) → B
  over b [] = b
  over b (command ∷ later) = over (step b command) later

  -- What goes command by command is worked out along the way.
  over_is : (f : List (List ℕ) → B) → ((command : List ℕ) (kept : List (List ℕ)) → f (command ∷ kept) ≡ step (f kept) command)
      → (l kept : List (List ℕ)) → over (f kept) l ≡ f (reverse_aux l kept)
  unfolding over
  over_is f h [] kept = refl
  over_is f h (command ∷ l) kept = ap (λ (b : B). over b l) (sym (h command kept)) ∙ over_is f h l (command ∷ kept)

  -- A walk that has come so far: its value, and the commands that are left, give the whole.
  pub working_none : (f : List (List ℕ) → B) → ((command : List ℕ) (kept : List (List ℕ)) → f (command ∷ kept) ≡ step (f kept) command)
      → (s : List ℕ) (b : B) → b ≡ f [] → over b (commands V1 s) ≡ f (reverse (commands V1 s))
  working_none f h s b e = ap (λ (d : B). over d (commands V1 s)) e ∙ over_is f h (commands V1 s) []

  module _ {goal b : B} {left : List (List ℕ)} (w : over b left ≡ goal) where
    pub working_more : {d : B} {command : List ℕ} {rest : List (List ℕ)} → left ≡ command ∷ rest → d ≡ step b command → over d rest ≡ goal
    unfolding over
    working_more e h = rw h (rw e at w)

    pub working_done : left ≡ [] → b ≡ goal
    unfolding over
    working_done e = rw e at w

-- A command that a reader gives has all of its fixed part, in either version.
pub long : (r : Reader) {c : List ℕ} {cs : List (List ℕ)} → unread r ≡ c ∷ cs → fixed V1 ≤ length c
long r e = let v = format_of r.version in omega (arith, numbers v, (walk.given v (drop r.at r.stream.now) e).0)

-- ---- how many

unfoldable pub counted : ℕ → List ℕ → ℕ
counted n command = n + 1

unfoldable pub paid : ℕ → List ℕ → ℕ
paid n command = n + length (payload V1 command)

-- The walk for the totals: both sums, and what they and the commands that are left come to.
pub record Extending (s : List ℕ) (left : List (List ℕ)) (count payloads : ℕ) : Type 0 where
  pub counting : over counted count left ≡ length (reverse (commands V1 s))
  pub paying : over paid payloads left ≡ length (concat_map (payload V1) (reverse (commands V1 s)))
  pub way : count * fixed V1 + payloads + length (end_to_end left) ≡ end_of V1 s

count_goes : (command : List ℕ) (kept : List (List ℕ)) → length (command ∷ kept) ≡ counted (length kept) command
unfolding counted
count_goes command kept = omega arith

pay_goes : (command : List ℕ) (kept : List (List ℕ)) → length (concat_map (payload V1) (command ∷ kept)) ≡ paid (length (concat_map (payload V1) kept)) command
unfolding paid concat_map
pay_goes command kept = rw (length-append) (omega arith)

pub extending_none : (s : List ℕ) → Extending s (commands V1 s) 0 0
unfolding concat_map
extending_none s =
    record {
      counting = working_none counted length count_goes s 0 refl;
      paying = working_none paid (λ (kept : List (List ℕ)). length (concat_map (payload V1) kept)) pay_goes s 0 refl;
      way = zero-add _ ∙ sym (end_length V1 s);
    }

module _ {s : List ℕ} {left : List (List ℕ)} {count payloads : ℕ} (x : Extending s left count payloads) where
  module _ {command : List ℕ} {rest : List (List ℕ)} (e : left ≡ command ∷ rest) where
    -- What is counted so far, and the next command, are within the bytes.
    pub extending_within : count * fixed V1 + payloads + length command ≤ length s
    extending_within = let long = paid_in e in let w = walk.within V1 s in omega (arith, x.way, long, w)

    pub extending_more : fixed V1 ≤ length command → Extending s rest (count + 1) (payloads + (length command - fixed V1))
    unfolding counted paid payload
    extending_more h =
        let long = paid_in e in
        record {
          counting = working_more counted x.counting e refl;
          paying = working_more paid x.paying e (rw length-drop);
          way = omega (arith, x.way, long, h);
        }

  pub extending_done : left ≡ [] → Measured s (count * fixed V1 + payloads) count payloads
  unfolding concat_map
  extending_done e =
      let none : length (end_to_end left) ≡ 0 = ap (λ (cs : List (List ℕ)). length (end_to_end cs)) e in
      let ends : count * fixed V1 + payloads ≡ end_of V1 s = omega (arith, x.way, none) in
      record {
        ends = ends;
        counts = working_done counted x.counting e;
        pays = working_done paid x.paying e;
        sum = refl;
        within = let w = walk.within V1 s in omega (arith, ends, w);
      }

-- ---- an entry

unfoldable pub takes : ℕ → Entry → List ℕ → Entry
takes k e command = cond (concerns k command) (raise e (fields_of V1 command)) e

entry_goes : (k : ℕ) (command : List ℕ) (kept : List (List ℕ)) → entry_from (command ∷ kept) k ≡ takes k (entry_from kept k) command
unfolding takes
entry_goes k command kept = go (cases (concerns k command))
  where
    go : (concerns k command ≡ true) ⊎ (concerns k command ≡ false)
        → entry_from (command ∷ kept) k ≡ cond (concerns k command) (raise (entry_from kept k) (fields_of V1 command)) (entry_from kept k)
    go (inl h) = entry_here kept command k h ∙ rw h
    go (inr h) = entry_other kept command k h ∙ rw h

entry_none : (k : ℕ) → no_entry ≡ entry_from [] k
unfolding entry_from highest times_written
entry_none k = refl

-- A command raises the edition by 1 at most.
edition_next : (k : ℕ) (e : Entry) (command : List ℕ) → (takes k e command).edition ≤ e.edition + 1
unfolding takes raise
edition_next k e command = go (concerns k command)
  where
    raised : (q : Bool) → cond q (e.edition + 1) e.edition ≤ e.edition + 1
    raised true = omega arith
    raised false = omega arith

    go : (p : Bool) → (cond p (raise e (fields_of V1 command)) e).edition ≤ e.edition + 1
    go true = raised (writes original (fields_of V1 command))
    go false = omega arith

-- ---- a text

unfoldable pub puts : ℕ → ℕ → List ℕ → List ℕ → List ℕ
puts act k t command = cond (concerns k command && eqb (fields_of V1 command).act act) (payload V1 command) t

text_goes : (act k : ℕ) (command : List ℕ) (kept : List (List ℕ)) → written_by act (command ∷ kept) k ≡ puts act k (written_by act kept k) command
unfolding written_by puts
text_goes act k command kept = refl

-- ---- the loops

-- The walk for an entry: the edition stays far below the last one.
pub record Entering (s : List ℕ) (k : ℕ) (left : List (List ℕ)) (e : Entry) : Type 0 where
  pub working : over (takes k) e left ≡ entry_from (reverse (commands V1 s)) k
  pub few : e.edition * fixed V1 + length (end_to_end left) ≤ length s
  pub short : length s ≤ history_size

pub entering_none : (s : List ℕ) (k : ℕ) (e : Entry) → length s ≤ history_size → e ≡ no_entry → Entering s k (commands V1 s) e
entering_none s k e h z =
    record {
      working = working_none (takes k) (λ (kept : List (List ℕ)). entry_from kept k) (entry_goes k) s e (z ∙ entry_none k);
      few = let w = walk.within V1 s in rw (z, ← end_length V1 s) (omega (arith, w));
      short = h;
    }

module _ {s : List ℕ} {k : ℕ} {left : List (List ℕ)} {e : Entry} (w : Entering s k left e) where
  pub entering_low : e.edition < last_edition
  entering_low = omega (arith, w.few, w.short)

  pub entering_more : {command : List ℕ} {rest : List (List ℕ)} (d : Entry) → left ≡ command ∷ rest → fixed V1 ≤ length command
      → d ≡ cond (eqb (fields_of V1 command).card k) (raise e (fields_of V1 command)) e → Entering s k rest d
  unfolding takes
  entering_more {command} d h long z =
      let next : d.edition ≤ e.edition + 1 = rw z (edition_next k e command) in
      let all = paid_in h in
      record {
        working = working_more (takes k) w.working h z;
        few = omega (arith, next, w.few, all, long);
        short = w.short;
      }

pub text_none : (act k : ℕ) (s : List ℕ) → over (puts act k) [] (commands V1 s) ≡ written_by act (reverse (commands V1 s)) k
unfolding written_by
text_none act k s = working_none (puts act k) (λ (kept : List (List ℕ)). written_by act kept k) (text_goes act k) s [] refl

-- Its payload where it is for the card and of the act, and else the text as it was. The payload is as long as the rest of the bytes.
pub put_here : (act k : ℕ) (t command : List ℕ) → (eqb (fields_of V1 command).card k && eqb (fields_of V1 command).act act) ≡ true
    → take (length command - fixed V1) (drop (fixed V1) command) ≡ puts act k t command
unfolding puts payload
put_here act k t command e = rw e (take_all _ (drop (fixed V1) command) (simp length-drop (omega arith)))

pub put_other : (act k : ℕ) (t command : List ℕ) → (eqb (fields_of V1 command).card k && eqb (fields_of V1 command).act act) ≡ false → t ≡ puts act k t command
unfolding puts
put_other act k t command e = rw e

-- ---- where a text lies

-- Bytes that stand between others lie in the whole.
lies_middle : (before text after : List ℕ) → LiesIn (before ++ (text ++ after)) text
lies_middle before text after =
    record {
      place = length before;
      inside = simp length-append (omega arith);
      is = part_middle (length before) (length text) before text after refl refl;
    }

-- The payload of a command lies where the command does.
lies_payload : (before c after : List ℕ) → LiesIn (before ++ (c ++ after)) (payload V1 c)
unfolding payload
lies_payload before c after =
    subst (λ (bytes : List ℕ). LiesIn bytes (drop (fixed V1) c)) whole (lies_middle (before ++ take (fixed V1) c) (drop (fixed V1) c) after)
  where
    whole : (before ++ take (fixed V1) c) ++ (drop (fixed V1) c ++ after) ≡ before ++ (c ++ after)
    whole =
        append_assoc before (take (fixed V1) c) (drop (fixed V1) c ++ after)
        ∙ ap (λ (l : List ℕ). before ++ l) (sym (append_assoc (take (fixed V1) c) (drop (fixed V1) c) after)
        ∙ ap (λ (l : List ℕ). l ++ after) (take-append-drop (fixed V1) c))

-- The text that a walk works out lies in the bytes that the walk goes over, if the one that it begins with does.
lies_over : (act k : ℕ) (cs : List (List ℕ)) (before after t : List ℕ) → LiesIn (before ++ (end_to_end cs ++ after)) t
    → LiesIn (before ++ (end_to_end cs ++ after)) (over (puts act k) t cs)
unfolding over puts concat_map
lies_over act k [] before after t h = h
lies_over act k (c ∷ cs) before after t h =
    subst (λ (bytes : List ℕ). LiesIn bytes (over (puts act k) (puts act k t c) cs)) (sym whole)
    (lies_over act k cs (before ++ c) after (puts act k t c) (subst (λ (bytes : List ℕ). LiesIn bytes (puts act k t c)) whole (put (concerns k c && eqb (fields_of V1 c).act act))))
  where
    inside : before ++ (c ++ end_to_end cs ++ after) ≡ before ++ (c ++ (end_to_end cs ++ after))
    inside = ap (λ (l : List ℕ). before ++ l) (append_assoc c (end_to_end cs) after)

    whole : before ++ (c ++ end_to_end cs ++ after) ≡ before ++ c ++ (end_to_end cs ++ after)
    whole = inside ∙ sym (append_assoc before c (end_to_end cs ++ after))

    put : (b : Bool) → LiesIn (before ++ (c ++ end_to_end cs ++ after)) (cond b (payload V1 c) t)
    put true = subst (λ (bytes : List ℕ). LiesIn bytes (payload V1 c)) (sym inside) (lies_payload before c (end_to_end cs ++ after))
    put false = h

-- The text of a card, of either act, lies in the kept bytes.
pub written_lies : (act k : ℕ) (s : List ℕ) → LiesIn s (written_by act (reverse (commands V1 s)) k)
written_lies act k s =
    subst (λ (text : List ℕ). LiesIn s text) (text_none act k s)
    (subst (λ (bytes : List ℕ). LiesIn bytes (over (puts act k) [] (commands V1 s))) (walk.joined V1 s)
    (lies_over act k (commands V1 s) [] (drop (end_of V1 s) s) [] (lies_middle [] [] (end_to_end (commands V1 s) ++ drop (end_of V1 s) s))))

pub never_spent : (e : Entry) (c : Command) → e.edition < last_edition → editions_spent e c ≡ false
never_spent e c h = rw (ne_eqb e.edition last_edition (λ z. omega arith)) (go (writes original c))
  where
    go : (b : Bool) → (b && false) ≡ false
    go true = refl
    go false = refl
