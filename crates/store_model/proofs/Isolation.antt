-- Isolation of sessions, from the rule for late commands and from what a well-formed command is. Nothing here opens the store.
-- Assumes nothing.
use Prim.Native.Nat.{ℕ, ◌<◌, ◌≤◌}
use native.Mathlib.Omega.{arith}
use mathlib.Core.Path.{◌≡◌, sym, ap, subst, ◌∙◌}
use mathlib.Core.Logic.{◌⊎◌, inl, inr}
use mathlib.Core.List.{List, ◌∷◌, ◌++◌, append_assoc}
use mathlib.Core.Bool.{Bool, true, false, ◌&&◌}
use borrow.Author.Tests.{eqb-true, eq-eqb, ne_eqb, ltb-false}
use lib.Dec.{eqb, ltb}
use Rattle.lists.proofs.Tests.{from_T, to_false, cases, and_in, and_right, or_fails, not_in}
use Rattle.stamps.specs.Stamp.{shared, exclusive, desk_start, desk_of, own}
use Rattle.commands.specs.Command.{verifier, update, Session}
use Rattle.commands.specs.declared.Command.{Command}
use Rattle.stamps.specs.declared.Pair.{Pair}
use Rattle.store_model.specs.Words.{Event, command_of, accepted, Proper, larger_s, larger_x, late, carries, formed_for, premise, commands_in, OneSession, desk_in, intrudes}
use Rattle.lists.specs.Search.{any, none}
use Rattle.commands.proofs.Rules.{CommandRules}
use Rattle.store_model.specs.Meaning.{Among, Intruder}
use Rattle.store_model.proofs.Meaning.{among_here, among_right, among_map, none_means, premise_means, accepted_means, intrudes_means}

-- What an accepted event is known to be by the events before it: it is proper, by the rules of a command, and not late.
pub record Timely (n : ℕ) (e : Event) (before : List Event) : Type 0 where
  pub proper : Proper n e
  pub rules : CommandRules (command_of e)
  pub prompt : late before (command_of e) ≡ false

-- A command that is not late is not below any command accepted before it for its card: its x, and its s if it is exclusive. Of its verifier this is what
-- not being late means; its update pair reaches the verifier.
module _ (k : ℕ) (c : Command) (rules : CommandRules c) (before : List Event) (card : c.card ≡ k) (prompt : late before c ≡ false) (e : Event)
    (m : Among e before) (a : accepted k e ≡ true) where
  -- No event before that is accepted for the card has a larger stamp on that side.
  reaches : (side : Pair → ℕ) → any (λ (d : Event). accepted c.card d && ltb (side (verifier c)) (side (update (command_of d)))) before ≡ false
      → side (update (command_of e)) ≤ side (verifier c)
  reaches side quiet =
      let at-card : accepted c.card e ≡ true = subst (λ (j : ℕ). accepted j e ≡ true) (sym card) a in
      let larger : Event → Bool = λ (d : Event). accepted c.card d && ltb (side (verifier c)) (side (update (command_of d))) in
      ltb-false (side (verifier c)) (side (update (command_of e)))
      (sym (ap (λ (b : Bool). b && ltb (side (verifier c)) (side (update (command_of e)))) at-card) ∙ (none_means larger before).0 (not_in quiet) e m)

  on_time : (any (larger_x c.card c) before ≡ false) × ((eqb c.mode exclusive && any (larger_s c.card c) before) ≡ false)
  on_time = or_fails (any (larger_x c.card c) before) (eqb c.mode exclusive && any (larger_s c.card c) before) prompt

  reaches_x : (update (command_of e)).x ≤ (update c).x
  reaches_x = omega (arith, rules.reached, reaches (λ (p : Pair). p.x) on_time.0)

  reaches_s : c.mode ≡ exclusive → (update (command_of e)).s ≤ (update c).s
  reaches_s x =
      let by-verifier = reaches (λ (p : Pair). p.s) (sym (ap (λ (b : Bool). b && any (larger_s c.card c) before) (eq-eqb c.mode exclusive x)) ∙ on_time.1) in
      omega (arith, rules.reached, by-verifier)

-- The mode's own stamp.
own_shared : (c : Command) → c.mode ≡ shared → own c.mode (update c) ≡ (update c).s
own_shared c e = rw e

own_exclusive : (c : Command) → c.mode ≡ exclusive → own c.mode (update c) ≡ (update c).x
own_exclusive c e = rw e

-- A shared and an exclusive command with one exclusive stamp are of one desk, where the shared one's s is not above the other's and the premise
-- holds of the two.
meets : (c d : Command) → CommandRules d → c.mode ≡ shared → d.mode ≡ exclusive → (update c).x ≡ (update d).x → (update c).s ≤ (update d).s
    → (carries c ≡ true → (update d).s < (update c).s)
    → desk_of c.mode (update c) ≡ desk_of d.mode (update d)
meets c d r h g x s order = go (cases (eqb (desk_start (update c).x) (desk_start (update c).s)))
  where
    stamped : eqb (update c).x 0 ≡ false
    stamped = ne_eqb (update c).x 0 (λ z. r.session.some (own_exclusive d g ∙ sym x ∙ z))

    go : (eqb (desk_start (update c).x) (desk_start (update c).s) ≡ true) ⊎ (eqb (desk_start (update c).x) (desk_start (update c).s) ≡ false)
        → desk_of c.mode (update c) ≡ desk_of d.mode (update d)
    go (inl e) =
        ap desk_start (own_shared c h)
        ∙ sym (eqb-true (desk_start (update c).x) (desk_start (update c).s) e)
        ∙ ap desk_start (x ∙ sym (own_exclusive d g))
    go (inr e) =
        let above = order (and_in (and_in (eq-eqb c.mode shared h) (not_in stamped)) (not_in e)) in
        absurd (omega arith)

module _ (n : ℕ) (trace : List Event)
    (timely : (later : List Event) (e : Event) (before : List Event) → trace ≡ later ++ e ∷ before → e.answer.number ≡ 0 → Timely n e before) where
  sent_for_lem : (k : ℕ) (e : Event) → Proper n e → accepted k e ≡ true → formed_for k e.read ≡ true
  sent_for_lem k e p a =
      and_in p.well_formed (and_right (eqb e.answer.number 0) (eqb (command_of e).card k) a)

  was_read : (e : Event) → Among e trace → Among e.read (commands_in trace)
  was_read e m = among_map (λ (e : Event). e.read) m

  module _ (k : ℕ) (b : Event) (e : Event) (a : Event) (later m₁ m₂ before : List Event) (holds : premise k (commands_in trace) ≡ true)
      (trace_is : trace ≡ later ++ b ∷ (m₁ ++ e ∷ (m₂ ++ a ∷ before))) (by-b : accepted k b ≡ true) (by-e : accepted k e ≡ true) (by-a : accepted k a ≡ true)
      (one : OneSession a b) where
    time_b : Timely n b (m₁ ++ e ∷ (m₂ ++ a ∷ before))
    time_b = timely later b (m₁ ++ e ∷ (m₂ ++ a ∷ before)) trace_is ((accepted_means k b).0 by-b).0

    e_in : trace ≡ (later ++ b ∷ m₁) ++ e ∷ (m₂ ++ a ∷ before)
    e_in = trace_is ∙ sym (append_assoc later (b ∷ m₁) (e ∷ (m₂ ++ a ∷ before)))

    time_e : Timely n e (m₂ ++ a ∷ before)
    time_e = timely (later ++ b ∷ m₁) e (m₂ ++ a ∷ before) e_in ((accepted_means k e).0 by-e).0

    rules_b : CommandRules (command_of b)
    rules_b = time_b.rules

    rules_e : CommandRules (command_of e)
    rules_e = time_e.rules

    same_pair_lem : update (command_of a) ≡ update (command_of b)
    same_pair_lem = ap (λ (s : Session). s.pair) one

    e_x : (update (command_of e)).x ≡ (update (command_of b)).x
    e_x =
        let up = reaches_x k (command_of b) rules_b (m₁ ++ e ∷ (m₂ ++ a ∷ before)) ((accepted_means k b).0 by-b).1 time_b.prompt e (among_right m₁ (among_here e (m₂ ++ a ∷ before))) by-e in
        let low = reaches_x k (command_of e) rules_e (m₂ ++ a ∷ before) ((accepted_means k e).0 by-e).1 time_e.prompt a (among_right m₂ (among_here a before)) by-a in
        let same : (update (command_of a)).x ≡ (update (command_of b)).x = ap (λ (p : Pair). p.x) same_pair_lem in
        omega arith

    -- The two are not below one another, as their modes ask.
    e_below_b : (command_of b).mode ≡ exclusive → (update (command_of e)).s ≤ (update (command_of b)).s
    e_below_b x =
        reaches_s k (command_of b) rules_b (m₁ ++ e ∷ (m₂ ++ a ∷ before)) ((accepted_means k b).0 by-b).1 time_b.prompt e (among_right m₁ (among_here e (m₂ ++ a ∷ before))) by-e x

    b_below_e : (command_of e).mode ≡ exclusive → (update (command_of b)).s ≤ (update (command_of e)).s
    b_below_e x =
        let low = reaches_s k (command_of e) rules_e (m₂ ++ a ∷ before) ((accepted_means k e).0 by-e).1 time_e.prompt a (among_right m₂ (among_here a before)) by-a x in
        let same : (update (command_of a)).s ≡ (update (command_of b)).s = ap (λ (p : Pair). p.s) same_pair_lem in
        omega arith

    -- What the premise says of two accepted events of the trace.
    ordered : (c d : Event) → Among c trace → Among d trace → Proper n c → Proper n d → accepted k c ≡ true → accepted k d ≡ true
        → (command_of d).mode ≡ exclusive
        → (update (command_of d)).x ≡ (update (command_of c)).x
        → carries (command_of c) ≡ true
        → (update (command_of d)).s < (update (command_of c)).s
    ordered c d mc md pc pd ac ad x same carry =
        (premise_means k (commands_in trace)).0 holds c.read d.read (was_read c mc) (was_read d md) (sent_for_lem k c pc ac) (sent_for_lem k d pd ad) carry
        (and_in (eq-eqb (command_of d).mode exclusive x) (eq-eqb (update (command_of d)).x (update (command_of c)).x same))

    b_among : Among b trace
    b_among = record { front = later; back = m₁ ++ e ∷ (m₂ ++ a ∷ before); split = trace_is }

    e_among : Among e trace
    e_among = record { front = later ++ b ∷ m₁; back = m₂ ++ a ∷ before; split = e_in }

    -- Where one of the two is exclusive, they are of one desk.
    one_desk : ((command_of b).mode ≡ shared) ⊎ ((command_of b).mode ≡ exclusive) → ((command_of e).mode ≡ shared) ⊎ ((command_of e).mode ≡ exclusive)
        → ((command_of b).mode ≡ exclusive) ⊎ ((command_of e).mode ≡ exclusive)
        → desk_in e ≡ desk_in b
    one_desk (inl hb) (inl he) (inl x) = absurd (omega arith)
    one_desk (inl hb) (inl he) (inr x) = absurd (omega arith)
    one_desk (inl hb) (inr he) mixed =
        sym
        (meets (command_of b) (command_of e) rules_e hb he (sym e_x) (b_below_e he)
        (ordered b e b_among e_among time_b.proper time_e.proper by-b by-e he e_x))
    one_desk (inr hb) (inl he) mixed =
        meets (command_of e) (command_of b) rules_b he hb e_x (e_below_b hb)
        (ordered e b e_among b_among time_e.proper time_b.proper by-e by-b hb (sym e_x))
    one_desk (inr hb) (inr he) mixed =
        ap desk_start (own_exclusive (command_of e) he ∙ e_x ∙ sym (own_exclusive (command_of b) hb))

    peaceful : Intruder k b e → ⊥
    peaceful i = i.desk (one_desk rules_b.session.mode rules_e.session.mode i.mixed)

  pub isolated : (k : ℕ) (later : List Event) (b : Event) (between : List Event) (a : Event) (before : List Event)
      → premise k (commands_in trace) ≡ true
      → trace ≡ later ++ b ∷ (between ++ a ∷ before)
      → accepted k a ≡ true
      → accepted k b ≡ true
      → OneSession a b
      → none (intrudes k b) between ≡ true
  isolated k later b between a before holds trace_is by-a by-b one = (none_means (intrudes k b) between).1 each
    where
      each : (e : Event) → Among e between → intrudes k b e ≡ false
      each e m = to_false (intrudes k b e) (λ h. alone ((intrudes_means k b e).0 (from_T (intrudes k b e) h)))
        where
          parts : trace ≡ later ++ b ∷ (m.front ++ e ∷ (m.back ++ a ∷ before))
          parts =
              trace_is
              ∙ ap (λ (l : List Event). later ++ b ∷ l)
              (ap (λ (l : List Event). l ++ a ∷ before) m.split ∙ append_assoc m.front (e ∷ m.back) (a ∷ before))

          alone : Intruder k b e → ⊥
          alone i =
              peaceful k b e a later m.front m.back before holds parts by-b ((accepted_means k e).1 (i.accepted, i.card)) by-a one i
