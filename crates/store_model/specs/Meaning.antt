-- What the words of demand 3 mean (rules 9.2 to 9.7), each said once more without tests: there is an event of the list that .., the last event that is so .. .
-- Proved in proofs/Meaning and proofs/Words.
-- Assumes nothing.
use Rattle.std.specs.Prelude.{ℕ, ◌+◌, ◌<◌, ◌%◌, ◌≡◌, ◌↔◌, ◌⊎◌, List, [], ◌∷◌, ◌++◌, Bool, true}
use Rattle.lists.specs.Search.{any, none}
use Rattle.stamps.specs.Stamp.{shared, exclusive, stamp_t, desk_number, desk_of, most_ahead, no_mark, mark_fits}
use Rattle.stamps.specs.declared.Pair.{Pair}
use Rattle.commands.specs.Command.{Language, original, translation, verifier, update}
use Rattle.commands.specs.declared.Command.{Command}
use Rattle.store_model.specs.Words.{Received, Event, command_of, accepted, wrote, late, far_ahead, right_mark, outdated, last_text, formed_for, carries, under, premise, OneSession, intrudes}

module _ {A : Type 0} where
  -- The element stands in the list.
  pub record Among (a : A) (l : List A) : Type 0 where
    pub front : List A
    pub back : List A
    pub split : l ≡ front ++ a ∷ back

  -- The first element of the list that is so: it is so, and none in front of it is. (Of events, latest first, it is the last one.)
  pub record Nearest (p : A → Bool) (a : A) (l : List A) : Type 0 where
    pub among : Among a l
    pub holds : p a ≡ true
    pub alone : none p among.front ≡ true

-- Rule 9.2, late: an earlier accepted command for the card has a larger x, or, where the command is exclusive itself, a larger s.
pub record Overtakes (c : Command) (e : Event) : Type 0 where
  pub accepted : e.answer.number ≡ 0
  pub card : (command_of e).card ≡ c.card
  pub larger : ((verifier c).x < (update (command_of e)).x) ⊎ ((c.mode ≡ exclusive) × ((verifier c).s < (update (command_of e)).s))

-- Rule 9.7, too far ahead on one side: the T is more than 1,000,000 above zero, so that there is a stamp, and above the T of each earlier accepted
-- command for the card, so above the largest.
pub record Beyond (side : Pair → ℕ) (before : List Event) (c : Command) : Type 0 where
  pub some : side (update c) ≡ 0 → ⊥
  pub nothing : most_ahead < stamp_t (side (update c))
  pub each :
      (e : Event) → Among e before → e.answer.number ≡ 0 → (command_of e).card ≡ c.card
      → stamp_t (side (update (command_of e))) + most_ahead < stamp_t (side (update c))

-- Rule 9.3, the right mark: the expected mark passes the one that the last accepted command for the card left.
pub record Passes (before : List Event) (c : Command) : Type 0 where
  pub last : Event
  pub nearest : Nearest (accepted c.card) last before
  pub passes : mark_fits (command_of last).next c.expected ≡ true

-- Rule 9.3, behind: an original was accepted after the last accepted translation.
pub record Overwritten (t : ℕ) (before : List Event) (k : ℕ) : Type 0 where
  pub last : Event
  pub nearest : Nearest (wrote (translation t) k) last before
  pub since : any (wrote original k) nearest.among.front ≡ true

-- Rule 9.5, another desk's exclusive stamp: a shared command has an x, which differs from its s in the 16 bits of the desk or in those of the start.
pub record Carries (c : Command) : Type 0 where
  pub mode : c.mode ≡ shared
  pub some : (update c).x ≡ 0 → ⊥
  pub other : (desk_number (update c).x ≡ desk_number (update c).s) × ((update c).x % 65536 ≡ (update c).s % 65536) → ⊥

-- Rule 9.5, the premise: of every two well-formed commands of the list for the card, in any order, where one carries another desk's exclusive stamp and
-- the other is exclusive under that stamp, the first one's s is above the other's.
abbrev pub Ordered : ℕ → List Received → Type 0
Ordered k all =
    (a b : Received) → Among a all → Among b all → formed_for k a ≡ true → formed_for k b ≡ true
    → carries a.numbers ≡ true
    → under (update a.numbers).x b.numbers ≡ true
    → (update b.numbers).s < (update a.numbers).s

-- Rule 9.6, between two commands of one session: accepted for the card, of another desk or start than b's, and one of the two is exclusive.
pub record Intruder (k : ℕ) (b e : Event) : Type 0 where
  pub accepted : e.answer.number ≡ 0
  pub card : (command_of e).card ≡ k
  pub desk : desk_of (command_of e).mode (update (command_of e)) ≡ desk_of (command_of b).mode (update (command_of b)) → ⊥
  pub mixed : ((command_of b).mode ≡ exclusive) ⊎ ((command_of e).mode ≡ exclusive)

-- Each word, and what it means.
pub record WordsMean : Type 0 where
  pub lateness : (before : List Event) (c : Command) → (late before c ≡ true) ↔ ((e : Event) × Among e before × Overtakes c e)
  pub distance :
      (before : List Event) (c : Command)
      → (far_ahead before c ≡ true) ↔ (Beyond (λ (p : Pair). p.s) before c ⊎ Beyond (λ (p : Pair). p.x) before c)
  -- the last accepted command's mark, or, where none was accepted for the card, no mark
  pub mark :
      (before : List Event) (c : Command)
      → (right_mark before c ≡ true)
      ↔ (((none (accepted c.card) before ≡ true) × (mark_fits no_mark c.expected ≡ true)) ⊎ Passes before c)
  -- no translation was accepted yet, or an original after the last one
  pub age :
      (t : ℕ) (before : List Event) (k : ℕ)
      → (outdated t before k ≡ true) ↔ ((none (wrote (translation t) k) before ≡ true) ⊎ Overwritten t before k)
  -- nothing before the first accepted write, then what the last one brought along
  pub unwritten : (l : Language) (before : List Event) (k : ℕ) → none (wrote l k) before ≡ true → last_text l before k ≡ []
  pub written :
      (l : Language) (before : List Event) (k : ℕ) (e : Event) → Nearest (wrote l k) e before → last_text l before k ≡ e.read.payload
  pub carrying : (c : Command) → (carries c ≡ true) ↔ Carries c
  pub order : (k : ℕ) (all : List Received) → (premise k all ≡ true) ↔ Ordered k all
  -- rule 1.6: card, mode and update pair are the same, and so is the desk, which they name
  pub session :
      (a b : Event)
      → OneSession a b
      ↔ (((command_of a).card ≡ (command_of b).card) × ((command_of a).mode ≡ (command_of b).mode) × (update (command_of a) ≡ update (command_of b)))
  pub intruding : (k : ℕ) (b e : Event) → (intrudes k b e ≡ true) ↔ Intruder k b e
