-- Commands for different cards do not disturb each other. Lists of requests and of events stand latest first, as everywhere. The theorems stand in
-- proofs/.
-- Assumes nothing.
use Rattle.std.specs.Prelude.{ℕ, zero, suc, ◌≡◌, List, [], ◌∷◌, Bool, true}
use Rattle.formats.specs.Format.{Format}
use Rattle.lists.specs.Parts.{Bytes}
use Rattle.lists.specs.Search.{filter}
use Rattle.commands.specs.Bytes.{fields_of, formed}
use Rattle.store_model.specs.Words.{Sent, Event, image_after, trace_from, received, formed_for}
use Rattle.store_model.specs.Claims.{AllBytes}

-- ---- two neighbours swapped (rule 14.12)

-- The list with the elements at places i and i + 1 in each other's place; the list itself where there are no two.
unfoldable pub swap : {A : Type 0} → ℕ → List A → List A
swap zero (a ∷ b ∷ l) = b ∷ a ∷ l
swap zero (a ∷ []) = a ∷ []
swap zero [] = []
swap (suc i) (a ∷ l) = a ∷ swap i l
swap (suc i) [] = []

-- Two requests are not both for one card, as their version reads them. A malformed one is for no card, so it is apart from any.
abbrev pub Apart : Format → Sent → Sent → Type 0
Apart v a b =
    formed v a.command ≡ true → formed v b.command ≡ true → (fields_of v a.command).card ≡ (fields_of v b.command).card → ⊥

-- The requests at places i and i + 1 are.
abbrev pub ApartAt : Format → ℕ → List Sent → Type 0
ApartAt v zero (a ∷ b ∷ l) = Apart v a b
ApartAt v zero (a ∷ []) = Unit {0}
ApartAt v zero [] = Unit {0}
ApartAt v (suc i) (a ∷ l) = ApartAt v i l
ApartAt v (suc i) [] = Unit {0}

-- With those two swapped, the last image is the same, and so is each request's own event, its answer and its reply buffer: the trace is the old trace with
-- the two events swapped.
pub record Undisturbed (v : Format) (start : List ℕ) (sent : List Sent) (i : ℕ) : Type 0 where
  pub image : image_after v start (swap i sent) ≡ image_after v start sent
  pub trace : trace_from v start (swap i sent) ≡ swap i (trace_from v start sent)

-- Of either version, from any image, sound or not, whatever each request gets.
abbrev pub Swapping : Type 0
Swapping =
    (v : Format) (start : List ℕ) → Bytes start → (sent : List Sent) → AllBytes sent → (i : ℕ) → ApartAt v i sent → Undisturbed v start sent i

-- ---- the order among cards (rule 14.13)

-- A well-formed request for card k.
abbrev pub sent_for : Format → ℕ → Sent → Bool
sent_for v k s = formed_for k (received v s)

-- Two lists have the same sequence of requests for each card. Malformed ones do not count.
abbrev pub SameSequences : Format → List Sent → List Sent → Type 0
SameSequences v a b = (k : ℕ) → filter (sent_for v k) a ≡ filter (sent_for v k) b

-- An event of a well-formed request for card k.
abbrev pub event_for : ℕ → Event → Bool
event_for k e = formed_for k e.read

-- Then they leave the same image, and the requests for each card see the same, one by one.
pub record SameByCard (v : Format) (start : List ℕ) (a b : List Sent) : Type 0 where
  pub image : image_after v start a ≡ image_after v start b
  pub events : (k : ℕ) → filter (event_for k) (trace_from v start a) ≡ filter (event_for k) (trace_from v start b)

abbrev pub Sequences : Type 0
Sequences =
    (v : Format) (start : List ℕ) → Bytes start → (a b : List Sent) → AllBytes a → AllBytes b → SameSequences v a b → SameByCard v start a b
