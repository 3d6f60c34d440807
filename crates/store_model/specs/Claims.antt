-- The claims of the store: demand 3, whole, and what demands 1 and 2 ask of one request. The theorems stand in proofs/.
-- Assumes nothing.
use Rattle.std.specs.Prelude.{ℕ, suc, ◌≤◌, ◌↔◌, ◌⊎◌, ◌≡◌, List, [], ◌∷◌, ◌++◌, map, reverse, true, false, length, take, T}
use Rattle.lists.specs.Parts.{Bytes}
use Rattle.commands.specs.Command.{Language, translation, reads, writes}
use Rattle.lists.specs.Table.{applies, earlier, no_row}
use Rattle.formats.specs.Format.{Format, V1, version}
use Rattle.image.specs.Layout.{shape_ok}
use Rattle.image.specs.Bytes.{version_of}
use Rattle.image.specs.Image.{sound}
use Rattle.store_model.specs.Serve.{serve, store_rows}
use Rattle.lists.specs.Search.{none}
use Rattle.store_model.specs.Words.{
  Sent,
  Event,
  trace_of,
  accepted,
  Proper,
  late,
  far_ahead,
  right_mark,
  outdated,
  last_text,
  command_of,
  received,
  premise,
  commands_in,
  OneSession,
  intrudes,
}
use Rattle.store_model.specs.Cases.{sent_a, sent_d, sent_hidden, sent_lifted}
use Rattle.numbers.specs.Numbers.{STALE, EDITION_WRONG, UNSOUND, TOO_FAR}

-- What is sent is bytes: each element is below 256, and nothing else.
pub record SentBytes (s : Sent) : Type 0 where
  pub command : Bytes s.command
  pub lent : Bytes s.lent

abbrev pub AllBytes : List Sent → Type 0
AllBytes [] = Unit {0}
AllBytes (s ∷ sent) = SentBytes s × AllBytes sent

-- The sentences of demand 3, of the list of what was sent and its trace (latest first). `later` and `before` are the events after and before one.
pub record Claim (n : ℕ) (sent : List Sent) (trace : List Event) : Type 0 where
  -- the trace is whole: one event for each request sent, in order, with its bytes and the buffer lent for it
  pub whole : map (λ e. e.sent) trace ≡ reverse sent
  -- a command that is well formed and names a card of the image gets 3 exactly when it comes late
  pub staleness :
      (later : List Event) (e : Event) (before : List Event) → trace ≡ later ++ e ∷ before → Proper n e
      → (e.answer.number ≡ STALE) ↔ (late before (command_of e) ≡ true)
  -- one that is not late is refused with 17 exactly when it comes from too far ahead
  pub aheadness :
      (later : List Event) (e : Event) (before : List Event) → trace ≡ later ++ e ∷ before → Proper n e
      → late before (command_of e) ≡ false
      → (e.answer.number ≡ TOO_FAR) ↔ (far_ahead before (command_of e) ≡ true)
  -- a read of a translation that is neither late nor from too far ahead and has the right mark is refused as behind exactly when the translation is
  pub behindness :
      (later : List Event) (e : Event) (before : List Event) (t : ℕ) → trace ≡ later ++ e ∷ before → Proper n e
      → reads (translation t) (command_of e) ≡ true
      → late before (command_of e) ≡ false
      → far_ahead before (command_of e) ≡ false
      → right_mark before (command_of e) ≡ true
      → (e.answer.number ≡ EDITION_WRONG) ↔ (outdated t before (command_of e).card ≡ true)
  -- rule 9.4: what an accepted read shows is the text of its card and language that was accepted last, as long as its length field says, and nothing
  -- where there is none
  pub showing :
      (later : List Event) (e : Event) (before : List Event) (l : Language) → trace ≡ later ++ e ∷ before
      → e.answer.number ≡ 0
      → reads l (command_of e) ≡ true
      → take e.answer.length e.reply ≡ last_text l before (command_of e).card
  pub showing_length :
      (later : List Event) (e : Event) (before : List Event) (l : Language) → trace ≡ later ++ e ∷ before
      → e.answer.number ≡ 0
      → reads l (command_of e) ≡ true
      → e.answer.length ≡ length (last_text l before (command_of e).card)
  -- under the premise, no accepted command of another desk for the card stands between two accepted ones of a session, unless both are shared
  pub isolation :
      (k : ℕ) (later : List Event) (b : Event) (between : List Event) (a : Event) (before : List Event)
      → premise k (commands_in trace) ≡ true
      → trace ≡ later ++ b ∷ (between ++ a ∷ before)
      → accepted k a ≡ true
      → accepted k b ≡ true
      → OneSession a b
      → none (intrudes k b) between ≡ true

-- Demand 3, of every version: from a fresh image of any N and C that the rules allow, for every list of lent bytes and reply buffers.
abbrev pub Demand3 : Type 0
Demand3 = (f : Format) (n c : ℕ) → T (shape_ok f n c) → (sent : List Sent) → AllBytes sent → Claim n sent (trace_of f n c sent)

-- A trace in which an accepted command of another desk stands between two accepted commands of one session for card 0.
pub record Intruded (trace : List Event) : Type 0 where
  pub a : Event
  pub e : Event
  pub b : Event
  pub split : trace ≡ b ∷ e ∷ a ∷ []
  pub first : accepted 0 a ≡ true
  pub second : accepted 0 b ≡ true
  pub same : OneSession a b
  pub intruder : intrudes 0 b e ≡ true

-- The premise is neither empty nor idle: it holds of trial a's list and fails of trial d's, in
-- whose trace sessions are not isolated. It reads update pairs: a list in which only these break it, and there too sessions are not isolated;
-- and one in which only verifiers would.
pub record PremiseTells : Type 0 where
  pub holds : premise 0 (map (received V1) sent_a) ≡ true
  pub fails : premise 0 (map (received V1) sent_d) ≡ false
  pub without : Intruded (trace_of V1 1 16 sent_d)
  pub hidden : premise 0 (map (received V1) sent_hidden) ≡ false
  pub hidden_without : Intruded (trace_of V1 1 16 sent_hidden)
  pub lifted : premise 0 (map (received V1) sent_lifted) ≡ true

-- Demand 2: each number exactly when its row applies and none above it, and 0 exactly when none applies.
pub record Given (f : Format) (image command reply : List ℕ) : Type 0 where
  pub refused :
      (n : ℕ) → ((serve f image command reply).answer.number ≡ suc n)
      ↔ (T (applies (suc n) (store_rows f image command (length reply))) × T (no_row (earlier (suc n) (store_rows f image command (length reply)))))
  pub accepts : ((serve f image command reply).answer.number ≡ 0) ↔ T (no_row (store_rows f image command (length reply)))

abbrev pub Exactly : Type 0
Exactly = (f : Format) (image command reply : List ℕ) → Given f image command reply

-- Demand 1: every number is from the list (rule 4.1: 0 to 9, and 17), and a refusal changes nothing.
pub record Safe (f : Format) (image command reply : List ℕ) : Type 0 where
  pub listed : ((serve f image command reply).answer.number ≤ UNSOUND) ⊎ ((serve f image command reply).answer.number ≡ TOO_FAR)
  pub kept :
      (n : ℕ) → (serve f image command reply).answer.number ≡ suc n
      → ((serve f image command reply).image ≡ image) × ((serve f image command reply).reply ≡ reply)

abbrev pub Refusals : Type 0
Refusals = (f : Format) (image command reply : List ℕ) → Safe f image command reply

-- A sound image stays sound, whatever is asked of it.
abbrev pub StaysSound : Type 0
StaysSound =
    (f : Format) (image command reply : List ℕ) → Bytes image → Bytes command → Bytes reply → sound f image ≡ true
    → sound f (serve f image command reply).image ≡ true

-- Rule 15.13: bytes whose header has not the number of a version, sound or not, are answered 9 by it, whatever is asked, and nothing changes.
pub record Turned (g : Format) (image command reply : List ℕ) : Type 0 where
  pub number : (serve g image command reply).answer.number ≡ UNSOUND
  pub kept : (serve g image command reply).image ≡ image
  pub silent : (serve g image command reply).reply ≡ reply

abbrev pub OtherVersion : Type 0
OtherVersion = (g : Format) (image command reply : List ℕ) → (version_of image ≡ version g → ⊥) → Turned g image command reply

-- Rule 15.8, each language by itself: a command that writes one leaves the text of every other as it was, and one that writes a translation leaves it as it was
-- whether another translation is behind.
pub record ByItself (e : Event) (before : List Event) (k : ℕ) : Type 0 where
  pub texts : (l m : Language) → (l ≡ m → ⊥) → writes l (command_of e) ≡ true → last_text m (e ∷ before) k ≡ last_text m before k
  pub behind : (t u : ℕ) → (t ≡ u → ⊥) → writes (translation t) (command_of e) ≡ true → outdated u (e ∷ before) k ≡ outdated u before k

abbrev pub EachByItself : Type 0
EachByItself = (e : Event) (before : List Event) (k : ℕ) → ByItself e before k
