-- The words of demand 3 (rules 9.1 to 9.7), on the events of a list of requests, latest first.
-- Assumes nothing.
use Rattle.std.specs.Prelude.{ℕ, ◌+◌, ◌≡◌, List, [], ◌∷◌, map, reverse, Bool, true, not, ◌&&◌, ◌||◌, ltb, leb, eqb}
use Rattle.lists.specs.Search.{any, none, since, last}
use Rattle.stamps.specs.Stamp.{shared, exclusive, stamp_t, desk_start, most_ahead, no_mark, mark_fits}
use Rattle.commands.specs.Command.{Language, original, translation, writes, verifier, update, session}
use Rattle.commands.specs.Bytes.{fields_of, payload, formed}
use Rattle.guard.specs.declared.Answer.{Answer}
use Rattle.commands.specs.declared.Command.{Command}
use Rattle.stamps.specs.declared.Pair.{Pair}
use Rattle.formats.specs.Format.{Format}
use Rattle.image.specs.Image.{fresh}
use Rattle.store_model.specs.Serve.{Outcome, serve}

-- A request as it is sent (rule 9.1): any bytes, and any reply buffer.
pub record Sent : Type 0 where
  pub command : List ℕ
  pub lent : List ℕ

-- A command as its version reads it: whether the lent bytes are one, its numbers, and its payload.
pub record Received : Type 0 where
  pub formed : Bool
  pub numbers : Command
  pub payload : List ℕ

abbrev pub received : Format → Sent → Received
received f s = record { formed = formed f s.command; numbers = fields_of f s.command; payload = payload f s.command }

-- What its sender sees of it: what was sent, how it is read, the answer, and the reply buffer afterwards.
pub record Event : Type 0 where
  pub sent : Sent
  pub read : Received
  pub answer : Answer
  pub reply : List ℕ

abbrev pub event_of : Format → Sent → Outcome → Event
event_of f s o = record { sent = s; read = received f s; answer = o.answer; reply = o.reply }

-- The image after requests, latest first: each meets the image that the one before it left (rule 9.1).
unfoldable pub image_after : Format → List ℕ → List Sent → List ℕ
image_after f start [] = start
image_after f start (s ∷ earlier) = (serve f (image_after f start earlier) s.command s.lent).image

-- Their events, latest first.
unfoldable pub trace_from : Format → List ℕ → List Sent → List Event
trace_from f start [] = []
trace_from f start (s ∷ earlier) =
    event_of f s (serve f (image_after f start earlier) s.command s.lent) ∷ trace_from f start earlier

-- The image and the trace of requests in the order in which they are sent, from a fresh image of their version (rule 9.1).
abbrev pub fresh_after : Format → ℕ → ℕ → List Sent → List ℕ
fresh_after f n c sent = image_after f (fresh f n c) (reverse sent)

unfoldable pub trace_of : Format → ℕ → ℕ → List Sent → List Event
trace_of f n c sent = trace_from f (fresh f n c) (reverse sent)

-- ---- From here on no version is named: the words speak of commands as they were read.

-- The numbers of an event's command.
abbrev pub command_of : Event → Command
command_of e = e.read.numbers

-- An accepted command, answered with 0, for card k.
abbrev pub accepted : ℕ → Event → Bool
accepted k e = eqb e.answer.number 0 && eqb (command_of e).card k

-- An accepted write of card k in a language.
abbrev pub wrote : Language → ℕ → Event → Bool
wrote l k e = accepted k e && writes l (command_of e)

-- Rule 9.2: well formed, and for a card that exists.
pub record Proper (n : ℕ) (e : Event) : Type 0 where
  pub well_formed : e.read.formed ≡ true
  pub exists : ltb (command_of e).card n ≡ true

-- An accepted command for card k whose update pair has a larger s, or a larger x, than a command's verifier (rule 9.2).
abbrev pub larger_s : ℕ → Command → Event → Bool
larger_s k c e = accepted k e && ltb (verifier c).s (update (command_of e)).s

abbrev pub larger_x : ℕ → Command → Event → Bool
larger_x k c e = accepted k e && ltb (verifier c).x (update (command_of e)).x

-- A command comes late: shared, if an earlier accepted command for its card has a larger x; exclusive, if one has a larger s or a larger x.
abbrev pub late : List Event → Command → Bool
late before c = any (larger_x c.card c) before || eqb c.mode exclusive && any (larger_s c.card c) before

-- An accepted command for c's card from which c is in reach on one side: c's T there is at most 1,000,000 above its T.
abbrev pub in_reach : (Pair → ℕ) → Command → Event → Bool
in_reach side c e = accepted c.card e && leb (stamp_t (side (update c))) (stamp_t (side (update (command_of e))) + most_ahead)

-- On one side c is in reach neither from 0, with which every card begins, nor from an earlier accepted command for its card: its T exceeds
-- the largest by more than 1,000,000.
abbrev pub out_of_reach : (Pair → ℕ) → List Event → Command → Bool
out_of_reach side before c = ltb most_ahead (stamp_t (side (update c))) && none (in_reach side c) before

-- Rule 9.7: a command comes from too far ahead, by its s or by its x.
abbrev pub far_ahead : List Event → Command → Bool
far_ahead before c = out_of_reach (λ p. p.s) before c || out_of_reach (λ p. p.x) before c

-- Rule 9.3: the expected mark passes what the last earlier accepted command for the card left, and no mark where there was
-- none.
abbrev pub right_mark : List Event → Command → Bool
right_mark before c = mark_fits (last (accepted c.card) (λ e. (command_of e).next) no_mark before) c.expected

-- Translation t of card k is behind: none was accepted since the last accepted write of the original.
abbrev pub outdated : ℕ → List Event → ℕ → Bool
outdated t before k = none (wrote (translation t) k) (since (wrote original k) before)

-- Rule 9.4: what the last earlier accepted write of a card and language brought along; empty where there is none.
abbrev pub last_text : Language → List Event → ℕ → List ℕ
last_text l before k = last (wrote l k) (λ e. e.read.payload) [] before

-- Rule 9.5: a shared command whose update pair has an x of another desk.
abbrev pub carries : Command → Bool
carries c =
    eqb c.mode shared
    && not (eqb (update c).x 0)
    && not (eqb (desk_start (update c).x) (desk_start (update c).s))

-- Rule 9.5: an exclusive command with that stamp as its x.
abbrev pub under : ℕ → Command → Bool
under stamp c = eqb c.mode exclusive && eqb (update c).x stamp

-- A well-formed command for card k.
abbrev pub formed_for : ℕ → Received → Bool
formed_for k r = r.formed && eqb r.numbers.card k

-- One command breaks the premise with another: it carries another desk's exclusive stamp, the other is exclusive under that stamp, and its s is
-- not above the other's.
abbrev pub breaks : Command → Command → Bool
breaks c d = carries c && under (update c).x d && not (ltb (update d).s (update c).s)

-- The premise for card k, on commands in any order: where a shared command carries an exclusive stamp of another desk, its s is above that of every exclusive command under that
-- stamp. Refused commands count as well, wherever they stand.
abbrev pub premise : ℕ → List Received → Bool
premise k all = none (λ a. formed_for k a && any (λ b. formed_for k b && breaks a.numbers b.numbers) all) all

-- The commands of a trace.
abbrev pub commands_in : List Event → List Received
commands_in trace = map (λ e. e.read) trace

-- Rule 1.6: card, desk, mode and pair are the same.
abbrev pub OneSession : Event → Event → Type 0
OneSession a b = session (command_of a) ≡ session (command_of b)

-- The desk of an event's command: its session's.
abbrev pub desk_in : Event → ℕ
desk_in e = (session (command_of e)).desk

-- An accepted command for card k of another desk than b's that does not go together with b: one of the two is exclusive.
abbrev pub intrudes : ℕ → Event → Event → Bool
intrudes k b e =
    accepted k e
    && not (eqb (desk_in e) (desk_in b))
    && (eqb (command_of b).mode exclusive || eqb (command_of e).mode exclusive)
