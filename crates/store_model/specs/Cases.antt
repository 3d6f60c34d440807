-- Trials, the four commands of case P, the three slips, commit marks, stamps from far ahead, commands with two pairs, and the numbers 1, 2 and 9, as one
-- table: a start, requests in the order in which they are sent, and what each must get. A row that names no act sends verifies.
-- Assumes nothing.
use Rattle.std.specs.Prelude.{ℕ, suc, ◌+◌, ◌≡◌, List, [], ◌∷◌, ◌++◌, map, reverse, length, replicate, set}
use Rattle.commands.specs.Bytes.{command_bytes}
use Rattle.stamps.specs.Stamp.{stamp, shared, exclusive, no_mark, no_pair}
use Rattle.guard.specs.declared.Answer.{Answer}
use Rattle.stamps.specs.declared.Pair.{Pair}
use Rattle.stamps.specs.declared.Mark.{Mark}
use Rattle.commands.specs.declared.Command.{Command}
use Rattle.formats.specs.Format.{Format, V1, V2}
use Rattle.image.specs.Image.{no_translation, encode, fresh}
use Rattle.store_model.specs.Serve.{serve}
use Rattle.store_model.specs.Words.{Sent, Event, trace_from}

-- What a request gets: its answer and the reply buffer afterwards.
pub record Got : Type 0 where
  pub answer : Answer
  pub reply : List ℕ

-- What requests get, one for each, in the order in which they are sent, from a start image.
unfoldable pub run : Format → List ℕ → List Sent → List Got
run f image [] = []
run f image (s ∷ later) =
    let served = serve f image s.command s.lent in
    record { answer = served.answer; reply = served.reply } ∷ run f served.image later

-- What a run gets is what the trace of demand 3 shows for the same requests.
abbrev pub shown : Event → Got
shown e = record { answer = e.answer; reply = e.reply }

abbrev pub RunTraced : Type 0
RunTraced = (f : Format) (start : List ℕ) (sent : List Sent) → run f start sent ≡ map shown (reverse (trace_from f start (reverse sent)))

-- One row of the table.
pub record Trial : Type 0 where
  pub version : Format
  pub start : List ℕ
  pub sent : List Sent
  pub expected : List Got

-- ---- requests

-- The stamps 1.1.0 and 2.2.0 of desks 1 and 2. A is (1.1.0, none), A' has 1.1.0 twice, B is (2.2.0, 1.1.0), B' has 2.2.0 twice.
abbrev pub stamp1 : ℕ
stamp1 = stamp 1 1 0

abbrev pub stamp2 : ℕ
stamp2 = stamp 2 2 0

-- 3.3.0, and the stamp right below 2.2.0.
abbrev pub stamp3 : ℕ
stamp3 = stamp 3 3 0

abbrev pub below2 : ℕ
below2 = stamp 2 1 65535

abbrev pub pair : ℕ → ℕ → Pair
pair s x = record { s = s; x = x }

-- The numbers of a command with two pairs, and of one whose update pair is its verifier.
abbrev pub with_pairs : ℕ → ℕ → ℕ → Pair → Pair → Mark → Mark → ℕ → ℕ → Command
with_pairs act mode card p opened expected next edition n =
    record { act = act; mode = mode; language = 0; card = card; verifier = p; opened = opened; expected = expected; next = next; edition = edition; length = n }

abbrev pub with_numbers : ℕ → ℕ → ℕ → Pair → Mark → Mark → ℕ → ℕ → Command
with_numbers act mode card p expected next edition n = with_pairs act mode card p no_pair expected next edition n

-- A command with its payload and a lent reply buffer.
abbrev pub sends : Command → List ℕ → List ℕ → Sent
sends c text lent = record { command = command_bytes V1 c text; lent = lent }

-- A command for card 0 without marks, with an update pair of its own, and with one pair.
abbrev pub request_opening : ℕ → ℕ → Pair → Pair → ℕ → List ℕ → List ℕ → Sent
request_opening act mode p opened edition text lent = sends (with_pairs act mode 0 p opened no_mark no_mark edition (length text)) text lent

abbrev pub request : ℕ → ℕ → Pair → ℕ → List ℕ → List ℕ → Sent
request act mode p edition text lent = request_opening act mode p no_pair edition text lent

-- The commit mark of a desk and a transaction, and an exclusive verify by A' that expects one mark and leaves another.
abbrev pub mark_of : ℕ → ℕ → Mark
mark_of d t = record { desk = d; transaction = t }

abbrev pub verify_marked : Mark → Mark → Sent
verify_marked expected next = sends (with_numbers 5 exclusive 0 (pair stamp1 stamp1) expected next 0 0) [] []

abbrev pub verify : ℕ → ℕ → ℕ → Sent
verify mode s x = request 5 mode (pair s x) 0 [] []

abbrev pub verify_opening : ℕ → Pair → Pair → Sent
verify_opening mode p opened = request_opening 5 mode p opened 0 [] []

abbrev pub read_original : List ℕ → Sent
read_original lent = request 1 shared (pair stamp2 stamp1) 0 [] lent

abbrev pub read_translation : List ℕ → Sent
read_translation lent = request 2 shared (pair stamp2 stamp1) 0 [] lent

abbrev pub write_original : ℕ → ℕ → List ℕ → Sent
write_original s x text = request 3 exclusive (pair s x) 0 text []

abbrev pub write_translation : ℕ → ℕ → ℕ → List ℕ → Sent
write_translation s x edition text = request 4 exclusive (pair s x) edition text []

-- ---- what they get

-- The number, then the seven reply fields in their order (rule 4.8), and the reply buffer.
abbrev pub got : ℕ → ℕ → ℕ → ℕ → ℕ → ℕ → ℕ → ℕ → List ℕ → Got
got number s x desk transaction edition from length reply =
    record {
      answer =
          record {
            number = number;
            pair = pair s x;
            mark = record { desk = desk; transaction = transaction };
            edition = edition;
            from = from;
            length = length;
          };
      reply = reply;
    }

-- ---- starts and texts

-- N 1, C 16.
abbrev pub empty : List ℕ
empty = fresh V1 1 16

-- One card at edition 65,534, with no text.
abbrev pub nearly_last : List ℕ
nearly_last =
    encode V1
    (record {
      room = 16;
      cards =
          record { pair = no_pair; mark = no_mark; edition = 65534; original = []; translated = no_translation ∷ [] }
          ∷ [];
    })

-- The bytes of `205` and of `401`.
abbrev pub text205 : List ℕ
text205 = 50 ∷ 48 ∷ 53 ∷ []

abbrev pub text401 : List ℕ
text401 = 52 ∷ 48 ∷ 49 ∷ []

-- A text of so many bytes.
abbrev pub long : ℕ → List ℕ
long n = replicate n 97

-- Both texts written by A'.
abbrev pub both_written : List Sent
both_written = write_original stamp1 stamp1 text205 ∷ write_translation stamp1 stamp1 1 text401 ∷ []

abbrev pub both_got : List Got
both_got = got 0 stamp1 stamp1 0 0 1 0 0 [] ∷ got 0 stamp1 stamp1 0 0 1 1 0 [] ∷ []

-- ---- the table

-- a: two sessions that follow one another, each shared and then exclusive.
abbrev pub sent_a : List Sent
sent_a =
    verify shared stamp1 0
    ∷ verify shared stamp1 0
    ∷ verify exclusive stamp1 stamp1
    ∷ verify shared stamp2 stamp1
    ∷ verify exclusive stamp2 stamp2
    ∷ verify exclusive stamp2 stamp2
    ∷ []

abbrev pub got_a : List Got
got_a =
    got 0 stamp1 0 0 0 0 0 0 []
    ∷ got 0 stamp1 0 0 0 0 0 0 []
    ∷ got 0 stamp1 stamp1 0 0 0 0 0 []
    ∷ got 0 stamp2 stamp1 0 0 0 0 0 []
    ∷ got 0 stamp2 stamp2 0 0 0 0 0 []
    ∷ got 0 stamp2 stamp2 0 0 0 0 0 []
    ∷ []

abbrev pub trial_a : Trial
trial_a = record { version = V1; start = empty; sent = sent_a; expected = got_a }

-- b: after them the first session's exclusive command comes late.
abbrev pub trial_b : Trial
trial_b =
    record {
      version = V1;
      start = empty;
      sent = sent_a ++ (verify exclusive stamp1 stamp1 ∷ []);
      expected = got_a ++ (got 3 stamp2 stamp2 0 0 0 0 0 [] ∷ []);
    }

-- c: shared commands do not bar each other; an exclusive one with a smaller s is late.
abbrev pub trial_c : Trial
trial_c =
    record {
      version = V1;
      start = empty;
      sent = verify shared stamp1 0 ∷ verify shared stamp2 0 ∷ verify shared stamp1 0 ∷ verify exclusive stamp1 stamp1 ∷ [];
      expected =
          got 0 stamp1 0 0 0 0 0 0 []
          ∷ got 0 stamp2 0 0 0 0 0 0 []
          ∷ got 0 stamp2 0 0 0 0 0 0 []
          ∷ got 3 stamp2 0 0 0 0 0 0 []
          ∷ [];
    }

-- d: a shared command that carries another desk's x with a smaller s; the premise does not hold here.
abbrev pub sent_d : List Sent
sent_d = verify exclusive stamp1 stamp1 ∷ verify shared (stamp 0 2 0) stamp1 ∷ verify exclusive stamp1 stamp1 ∷ []

abbrev pub trial_d : Trial
trial_d =
    record {
      version = V1;
      start = empty;
      sent = sent_d;
      expected =
          got 0 stamp1 stamp1 0 0 0 0 0 []
          ∷ got 0 stamp1 stamp1 0 0 0 0 0 []
          ∷ got 0 stamp1 stamp1 0 0 0 0 0 []
          ∷ [];
    }

-- The same with update pairs. Here the shared command's verifier has desk 1's stamps, and its update pair is desk 2's: the premise does not hold. There the
-- verifier's s is below the exclusive command's, and the update pair's is above: it does.
abbrev pub sent_hidden : List Sent
sent_hidden =
    verify exclusive stamp1 stamp1
    ∷ verify_opening shared (pair (stamp 0 1 0) stamp1) (pair (stamp 0 2 0) stamp1)
    ∷ verify exclusive stamp1 stamp1
    ∷ []

abbrev pub sent_lifted : List Sent
sent_lifted = verify exclusive stamp1 stamp1 ∷ verify_opening shared (pair (stamp 0 2 0) stamp1) (pair stamp2 stamp1) ∷ []

-- e: an original that was never written is read as empty.
abbrev pub trial_e : Trial
trial_e =
    record { version = V1; start = empty; sent = read_original (long 2) ∷ []; expected = got 0 stamp2 stamp1 0 0 0 0 0 (long 2) ∷ [] }

-- f: a translation that was never written is behind.
abbrev pub trial_f : Trial
trial_f =
    record { version = V1; start = empty; sent = read_translation (long 2) ∷ []; expected = got 6 0 0 0 0 0 0 0 (long 2) ∷ [] }

-- g: a payload of C bytes.
abbrev pub trial_g : Trial
trial_g =
    record { version = V1; start = empty; sent = write_original stamp1 stamp1 (long 16) ∷ []; expected = got 0 stamp1 stamp1 0 0 1 0 0 [] ∷ [] }

-- h: one byte more;
abbrev pub trial_h : Trial
trial_h =
    record { version = V1; start = empty; sent = write_original stamp1 stamp1 (long 17) ∷ []; expected = got 5 0 0 0 0 0 0 0 [] ∷ [] }

-- stale comes first.
abbrev pub trial_hStale : Trial
trial_hStale =
    record {
      version = V1;
      start = empty;
      sent = verify exclusive stamp2 stamp2 ∷ write_original stamp1 stamp1 (long 17) ∷ [];
      expected = got 0 stamp2 stamp2 0 0 0 0 0 [] ∷ got 3 stamp2 stamp2 0 0 0 0 0 [] ∷ [];
    }

-- i: the last edition but one is written;
abbrev pub trial_i : Trial
trial_i =
    record { version = V1; start = nearly_last; sent = write_original stamp1 stamp1 text205 ∷ []; expected = got 0 stamp1 stamp1 0 0 65535 0 0 [] ∷ [] }

-- j: and no further.
abbrev pub trial_j : Trial
trial_j =
    record {
      version = V1;
      start = nearly_last;
      sent = write_original stamp1 stamp1 text205 ∷ write_original stamp1 stamp1 text205 ∷ [];
      expected = got 0 stamp1 stamp1 0 0 65535 0 0 [] ∷ got 7 stamp1 stamp1 0 0 65535 0 0 [] ∷ [];
    }

-- k: a reply buffer as long as the text, in each language;
abbrev pub trial_kOriginal : Trial
trial_kOriginal =
    record {
      version = V1;
      start = empty;
      sent = both_written ++ (read_original (long 3) ∷ []);
      expected = both_got ++ (got 0 stamp2 stamp1 0 0 1 1 3 text205 ∷ []);
    }

abbrev pub trial_kTranslation : Trial
trial_kTranslation =
    record {
      version = V1;
      start = empty;
      sent = both_written ++ (read_translation (long 3) ∷ []);
      expected = both_got ++ (got 0 stamp2 stamp1 0 0 1 1 3 text401 ∷ []);
    }

-- l: one byte shorter, in each language.
abbrev pub trial_lOriginal : Trial
trial_lOriginal =
    record {
      version = V1;
      start = empty;
      sent = both_written ++ (read_original (long 2) ∷ []);
      expected = both_got ++ (got 8 stamp1 stamp1 0 0 1 1 0 (long 2) ∷ []);
    }

abbrev pub trial_lTranslation : Trial
trial_lTranslation =
    record {
      version = V1;
      start = empty;
      sent = both_written ++ (read_translation (long 2) ∷ []);
      expected = both_got ++ (got 8 stamp1 stamp1 0 0 1 1 0 (long 2) ∷ []);
    }

-- Case P (rule 8.5): the commands of the example there,
-- with a reply buffer of C bytes.
abbrev pub case_p : Trial
case_p =
    record {
      version = V1;
      start = empty;
      sent =
          write_original stamp1 stamp1 text205
          ∷ read_translation (long 16)
          ∷ write_translation stamp2 stamp2 1 text401
          ∷ write_original stamp1 stamp1 text205
          ∷ [];
      expected =
          got 0 4295032832 4295032832 0 0 1 0 0 []
          ∷ got 6 4295032832 4295032832 0 0 1 0 0 (long 16)
          ∷ got 0 8590065664 8590065664 0 0 1 1 0 []
          ∷ got 3 8590065664 8590065664 0 0 1 1 0 []
          ∷ [];
    }

-- Three slips that were seen. A translation is served since it has bytes, though its edition is not the original's:
-- a translation of three bytes, behind since the original was written again.
abbrev pub slip_by_length : Trial
slip_by_length =
    record {
      version = V1;
      start = empty;
      sent = both_written ++ (write_original stamp1 stamp1 text205 ∷ read_translation (long 3) ∷ []);
      expected = both_got ++ (got 0 stamp1 stamp1 0 0 2 1 0 [] ∷ got 6 stamp1 stamp1 0 0 2 1 0 (long 3) ∷ []);
    }

-- The command's pair is stored in place of the larger of each: after a shared command with a small s an older exclusive one would
-- pass.
abbrev pub slip_command_pair : Trial
slip_command_pair =
    record {
      version = V1;
      start = empty;
      sent = verify exclusive stamp2 stamp1 ∷ verify shared (stamp 0 2 0) stamp1 ∷ verify exclusive stamp1 stamp1 ∷ [];
      expected =
          got 0 stamp2 stamp1 0 0 0 0 0 []
          ∷ got 0 stamp2 stamp1 0 0 0 0 0 []
          ∷ got 3 stamp2 stamp1 0 0 0 0 0 []
          ∷ [];
    }

-- The pair is raised before the reply buffer is found short: A' still passes after a read by B that got 8.
abbrev pub slip_raised : Trial
slip_raised =
    record {
      version = V1;
      start = empty;
      sent = both_written ++ (read_original (long 2) ∷ verify exclusive stamp1 stamp1 ∷ []);
      expected = both_got ++ (got 8 stamp1 stamp1 0 0 1 1 0 (long 2) ∷ got 0 stamp1 stamp1 0 0 1 1 0 [] ∷ []);
    }

-- Commit marks. With (5, 7) stored, (5, 7) and (5, 8) are accepted; (5, 6), where the transaction alone differs, (6, 7), where the desk alone does,
-- and no mark at all get 4. With no mark stored, (5, 7) gets 4.
abbrev pub trial_mark : Mark → Got → Trial
trial_mark expected then =
    record {
      version = V1;
      start = empty;
      sent = verify_marked no_mark (mark_of 5 7) ∷ verify_marked expected (mark_of 5 7) ∷ [];
      expected = got 0 stamp1 stamp1 5 7 0 0 0 [] ∷ then ∷ [];
    }

abbrev pub passed57 : Got
passed57 = got 0 stamp1 stamp1 5 7 0 0 0 []

abbrev pub refused57 : Got
refused57 = got 4 stamp1 stamp1 5 7 0 0 0 []

abbrev pub trial_no_mark : Trial
trial_no_mark = record { version = V1; start = empty; sent = verify_marked (mark_of 5 7) no_mark ∷ []; expected = got 4 0 0 0 0 0 0 0 [] ∷ [] }

-- Stamps from far ahead (rule 4.9), all of desk 1.
abbrev pub ahead : ℕ → ℕ
ahead t = stamp t 1 0

-- A verify that expects a mark and leaves (5, 7).
abbrev pub verify_ahead : ℕ → Pair → Mark → Sent
verify_ahead mode p expected = sends (with_numbers 5 mode 0 p expected (mark_of 5 7) 0 0) [] []

-- Commands, and what they get, on a card that keeps T 3 as its s, T 1 as its x, and the mark (5, 7).
abbrev pub trial_ahead : List Sent → List Got → Trial
trial_ahead then gets =
    record {
      version = V1;
      start = empty;
      sent = verify_ahead exclusive (pair (ahead 3) (ahead 1)) no_mark ∷ then;
      expected = got 0 (ahead 3) (ahead 1) 5 7 0 0 0 [] ∷ gets;
    }

-- One such command, in a mode and under a pair: it is refused with 17, or accepted and raises the stored pair to its own.
abbrev pub refused_ahead : ℕ → ℕ → ℕ → Trial
refused_ahead mode s x = trial_ahead (verify_ahead mode (pair s x) (mark_of 5 7) ∷ []) (got 17 (ahead 3) (ahead 1) 5 7 0 0 0 [] ∷ [])

abbrev pub passed_ahead : ℕ → ℕ → ℕ → Trial
passed_ahead mode s x = trial_ahead (verify_ahead mode (pair s x) (mark_of 5 7) ∷ []) (got 0 s x 5 7 0 0 0 [] ∷ [])

-- One command on a fresh card: a read of the translation, with a reply buffer of two bytes, gets 6 or 17; a verify is accepted or gets 17.
abbrev pub fresh_read : ℕ → ℕ → Trial
fresh_read t number =
    record { version = V1; start = empty; sent = request 2 shared (pair (ahead t) 0) 0 [] (long 2) ∷ []; expected = got number 0 0 0 0 0 0 0 (long 2) ∷ [] }

abbrev pub fresh_verify : ℕ → ℕ → ℕ → Got → Trial
fresh_verify mode s x then = record { version = V1; start = empty; sent = verify mode s x ∷ []; expected = then ∷ [] }

-- A refusal raises nothing, so the same command is refused again; the next T in reach passes, and from there the one after it.
abbrev pub trial_climb : Trial
trial_climb =
    trial_ahead
    (verify_ahead exclusive (pair (ahead 1000004) (ahead 1)) (mark_of 5 7)
    ∷ verify_ahead exclusive (pair (ahead 1000004) (ahead 1)) (mark_of 5 7)
    ∷ verify_ahead exclusive (pair (ahead 1000003) (ahead 1)) (mark_of 5 7)
    ∷ verify_ahead exclusive (pair (ahead 2000003) (ahead 1)) (mark_of 5 7)
    ∷ [])
    (got 17 (ahead 3) (ahead 1) 5 7 0 0 0 []
    ∷ got 17 (ahead 3) (ahead 1) 5 7 0 0 0 []
    ∷ got 0 (ahead 1000003) (ahead 1) 5 7 0 0 0 []
    ∷ got 0 (ahead 2000003) (ahead 1) 5 7 0 0 0 []
    ∷ [])

-- A stamp that is below the stored one by more than 1,000,000 is not far ahead.
abbrev pub trial_below : Trial
trial_below =
    trial_ahead
    (verify_ahead exclusive (pair (ahead 1000003) (ahead 1)) (mark_of 5 7) ∷ verify_ahead shared (pair (ahead 2) (ahead 1)) (mark_of 5 7) ∷ [])
    (got 0 (ahead 1000003) (ahead 1) 5 7 0 0 0 [] ∷ got 0 (ahead 1000003) (ahead 1) 5 7 0 0 0 [] ∷ [])

-- Stale comes before 17, the commit mark after it.
abbrev pub trial_ahead_stale : Trial
trial_ahead_stale =
    trial_ahead (verify_ahead exclusive (pair (ahead 2) (ahead 1000002)) (mark_of 5 7) ∷ []) (got 3 (ahead 3) (ahead 1) 5 7 0 0 0 [] ∷ [])

abbrev pub trial_ahead_mark : Trial
trial_ahead_mark =
    trial_ahead (verify_ahead exclusive (pair (ahead 1000004) (ahead 1)) no_mark ∷ []) (got 17 (ahead 3) (ahead 1) 5 7 0 0 0 [] ∷ [])

-- 17 replies the whole entry as stored, editions too.
abbrev pub trial_ahead_written : Trial
trial_ahead_written =
    record {
      version = V1;
      start = empty;
      sent = both_written ++ (verify exclusive stamp1 (ahead 1000002) ∷ []);
      expected = both_got ++ (got 17 stamp1 stamp1 0 0 1 1 0 [] ∷ []);
    }

-- Two pairs (rules 3.3 and 3.4). A session is opened inside a command: desk 1, which has no session, writes against no stamps and opens A'. The next command
-- has A' as its verifier, and so has the one that opens (1.1.0, 2.1.0), after which A' is late.
abbrev pub trial_opens : Trial
trial_opens =
    record {
      version = V1;
      start = empty;
      sent =
          request_opening 3 exclusive no_pair (pair stamp1 stamp1) 0 text205 []
          ∷ write_translation stamp1 stamp1 1 text401
          ∷ verify_opening exclusive (pair stamp1 stamp1) (pair stamp1 (stamp 2 1 0))
          ∷ verify exclusive stamp1 (stamp 2 1 0)
          ∷ verify exclusive stamp1 stamp1
          ∷ [];
      expected =
          got 0 stamp1 stamp1 0 0 1 0 0 []
          ∷ got 0 stamp1 stamp1 0 0 1 1 0 []
          ∷ got 0 stamp1 (stamp 2 1 0) 0 0 1 1 0 []
          ∷ got 0 stamp1 (stamp 2 1 0) 0 0 1 1 0 []
          ∷ got 3 stamp1 (stamp 2 1 0) 0 0 1 1 0 []
          ∷ [];
    }

-- A shared verifier without s, as Minuet's clients send it; the larger of each stamp is kept, also where the update pair's s is not above the stored one.
abbrev pub trial_no_s : Trial
trial_no_s =
    record {
      version = V1;
      start = empty;
      sent =
          verify exclusive stamp1 stamp1
          ∷ verify_opening shared (pair 0 stamp1) (pair stamp2 stamp1)
          ∷ verify_opening shared (pair 0 stamp1) (pair (stamp 0 3 0) stamp1)
          ∷ [];
      expected =
          got 0 stamp1 stamp1 0 0 0 0 0 []
          ∷ got 0 stamp2 stamp1 0 0 0 0 0 []
          ∷ got 0 stamp2 stamp1 0 0 0 0 0 []
          ∷ [];
    }

-- With B' stored, a verifier comes late that opens a pair which would not: by x, in both modes, and by s.
abbrev pub trial_late_verifier : Trial
trial_late_verifier =
    record {
      version = V1;
      start = empty;
      sent =
          verify exclusive stamp2 stamp2
          ∷ verify_opening exclusive (pair stamp2 stamp1) (pair stamp3 stamp3)
          ∷ verify_opening shared (pair stamp2 stamp1) (pair stamp3 stamp3)
          ∷ verify_opening exclusive (pair stamp1 stamp2) (pair stamp3 stamp3)
          ∷ [];
      expected =
          got 0 stamp2 stamp2 0 0 0 0 0 []
          ∷ got 3 stamp2 stamp2 0 0 0 0 0 []
          ∷ got 3 stamp2 stamp2 0 0 0 0 0 []
          ∷ got 3 stamp2 stamp2 0 0 0 0 0 []
          ∷ [];
    }

-- The update pair comes from too far ahead though its verifier is the stored pair (rule 4.9): by s, by x; one T less passes.
abbrev pub trial_far_update : Trial
trial_far_update =
    record {
      version = V1;
      start = empty;
      sent =
          verify_opening exclusive no_pair (pair (ahead 1000000) (ahead 1))
          ∷ verify_opening exclusive (pair (ahead 1000000) (ahead 1)) (pair (ahead 2000001) (ahead 1))
          ∷ verify_opening exclusive (pair (ahead 1000000) (ahead 1)) (pair (ahead 1000000) (ahead 1000002))
          ∷ verify_opening exclusive (pair (ahead 1000000) (ahead 1)) (pair (ahead 2000000) (ahead 1000001))
          ∷ [];
      expected =
          got 0 (ahead 1000000) (ahead 1) 0 0 0 0 0 []
          ∷ got 17 (ahead 1000000) (ahead 1) 0 0 0 0 0 []
          ∷ got 17 (ahead 1000000) (ahead 1) 0 0 0 0 0 []
          ∷ got 0 (ahead 2000000) (ahead 1000001) 0 0 0 0 0 []
          ∷ [];
    }

-- A verifier and an update pair on a fresh card: accepted, and stored as told; or malformed, and the command after it meets a card without stamps.
abbrev pub trial_pairs : ℕ → Pair → Pair → ℕ → ℕ → Trial
trial_pairs mode p opened s x = record { version = V1; start = empty; sent = verify_opening mode p opened ∷ []; expected = got 0 s x 0 0 0 0 0 [] ∷ [] }

abbrev pub trial_no_pairs : ℕ → Pair → Pair → Trial
trial_no_pairs mode p opened =
    record {
      version = V1;
      start = empty;
      sent = verify_opening mode p opened ∷ verify shared stamp1 0 ∷ [];
      expected = got 1 0 0 0 0 0 0 0 [] ∷ got 0 stamp1 0 0 0 0 0 0 [] ∷ [];
    }

abbrev pub trials_of_pairs : List Trial
trials_of_pairs =
    -- the verifier again, above it by one, and half of it none
    trial_pairs exclusive (pair stamp1 stamp1) (pair stamp1 stamp1) stamp1 stamp1
    ∷ trial_pairs exclusive (pair below2 below2) (pair stamp2 stamp2) stamp2 stamp2
    ∷ trial_pairs shared no_pair (pair stamp2 0) stamp2 0
    ∷ trial_pairs exclusive no_pair (pair 0 stamp2) 0 stamp2
    -- half of it none is not all of it none: it does not reach the verifier
    ∷ trial_no_pairs exclusive (pair stamp1 stamp1) (pair 0 stamp2)
    ∷ trial_no_pairs shared (pair stamp1 stamp1) (pair stamp2 0)
    -- below the verifier by one, in s and in x
    ∷ trial_no_pairs exclusive (pair stamp2 stamp1) (pair below2 stamp3)
    ∷ trial_no_pairs exclusive (pair stamp1 stamp2) (pair stamp3 below2)
    -- an update stamp without a desk, a verifier's stamp without one
    ∷ trial_no_pairs exclusive no_pair (pair (stamp 1 0 0) stamp1)
    ∷ trial_no_pairs exclusive no_pair (pair stamp1 (stamp 1 0 0))
    ∷ trial_no_pairs exclusive (pair (stamp 0 0 5) 0) (pair stamp1 stamp1)
    ∷ trial_no_pairs exclusive (pair 0 (stamp 0 0 5)) (pair stamp1 stamp1)
    -- the mode's own stamp is none in the update pair; in the verifier, where that is the update pair
    ∷ trial_no_pairs shared no_pair (pair 0 stamp2)
    ∷ trial_no_pairs exclusive no_pair (pair stamp2 0)
    ∷ trial_no_pairs shared (pair 0 stamp2) no_pair
    ∷ trial_no_pairs exclusive (pair stamp2 0) no_pair
    ∷ []

-- Number 1: no act has number 0. Number 2: with one card there is no card 1. Number 9: an image that is not there.
abbrev pub trial_malformed : Trial
trial_malformed = record { version = V1; start = empty; sent = request 0 shared (pair stamp1 0) 0 [] (long 2) ∷ []; expected = got 1 0 0 0 0 0 0 0 (long 2) ∷ [] }

abbrev pub trial_no_card : Trial
trial_no_card =
    record {
      version = V1;
      start = empty;
      sent = sends (with_numbers 5 shared 1 (pair stamp1 0) no_mark no_mark 0 0) [] (long 2) ∷ [];
      expected = got 2 0 0 0 0 0 0 0 (long 2) ∷ [];
    }

abbrev pub trial_unsound : Trial
trial_unsound = record { version = V1; start = []; sent = verify shared stamp1 0 ∷ []; expected = got 9 0 0 0 0 0 0 0 [] ∷ [] }

-- ---- version 2

-- N 1, C 16.
abbrev pub empty_of2 : List ℕ
empty_of2 = fresh V2 1 16

-- An exclusive command of version 2 for card 0 without marks, with both of its pairs; by A'; and with one pair.
abbrev pub request_of2 : ℕ → ℕ → Pair → Pair → ℕ → List ℕ → List ℕ → Sent
request_of2 act language p opened edition text lent =
    record {
      command =
          command_bytes V2
          (record {
            act = act;
            mode = exclusive;
            language = language;
            card = 0;
            verifier = p;
            opened = opened;
            expected = no_mark;
            next = no_mark;
            edition = edition;
            length = length text;
          })
          text;
      lent = lent;
    }

abbrev pub opens : ℕ → ℕ → Pair → ℕ → List ℕ → List ℕ → Sent
opens act language opened edition text lent = request_of2 act language (pair stamp1 stamp1) opened edition text lent

abbrev pub names : ℕ → ℕ → ℕ → List ℕ → List ℕ → Sent
names act language edition text lent = opens act language no_pair edition text lent

abbrev pub got_in : ℕ → ℕ → ℕ → ℕ → List ℕ → Got
got_in number edition from count reply = got number stamp1 stamp1 0 0 edition from count reply

-- The text of language t, as long as no other's.
abbrev pub letters : ℕ → List ℕ
letters t = replicate (suc t) (65 + t)

abbrev pub writes_in : ℕ → ℕ → Sent
writes_in edition t = names 4 t edition (letters t) []

abbrev pub reads_in : ℕ → Sent
reads_in t = names 2 t 0 [] (long 4)

abbrev pub languages : List ℕ
languages = 0 ∷ 1 ∷ 2 ∷ 3 ∷ []

-- An original, and a translation of it in each language.
abbrev pub all_written : List Sent
all_written = names 3 0 0 text205 [] ∷ map (writes_in 1) languages

abbrev pub all_got : List Got
all_got = got_in 0 1 0 0 [] ∷ map (λ (t : ℕ). got_in 0 1 1 0 []) languages

-- Each language is read as it was written, and the original as well.
abbrev pub trial_languages : Trial
trial_languages =
    record {
      version = V2;
      start = empty_of2;
      sent = all_written ++ (map reads_in languages ++ (names 1 0 0 [] (long 4) ∷ []));
      expected =
          all_got
          ++ (got_in 0 1 1 1 (65 ∷ 97 ∷ 97 ∷ 97 ∷ [])
          ∷ got_in 0 1 1 2 (66 ∷ 66 ∷ 97 ∷ 97 ∷ [])
          ∷ got_in 0 1 1 3 (67 ∷ 67 ∷ 67 ∷ 97 ∷ [])
          ∷ got_in 0 1 1 4 (68 ∷ 68 ∷ 68 ∷ 68 ∷ [])
          ∷ got_in 0 1 1 3 (50 ∷ 48 ∷ 53 ∷ 97 ∷ [])
          ∷ []);
    }

-- One language is written and can be read, another is behind and cannot; an act without a language is answered with the edition of language 0.
abbrev pub trial_one_behind : Trial
trial_one_behind =
    record {
      version = V2;
      start = empty_of2;
      sent = names 3 0 0 text205 [] ∷ writes_in 1 2 ∷ reads_in 2 ∷ reads_in 1 ∷ names 5 0 0 [] [] ∷ writes_in 1 0 ∷ names 5 0 0 [] [] ∷ [];
      expected =
          got_in 0 1 0 0 []
          ∷ got_in 0 1 1 0 []
          ∷ got_in 0 1 1 3 (67 ∷ 67 ∷ 67 ∷ 97 ∷ [])
          ∷ got_in 6 1 0 0 (long 4)
          ∷ got_in 0 1 0 0 []
          ∷ got_in 0 1 1 0 []
          ∷ got_in 0 1 1 0 []
          ∷ [];
    }

-- The original is written again: all four are behind. One of them is brought up to it, and the others stay behind.
abbrev pub trial_all_behind : Trial
trial_all_behind =
    record {
      version = V2;
      start = empty_of2;
      sent = all_written ++ (names 3 0 0 text401 [] ∷ (map reads_in languages ++ (writes_in 2 3 ∷ map reads_in languages)));
      expected =
          all_got
          ++ (got_in 0 2 1 0 []
          ∷ (map (λ (t : ℕ). got_in 6 2 1 0 (long 4)) languages
          ++ (got_in 0 2 2 0 []
          ∷ got_in 6 2 1 0 (long 4)
          ∷ got_in 6 2 1 0 (long 4)
          ∷ got_in 6 2 1 0 (long 4)
          ∷ got_in 0 2 2 4 (68 ∷ 68 ∷ 68 ∷ 68 ∷ [])
          ∷ [])));
    }

-- A command of version 2 that is malformed.
abbrev pub malformed_second : List ℕ → Trial
malformed_second command =
    record { version = V2; start = empty_of2; sent = record { command = command; lent = [] } ∷ []; expected = got 1 0 0 0 0 0 0 0 [] ∷ [] }

abbrev pub trials_malformed : List Trial
trials_malformed =
    -- a language that there is not, read and written
    malformed_second (names 2 4 0 [] []).command
    ∷ malformed_second (names 4 4 1 text401 []).command
    -- a language named by an act that has none
    ∷ malformed_second (names 1 1 0 [] []).command
    ∷ malformed_second (names 3 1 0 text205 []).command
    ∷ malformed_second (names 5 1 0 [] []).command
    -- the zeros behind the language: the first and the last of them
    ∷ malformed_second (set (names 5 0 0 [] []).command 21 1)
    ∷ malformed_second (set (names 5 0 0 [] []).command 35 1)
    -- a command of version 1, which is 52 bytes long
    ∷ malformed_second (verify exclusive stamp1 stamp1).command
    ∷ []

-- With 16 zeros behind it, it is one of version 2.
abbrev pub trial_lengthened : Trial
trial_lengthened =
    record {
      version = V2;
      start = empty_of2;
      sent = record { command = (verify exclusive stamp1 stamp1).command ++ replicate 16 0; lent = [] } ∷ [];
      expected = got_in 0 0 0 0 [] ∷ [];
    }

-- The update pair stands behind the length: the stored pair is raised by it.
abbrev pub trial_opens_at52 : Trial
trial_opens_at52 =
    record {
      version = V2;
      start = empty_of2;
      sent = opens 5 0 (pair stamp2 stamp2) 0 [] [] ∷ names 5 0 0 [] [] ∷ [];
      expected = got 0 stamp2 stamp2 0 0 0 0 0 [] ∷ got 3 stamp2 stamp2 0 0 0 0 0 [] ∷ [];
    }

-- An image of the other version is no sound one.
abbrev pub trials_other_version : List Trial
trials_other_version =
    record { version = V1; start = empty_of2; sent = verify exclusive stamp1 stamp1 ∷ []; expected = got 9 0 0 0 0 0 0 0 [] ∷ [] }
    ∷ record { version = V2; start = empty; sent = names 5 0 0 [] [] ∷ []; expected = got 9 0 0 0 0 0 0 0 [] ∷ [] }
    ∷ []

abbrev pub trials_of2 : List Trial
trials_of2 = trial_languages ∷ trial_one_behind ∷ trial_all_behind ∷ trial_opens_at52 ∷ trial_lengthened ∷ (trials_malformed ++ trials_other_version)

-- A command of version 2 in bytes: the language at 20 and 15 zeros behind it, the marks at 36 and 42, the edition and the length, then the update pair.
abbrev pub BytesOf2 : Type 0
BytesOf2 =
    command_bytes V2
    (record {
      act = 4;
      mode = 2;
      language = 3;
      card = 7;
      verifier = pair 1 2;
      opened = pair 3 4;
      expected = mark_of 5 6;
      next = mark_of 8 9;
      edition = 10;
      length = 1;
    })
    (255 ∷ [])
    ≡ (4 ∷ 2 ∷ 7 ∷ 0 ∷ [])
    ++ (1 ∷ 0 ∷ 0 ∷ 0 ∷ 0 ∷ 0 ∷ 0 ∷ 0 ∷ [])
    ++ (2 ∷ 0 ∷ 0 ∷ 0 ∷ 0 ∷ 0 ∷ 0 ∷ 0 ∷ [])
    ++ (3 ∷ replicate 15 0)
    ++ (5 ∷ 0 ∷ 6 ∷ 0 ∷ 0 ∷ 0 ∷ [])
    ++ (8 ∷ 0 ∷ 9 ∷ 0 ∷ 0 ∷ 0 ∷ [])
    ++ (10 ∷ 0 ∷ 1 ∷ 0 ∷ [])
    ++ (3 ∷ 0 ∷ 0 ∷ 0 ∷ 0 ∷ 0 ∷ 0 ∷ 0 ∷ [])
    ++ (4 ∷ 0 ∷ 0 ∷ 0 ∷ 0 ∷ 0 ∷ 0 ∷ 0 ∷ [])
    ++ (255 ∷ [])

abbrev pub trials : List Trial
trials =
    trial_a
    ∷ trial_b
    ∷ trial_c
    ∷ trial_d
    ∷ trial_e
    ∷ trial_f
    ∷ trial_g
    ∷ trial_h
    ∷ trial_hStale
    ∷ trial_i
    ∷ trial_j
    ∷ trial_kOriginal
    ∷ trial_kTranslation
    ∷ trial_lOriginal
    ∷ trial_lTranslation
    ∷ case_p
    ∷ slip_by_length
    ∷ slip_command_pair
    ∷ slip_raised
    ∷ trial_mark (mark_of 5 7) passed57
    ∷ trial_mark (mark_of 5 8) passed57
    ∷ trial_mark (mark_of 5 6) refused57
    ∷ trial_mark (mark_of 6 7) refused57
    ∷ trial_mark no_mark refused57
    ∷ trial_no_mark
    -- exactly 1,000,000 above, and one more: on s alone, on x alone, in either mode; the largest stamp of the T in reach
    ∷ passed_ahead exclusive (ahead 1000003) (ahead 1)
    ∷ refused_ahead exclusive (ahead 1000004) (ahead 1)
    ∷ passed_ahead exclusive (ahead 3) (ahead 1000001)
    ∷ refused_ahead exclusive (ahead 3) (ahead 1000002)
    ∷ passed_ahead exclusive (ahead 1000003) (ahead 1000001)
    ∷ passed_ahead shared (ahead 1000003) (ahead 1000001)
    ∷ refused_ahead shared (ahead 1000004) (ahead 1)
    ∷ refused_ahead shared (ahead 3) (ahead 1000002)
    ∷ passed_ahead exclusive (stamp 1000003 65535 65535) (ahead 1)
    -- on a fresh card, with no stamp on the other side; a read of a translation that is behind
    ∷ fresh_verify shared (ahead 1000000) 0 (got 0 (ahead 1000000) 0 0 0 0 0 0 [])
    ∷ fresh_verify shared (ahead 1000001) 0 (got 17 0 0 0 0 0 0 0 [])
    ∷ fresh_verify exclusive 0 (ahead 1000000) (got 0 0 (ahead 1000000) 0 0 0 0 0 [])
    ∷ fresh_verify exclusive 0 (ahead 1000001) (got 17 0 0 0 0 0 0 0 [])
    ∷ fresh_read 1000000 6
    ∷ fresh_read 1000001 17
    ∷ trial_climb
    ∷ trial_below
    ∷ trial_ahead_stale
    ∷ trial_ahead_mark
    ∷ trial_ahead_written
    ∷ trial_malformed
    ∷ trial_no_card
    ∷ trial_unsound
    ∷ trial_opens
    ∷ trial_no_s
    ∷ trial_late_verifier
    ∷ trial_far_update
    ∷ (trials_of_pairs ++ trials_of2)

-- The claim: each row gets exactly what it must, whole lists of answers, fields and reply buffers.
abbrev pub Trials : Type 0
Trials = map (λ (t : Trial). run t.version t.start t.sent) trials ≡ map (λ (t : Trial). t.expected) trials
