-- The worked cases: by computation, and by the theorems where their hypotheses are met. Assumes nothing.
use Prim.Native.Nat.{ℕ, zero, suc, ◌+◌, ◌≤◌}
use native.Mathlib.Omega.{arith}
use mathlib.Core.Path.{◌≡◌, refl, sym, ap, ◌∙◌}
use mathlib.Core.List.{List, [], ◌∷◌, ◌++◌, append-nil, map, reverse}
use mathlib.Core.Bool.{Bool, true, false, cond, not, ◌||◌}
use borrow.Author.Tests.{le-ltb, ne_eqb}
use lib.Dec.{T, ltb, eqb, lit≤}
use lib.ListN.{length, replicate, length-append, length-drop, length-replicate}
use Rattle.formats.specs.Format.{V1, V2}
use Rattle.lists.specs.Parts.{part, splice, tabulate, concat_map, every, zeros, Bytes}
use Rattle.lists.specs.Le.{le, to_le}
use Rattle.lists.specs.Search.{any, none}
use Rattle.lists.specs.Table.{row, all, all_from, first}
use Rattle.lists.proofs.Table.{first_then}
use Rattle.lists.proofs.Tests.{never_both, not_in}
use Rattle.commands.specs.Command.{well_formed}
use Rattle.commands.specs.Bytes.{fields_of, payload, formed, command_bytes}
use Rattle.guard.specs.Entry.{entry_sound}
use Rattle.guard.specs.Judge.{raise, entry_rows}
use Rattle.guard.specs.Replies.{replied}
use Rattle.guard.specs.declared.Entry.{Entry}
use Rattle.stream.specs.Stream.{whole, commands_within, commands, end_within, end_of}
use Rattle.image.specs.Layout.{shape_ok}
use Rattle.image.specs.Bytes.{header, entry_bytes, pad, read_entry, entry_at}
use Rattle.image.specs.Image.{bodies, encode, card_at, decode, tail_zero, translation_sound, card_sound, header_sound, sound, fresh}
use Rattle.store_model.specs.Cases.{read_original, long, text205, names, writes_in, reads_in, run}
use Rattle.store_model.specs.Serve.{stepped, serve_by, serve}
use Rattle.store_model.specs.Words.{Sent}
use Rattle.store_model.specs.Claims.{SentBytes, AllBytes}
use Rattle.history.specs.WorkedOut.{highest, times_written, text_from, entry_from}
use Rattle.history.specs.Engine.{over_limits, guard_rows, engine_rows, deduced_by, deduced}
use Rattle.history.specs.Lent.{history_size, kept_in, bytes_by, used_by, history_serve}
use Rattle.history.proofs.Raised.{entry_here}
use Rattle.history_claims.specs.Claims.{kept_after, engine_event, engine_events, engine_trace, gave22}
use Rattle.history_claims.specs.Swaps.{swap, Apart, SameSequences}
use Rattle.history_claims.specs.Cases.{paying, KeptLimits, again, TwoHundred, wrote205, WorkedBytes, on_card, malformed, in_language3, got_language3, ApartCases}
use Rattle.history_claims.specs.Edges.{weighing, writes_long, HistoryEdges, HistoryWorked}
use Rattle.store_model.proofs.ByTest.{bytes_by_lem, sent_bytes}
use Rattle.history_claims.proofs.Claims.{equals_guard, first_full}
use Rattle.history_claims.proofs.Lent.{engine_over_bytes, lent_equals_guard}
use Rattle.history_claims.proofs.Swaps.{swapping}
use Rattle.history_claims.proofs.Sequences.{sequences}
use Rattle.numbers.specs.Numbers.{HISTORY_FULL}

-- Payload bytes, by their number.
paid : (n : ℕ) → length (payload V1 (paying n)) ≡ n
unfolding payload
paid n = length-drop 52 (paying n) ∙ rw (length-replicate {A = ℕ} (52 + n) 0) (omega arith)

paid_behind : (n : ℕ) (command : List ℕ) → length (concat_map (payload V1) (command ∷ paying n ∷ [])) ≡ length (payload V1 command) + n
unfolding concat_map
paid_behind n command = rw (length-append (payload V1 command) (payload V1 (paying n) ++ []), append-nil (payload V1 (paying n)), paid n)

over_behind : (m n : ℕ) → over_limits (paying m ∷ paying n ∷ []) ≡ ltb 32768 (m + n)
over_behind m n = ap (λ (k : ℕ). ltb 32768 k) (paid_behind n (paying m) ∙ ap (λ (k : ℕ). k + n) (paid m))

kept_limits : KeptLimits
unfolding concat_map payload
kept_limits = record { many = refl; too_many = refl; heavy = over_behind 32000 768; too_heavy = over_behind 32000 769 }

worked_bytes : WorkedBytes
unfolding history_serve kept_in bytes_by used_by deduced deduced_by entry_from text_from highest times_written replied raise commands commands_within end_of
    end_within whole command_bytes formed payload fields_of well_formed all all_from le to_le part splice concat_map zeros
worked_bytes =
    record {
      three = refl;
      read = refl;
      text = refl;
      used = refl;
      late = refl;
      late_used = refl;
      opened = refl;
      counted = refl;
      behind_third = refl;
      behind_second = refl;
      used_second = refl;
      told_second = refl;
      late_bytes = refl;
      late_reply = refl;
    }

-- Beside one kept command that weighs so many bytes, the number of a request goes by the sum.
number_beside : ℕ → List ℕ → ℕ
number_beside n command =
    first (guard_rows 1 16 (weighing n ∷ []) command 0 ++ (row (ltb 32768 (length (payload V1 command) + n)) HISTORY_FULL ∷ []))

beside : (n : ℕ) (s : Sent) → (deduced 1 16 (weighing n ∷ []) s.command []).answer.number ≡ number_beside n s.command
unfolding deduced deduced_by replied number_beside
beside n s =
    ap (λ (k : ℕ). first (guard_rows 1 16 (weighing n ∷ []) s.command 0 ++ (row (ltb 32768 k) HISTORY_FULL ∷ []))) (paid_behind n s.command)

two_are : {a b c d : ℕ} → a ≡ c → b ≡ d → (a ∷ b ∷ []) ≡ (c ∷ d ∷ [])
two_are {a} {b} {c} {d} p q = ap (λ (n : ℕ). n ∷ b ∷ []) p ∙ ap (λ (n : ℕ). c ∷ n ∷ []) q

beside_two : number_beside 32766 (writes_long 2).command ≡ 0
unfolding number_beside highest times_written entry_from fields_of payload formed command_bytes well_formed all all_from le to_le part zeros
beside_two = refl

beside_three : number_beside 32766 (writes_long 3).command ≡ 22
unfolding number_beside highest times_written entry_from fields_of payload formed command_bytes well_formed all all_from le to_le part zeros
beside_three = refl

weights : map (λ (s : Sent). (deduced 1 16 (weighing 32766 ∷ []) s.command []).answer.number) (writes_long 2 ∷ writes_long 3 ∷ []) ≡ 0 ∷ 22 ∷ []
weights = two_are (beside 32766 (writes_long 2) ∙ beside_two) (beside 32766 (writes_long 3) ∙ beside_three)

-- What is worked out of the kept commands, field by field.
history_edges : HistoryEdges
unfolding highest times_written text_from entry_from deduced_by deduced replied fields_of payload formed command_bytes well_formed all all_from le to_le part splice concat_map zeros
history_edges =
    record {
      entry0 = refl;
      entry1 = refl;
      entry2 = refl;
      texts = refl;
      translations = refl;
      full = refl;
      reply = refl;
      untouched = refl;
      two_cards_lem = refl;
      weights = weights;
    }

-- ---- one command again and again

abbrev command : List ℕ
command = again.command

abbrev once : Entry
once = entry_from (command ∷ []) 0

stays : raise once (fields_of V1 command) ≡ once
unfolding entry_from highest times_written raise command_bytes fields_of le to_le part
stays = refl

for_0 : eqb (fields_of V1 command).card 0 ≡ true
unfolding command_bytes fields_of le to_le part
for_0 = refl

entry_is : (m : ℕ) → entry_from (replicate (suc m) command) 0 ≡ once
entry_is zero = refl
entry_is (suc m) =
    entry_here (replicate (suc m) command) command 0 for_0
    ∙ ap (λ (e : Entry). raise e (fields_of V1 command)) (entry_is m)
    ∙ stays

-- The guard lets it pass on no entry and on that entry.
abbrev on : Entry → ℕ
on e = first (row (not (formed V1 command)) 1 ∷ row (not (ltb (fields_of V1 command).card 1)) 2 ∷ entry_rows e (fields_of V1 command) 16 0)

on_none : on (entry_from [] 0) ≡ 0
unfolding entry_from highest times_written command_bytes formed fields_of well_formed all all_from le to_le part zeros
on_none = refl

on_once : on once ≡ 0
unfolding entry_from highest times_written raise command_bytes formed fields_of well_formed all all_from le to_le part zeros
on_once = refl

card_0 : (fields_of V1 command).card ≡ 0
unfolding command_bytes fields_of le to_le part
card_0 = refl

passes : (m : ℕ) → first (guard_rows 1 16 (replicate m command) command 0) ≡ 0
passes zero = ap (λ (k : ℕ). on (entry_from [] k)) card_0 ∙ on_none
passes (suc m) = ap (λ (k : ℕ). on (entry_from (replicate (suc m) command) k)) card_0 ∙ ap on (entry_is m) ∙ on_once

paid_none : (m : ℕ) → concat_map (payload V1) (replicate m command) ≡ []
unfolding concat_map payload command_bytes to_le
paid_none zero = refl
paid_none (suc m) = paid_none m

over_at : (m : ℕ) → over_limits (replicate m command) ≡ (ltb 200 m || false)
over_at m = rw (length-replicate m command, paid_none m)

number_at : (m : ℕ) (b : Bool) → ltb 200 (suc m) ≡ b → first (engine_rows 1 16 (replicate m command) command 0) ≡ cond b HISTORY_FULL 0
number_at m b h =
    first_then (guard_rows 1 16 (replicate m command) command 0) (row (over_limits (replicate (suc m) command)) HISTORY_FULL ∷ []) tt
    ∙ rw (passes m, over_at (suc m), h) (go b)
  where
    go : (b : Bool) → cond (b || false) HISTORY_FULL 0 ≡ cond b HISTORY_FULL 0
    go true = refl
    go false = refl

low : (m : ℕ) → suc m ≤ 200 → first (engine_rows 1 16 (replicate m command) command 0) ≡ 0
low m h = number_at m false (le-ltb 200 (suc m) h)

kept_is : (m : ℕ) → m ≤ 200 → kept_after 1 16 (replicate m again) ≡ replicate m command
unfolding kept_after deduced deduced_by
kept_is zero h = refl
kept_is (suc m) h = rw (kept_is m (omega (arith, h)), low m h)

until_is : (m : ℕ) → m ≤ 200 → any gave22 (engine_events 1 16 (replicate m again)) ≡ false
unfolding engine_events deduced deduced_by replied
until_is zero h = refl
until_is (suc m) h = rw (kept_is m (omega (arith, h)), low m h) (until_is m (omega (arith, h)))

turned : reverse (replicate 200 again) ≡ replicate 200 again
turned = refl

until_200 : none gave22 (engine_trace 1 16 (replicate 200 again)) ≡ true
unfolding engine_trace
until_200 = ap (λ (l : List Sent). none gave22 (engine_events 1 16 l)) turned ∙ not_in (until_is 200 (lit≤ tt))

next_200 : gave22 (engine_event again (deduced 1 16 (kept_after 1 16 (reverse (replicate 200 again))) again.command again.lent)) ≡ true
unfolding deduced deduced_by replied
next_200 =
    ap (λ (l : List Sent). gave22 (engine_event again (deduced 1 16 (kept_after 1 16 l) again.command again.lent))) turned
    ∙ rw (kept_is 200 (lit≤ tt), number_at 200 true refl)

again_bytes : SentBytes again
unfolding command_bytes to_le
again_bytes = sent_bytes again tt tt

all_again : (m : ℕ) → AllBytes (replicate m again)
all_again zero = tt
all_again (suc m) = (again_bytes, all_again m)

shape : T (shape_ok V1 1 16)
unfolding shape_ok all all_from
shape = tt

zeros_long : length (replicate {A = ℕ} history_size 0) ≡ history_size
zeros_long = length-replicate {A = ℕ} history_size 0

two_hundred : TwoHundred
unfolding engine_trace
two_hundred =
    record {
      until = until_200;
      equal = equals_guard 1 16 shape (replicate 200 again) (all_again 200) until_200;
      lent_equal =
          lent_equals_guard 1 16 shape (replicate history_size 0) zeros_long (replicate 200 again) (all_again 200)
          (ap (none gave22) (engine_over_bytes 1 16 (replicate history_size 0) zeros_long (reverse (replicate 200 again))).events
          ∙ until_200);
      next = next_200;
      first_refused_lem = first_full 1 16 shape (replicate 200 again) (all_again 200) again until_200 next_200;
    }

-- ---- different cards

fresh_bytes : Bytes (fresh V1 2 16)
unfolding fresh header to_le
fresh_bytes = bytes_by_lem (fresh V1 2 16) tt

read_1 : SentBytes (on_card 1 (read_original (long 3)))
unfolding command_bytes to_le splice
read_1 = sent_bytes (on_card 1 (read_original (long 3))) tt tt

again_1 : SentBytes (on_card 1 again)
unfolding command_bytes to_le splice
again_1 = sent_bytes (on_card 1 again) tt tt

write_0 : SentBytes wrote205
unfolding command_bytes to_le
write_0 = sent_bytes wrote205 tt tt

write_1 : SentBytes (on_card 1 wrote205)
unfolding command_bytes to_le splice
write_1 = sent_bytes (on_card 1 wrote205) tt tt

no_command : SentBytes malformed
no_command = sent_bytes malformed tt tt

-- What each request is for.
card_1 : (s : Sent) → (fields_of V1 (on_card 1 s).command).card ≡ 1 → (fields_of V1 wrote205.command).card ≡ 0 → Apart V1 (on_card 1 s) wrote205
card_1 s h k p q z = let never : ◌≡◌ {A = ℕ} 1 0 = sym h ∙ z ∙ k in absurd (omega (arith, never))

reads_1 : (fields_of V1 (on_card 1 (read_original (long 3))).command).card ≡ 1
unfolding command_bytes fields_of le to_le part splice
reads_1 = refl

agains_1 : (fields_of V1 (on_card 1 again).command).card ≡ 1
unfolding command_bytes fields_of le to_le part splice
agains_1 = refl

writes_0 : (fields_of V1 wrote205.command).card ≡ 0
unfolding command_bytes fields_of le to_le part
writes_0 = refl

not_formed : formed V1 malformed.command ≡ false
unfolding formed le part
not_formed = refl

either : SameSequences V1 (on_card 1 wrote205 ∷ malformed ∷ wrote205 ∷ []) (wrote205 ∷ on_card 1 wrote205 ∷ [])
unfolding command_bytes formed fields_of well_formed all all_from le to_le part splice zeros
either zero = refl
either (suc zero) = refl
either (suc (suc k)) = rw (ne_eqb 0 (suc (suc k)) (λ z. omega arith), ne_eqb 1 (suc (suc k)) (λ z. omega arith))

-- Version 2.
fresh_bytes_2 : Bytes (fresh V2 2 16)
unfolding fresh header to_le
fresh_bytes_2 = bytes_by_lem (fresh V2 2 16) tt

all_bytes_2 : AllBytes in_language3
unfolding command_bytes to_le splice
all_bytes_2 = (
  sent_bytes (on_card 1 (reads_in 3)) tt tt,
  (
    sent_bytes (writes_in 1 3) tt tt,
    (
      sent_bytes (on_card 1 (writes_in 1 3)) tt tt,
      (
        sent_bytes (on_card 1 (names 3 0 0 text205 [])) tt tt,
        (sent_bytes (names 3 0 0 text205 []) tt tt, tt),
      ),
    ),
  ),
)

reads_card : (fields_of V2 (on_card 1 (reads_in 3)).command).card ≡ 1
unfolding command_bytes fields_of le to_le part splice
reads_card = refl

writes_card : (fields_of V2 (writes_in 1 3).command).card ≡ 0
unfolding command_bytes fields_of le to_le part
writes_card = refl

apart_2 : Apart V2 (on_card 1 (reads_in 3)) (writes_in 1 3)
apart_2 p q z = let never : ◌≡◌ {A = ℕ} 1 0 = sym reads_card ∙ z ∙ writes_card in absurd (omega (arith, never))

accepted_2 : run V2 (fresh V2 2 16) (reverse in_language3) ≡ got_language3
unfolding run serve serve_by stepped sound header_sound card_sound translation_sound tail_zero decode card_at entry_at read_entry encode bodies pad entry_bytes
    header shape_ok fresh replied raise entry_sound command_bytes formed payload fields_of well_formed all all_from le to_le part splice tabulate concat_map every zeros
accepted_2 = refl

apart_cases : ApartCases
unfolding swap command_bytes formed fields_of well_formed all all_from le to_le part splice zeros
apart_cases =
    record {
      swapped = refl;
      for_card = refl;
      cards_apart =
          swapping V1 (fresh V1 2 16) fresh_bytes (on_card 1 (read_original (long 3)) ∷ wrote205 ∷ []) (read_1, (write_0, tt)) 0
          (card_1 (read_original (long 3)) reads_1 writes_0);
      malformed_apart =
          swapping V1 (fresh V1 2 16) fresh_bytes (again ∷ wrote205 ∷ malformed ∷ []) (again_bytes, (write_0, (no_command, tt))) 1
          (λ p q z. never_both q not_formed);
      unsound_apart =
          swapping V1 (1 ∷ []) (bytes_by_lem (1 ∷ []) tt) (on_card 1 again ∷ wrote205 ∷ []) (again_1, (write_0, tt)) 0 (card_1 again agains_1 writes_0);
      either_order =
          sequences V1 (fresh V1 2 16) fresh_bytes (on_card 1 wrote205 ∷ malformed ∷ wrote205 ∷ []) (wrote205 ∷ on_card 1 wrote205 ∷ [])
          (write_1, (no_command, (write_0, tt))) (write_0, (write_1, tt)) either;
      languages_apart = swapping V2 (fresh V2 2 16) fresh_bytes_2 in_language3 all_bytes_2 0 apart_2;
      languages_accepted = accepted_2;
    }

pub history_worked : HistoryWorked
history_worked = (kept_limits, (two_hundred, (worked_bytes, (history_edges, apart_cases))))
