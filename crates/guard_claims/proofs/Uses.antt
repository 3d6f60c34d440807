-- Theorems on the guard and on commands, used where their hypotheses only just hold: stamps that did not grow, a
-- command of the last language with no payload, bytes that are no command. A stricter hypothesis or a sentence left
-- out is noticed here. Assumes nothing.
use Prim.Native.Nat.{◌+◌, ◌≤◌}
use native.Mathlib.Omega.{arith}
use mathlib.Core.Path.{◌≡◌, refl}
use mathlib.Core.Logic.{◌⊎◌}
use mathlib.Core.List.{[]}
use mathlib.Core.Bool.{false}
use lib.Dec.{T}
use Rattle.formats.specs.Format.{V1, V2}
use Rattle.lists.specs.Le.{le, to_le}
use Rattle.lists.specs.Parts.{part, zeros, Bytes}
use Rattle.lists.specs.Table.{all, all_from, applies, no_row, earlier}
use Rattle.stamps.specs.Stamp.{stamp, stale, shared, exclusive, stamp_t, most_ahead, too_far, no_pair, no_mark}
use Rattle.stamps.specs.declared.Pair.{Pair}
use Rattle.commands.specs.declared.Command.{Command}
use Rattle.std.specs.Prelude.{Some, None}
use Rattle.commands.specs.Command.{verifier, update, well_formed, FitsCommand}
use Rattle.commands.proofs.CommandBytes.{Bytes_command}
use Rattle.commands.specs.Bytes.{fields_of, payload, parsed, parsed_number, parsed_command, formed, command_bytes}
use Rattle.guard.specs.declared.Entry.{Entry}
use Rattle.guard.specs.Entry.{no_entry, entry_sound, FitsEntry}
use Rattle.guard.specs.Judge.{judge_rows, raise, judged}
use Rattle.guard_claims.specs.Claims.{Judging}
use Rattle.guard_claims.proofs.Claims.{judges, stale_stays, parses, command_comes_back, bytes_come_back, one_command_version}

-- The same stored pair: a shared command whose x is one below it, and an exclusive one whose s is.
abbrev stored : Pair
stored = record { s = 65537; x = 65537 }

stale_shared : T (stale shared stored (record { s = 0; x = 65536 }))
stale_shared = stale_stays shared stored stored (record { s = 0; x = 65536 }) (omega arith) (omega arith) tt

stale_exclusive : T (stale exclusive stored (record { s = 65536; x = 65537 }))
stale_exclusive = stale_stays exclusive stored stored (record { s = 65536; x = 65537 }) (omega arith) (omega arith) tt

-- No bytes: number 1, and zeros.
one_of_none : parsed_number (parsed V1 []) ≡ 1
unfolding formed le part
one_of_none = (parses V1 []).number

none_of_none : parsed_command (parsed V2 []) ≡ parsed_command None
unfolding formed le part
none_of_none = (parses V2 []).blanks tt

-- ---- a command comes back from its bytes (rule 3.1): a write of the last translation without a text, every field at its largest

abbrev largest : Command
largest =
    record {
      act = 4;
      mode = exclusive;
      language = 3;
      card = 65535;
      verifier = record { s = 18446744073709551615; x = 18446744073709551615 };
      opened = no_pair;
      expected = record { desk = 65535; transaction = 4294967295 };
      next = record { desk = 65535; transaction = 4294967295 };
      edition = 65535;
      length = 0;
    }

largest_fits : FitsCommand largest
largest_fits =
    record {
      act = omega arith;
      mode = omega arith;
      language = omega arith;
      card = omega arith;
      verifier = record { s = omega arith; x = omega arith };
      opened = record { s = omega arith; x = omega arith };
      expected = record { desk = omega arith; transaction = omega arith };
      next = record { desk = omega arith; transaction = omega arith };
      edition = omega arith;
      length = omega arith;
    }

largest_formed : T (well_formed largest)
unfolding well_formed all all_from
largest_formed = tt

largest_back : parsed V2 (command_bytes V2 largest []) ≡ Some largest
largest_back = (command_comes_back V2 largest [] largest_fits (omega arith) largest_formed refl).0

largest_text : payload V2 (command_bytes V2 largest []) ≡ []
largest_text = (command_comes_back V2 largest [] largest_fits (omega arith) largest_formed refl).1

-- Its bytes are those of what is read of them; and they are no command of version 1, which has other bytes before the payload.
largest_bytes : Bytes (command_bytes V2 largest [])
largest_bytes = Bytes_command largest [] V2 largest_fits (λ i. omega arith)

bytes_back : command_bytes V2 (fields_of V2 (command_bytes V2 largest [])) (payload V2 (command_bytes V2 largest [])) ≡ command_bytes V2 largest []
unfolding command_bytes formed payload fields_of well_formed all all_from le to_le part zeros
bytes_back = bytes_come_back V2 (command_bytes V2 largest []) largest_bytes tt

not_old : formed V1 (command_bytes V2 largest []) ≡ false
unfolding command_bytes formed payload fields_of well_formed all all_from le to_le part zeros
not_old = one_command_version (command_bytes V2 largest []) tt

-- ---- an entry that judges a command, each sentence (rules 4.1 to 4.9): a fresh one, and a verify from as far ahead as is allowed; a write that is stale

abbrev verifies : Command
verifies =
    record {
      act = 5;
      mode = exclusive;
      language = 0;
      card = 0;
      verifier = record { s = 0; x = stamp 1000000 1 0 };
      opened = no_pair;
      expected = no_mark;
      next = no_mark;
      edition = 0;
      length = 0;
    }

judging : Judging no_entry verifies 0 0
judging = judges no_entry verifies 0 0

taken : (judged no_entry verifies 0 0).number ≡ 0
unfolding judged well_formed all all_from
taken = refl

no_row_lem : T (no_row (judge_rows no_entry verifies 0 0))
no_row_lem = judging.accepts.0 taken

entry_raised : (judged no_entry verifies 0 0).entry ≡ raise no_entry verifies
entry_raised = judging.raises taken

was_formed : T (well_formed verifies)
was_formed = judging.formed taken

was_mode : (exclusive ≡ shared) ⊎ (exclusive ≡ exclusive)
was_mode = judging.mode taken

was_fresh : stale exclusive no_pair (verifier verifies) ≡ false
was_fresh = judging.fresh taken

was_near : too_far no_pair (update verifies) ≡ false
was_near = judging.near taken

stays_sound : T (entry_sound 0 (judged no_entry verifies 0 0).entry)
unfolding entry_sound all all_from
stays_sound = judging.sound tt

grown_s : 0 ≤ (judged no_entry verifies 0 0).entry.pair.s
grown_s = judging.grows.0

grown_x : 0 ≤ (judged no_entry verifies 0 0).entry.pair.x
grown_x = judging.grows.1

bound_s : stamp_t (judged no_entry verifies 0 0).entry.pair.s ≤ 0 + most_ahead
bound_s = judging.bounded.0

bound_x : stamp_t (judged no_entry verifies 0 0).entry.pair.x ≤ 0 + most_ahead
bound_x = judging.bounded.1

-- The same on an entry one stamp further: stale, and nothing changes.
abbrev further : Entry
further = record { pair = record { s = 0; x = stamp 1000000 1 1 }; mark = no_mark; edition = 0; from = 0; original = 0; translation = 0 }

late : (judged further verifies 0 0).number ≡ 3
unfolding judged well_formed all all_from
late = refl

late_row : T (applies 3 (judge_rows further verifies 0 0)) × T (no_row (earlier 3 (judge_rows further verifies 0 0)))
late_row = ((judges further verifies 0 0).each 2).0 late

late_kept : (judged further verifies 0 0).entry ≡ further
late_kept = (judges further verifies 0 0).leaves 2 late

no_entry_fits : FitsEntry no_entry
no_entry_fits =
    record {
      pair = record { s = omega arith; x = omega arith };
      mark = record { desk = omega arith; transaction = omega arith };
      edition = omega arith;
      from = omega arith;
      original = omega arith;
      translation = omega arith;
    }

stays_fit : FitsEntry (judged no_entry largest 0 0).entry
stays_fit = (judges no_entry largest 0 0).fits no_entry_fits largest_fits
