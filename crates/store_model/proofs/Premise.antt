-- The premise on the lists of trials a and d, by computation on bytes. Assumes nothing.
use mathlib.Core.Path.{refl}
use mathlib.Core.List.{[]}
use Rattle.lists.specs.Parts.{part, splice, tabulate, concat_map, every, zeros}
use Rattle.lists.specs.Le.{le, to_le}
use Rattle.lists.specs.Table.{all, all_from}
use Rattle.commands.specs.Command.{well_formed}
use Rattle.commands.specs.Bytes.{fields_of, payload, formed, command_bytes}
use Rattle.guard.specs.Entry.{entry_sound}
use Rattle.guard.specs.Judge.{raise}
use Rattle.guard.specs.Replies.{replied}
use Rattle.stamps.specs.Stamp.{stamp, shared, exclusive}
use Rattle.formats.specs.Format.{V1}
use Rattle.image.specs.Layout.{shape_ok}
use Rattle.image.specs.Bytes.{header, entry_bytes, pad, read_entry, entry_at}
use Rattle.image.specs.Image.{bodies, encode, card_at, decode, tail_zero, translation_sound, card_sound, header_sound, sound, fresh}
use Rattle.store_model.specs.Serve.{stepped, serve_by, serve}
use Rattle.store_model.specs.Words.{Sent, Event, received, image_after, trace_from, trace_of}
use Rattle.store_model.specs.Cases.{pair, got, verify, verify_opening, stamp1, sent_d, sent_hidden}
use Rattle.store_model.specs.Claims.{Intruded, PremiseTells}

-- An accepted event of trial d, and of the same with update pairs.
abbrev event : Sent → Event
event s = record { sent = s; read = received V1 s; answer = (got 0 stamp1 stamp1 0 0 0 0 0 []).answer; reply = [] }

intruded : Intruded (trace_of V1 1 16 sent_d)
unfolding trace_of trace_from image_after serve serve_by stepped sound header_sound card_sound translation_sound tail_zero decode card_at entry_at read_entry
    encode bodies pad entry_bytes header shape_ok fresh replied raise entry_sound command_bytes formed payload fields_of well_formed all all_from le to_le
    part splice tabulate concat_map every zeros
intruded =
    record {
      a = event (verify exclusive stamp1 stamp1);
      e = event (verify shared (stamp 0 2 0) stamp1);
      b = event (verify exclusive stamp1 stamp1);
      split = refl;
      first = refl;
      second = refl;
      same = refl;
      intruder = refl;
    }

hidden : Intruded (trace_of V1 1 16 sent_hidden)
unfolding trace_of trace_from image_after serve serve_by stepped sound header_sound card_sound translation_sound tail_zero decode card_at entry_at read_entry
    encode bodies pad entry_bytes header shape_ok fresh replied raise entry_sound command_bytes formed payload fields_of well_formed all all_from le to_le
    part splice tabulate concat_map every zeros
hidden =
    record {
      a = event (verify exclusive stamp1 stamp1);
      e = event (verify_opening shared (pair (stamp 0 1 0) stamp1) (pair (stamp 0 2 0) stamp1));
      b = event (verify exclusive stamp1 stamp1);
      split = refl;
      first = refl;
      second = refl;
      same = refl;
      intruder = refl;
    }

pub premise_tells : PremiseTells
unfolding command_bytes formed payload fields_of well_formed all all_from le to_le part zeros
premise_tells =
    record { holds = refl; fails = refl; without = intruded; hidden = refl; hidden_without = hidden; lifted = refl }
