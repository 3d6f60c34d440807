-- The worked cases, by computation. Assumes nothing.
use mathlib.Core.Path.{refl}
use Rattle.lists.specs.Le.{le, to_le}
use Rattle.lists.specs.Parts.{part, concat_map, tabulate, every, zeros}
use Rattle.lists.specs.Table.{all, all_from}
use Rattle.commands.specs.Command.{well_formed}
use Rattle.commands.specs.Bytes.{fields_of, payload, formed, command_bytes}
use Rattle.guard.specs.Entry.{entry_sound}
use Rattle.image_claims.specs.Cases.{Limits, SecondLimits, ByteChanges}
use Rattle.image_claims.specs.Layouts.{LayoutCases, ImageCases}
use Rattle.image_claims.specs.Conversion.{ConvertCases}
use Rattle.image.specs.Layout.{shape_ok}
use Rattle.image.specs.Bytes.{header, entry_bytes, pad, read_entry, entry_at}
use Rattle.image.specs.Image.{bodies, encode, card_at, decode, tail_zero, translation_sound, card_sound, header_sound, sound, fresh, makes}
use Rattle.image.specs.Convert.{converted}

limits_hold : Limits
unfolding makes shape_ok all all_from
limits_hold = refl

second_limits_hold : SecondLimits
unfolding makes shape_ok all all_from
second_limits_hold = refl

changes_hold : ByteChanges
unfolding sound header_sound card_sound translation_sound tail_zero entry_at read_entry encode bodies pad entry_bytes
    header shape_ok entry_sound all all_from le to_le part concat_map tabulate every zeros
changes_hold = refl

layout_cases : LayoutCases
unfolding fields_of payload formed command_bytes well_formed sound header_sound card_sound translation_sound tail_zero decode card_at entry_at read_entry encode
    bodies pad entry_bytes header fresh shape_ok entry_sound all all_from le to_le part concat_map tabulate every zeros
layout_cases =
    record {
      parts = refl;
      command1 = refl;
      command2 = refl;
      payload1 = refl;
      payload2 = refl;
      bytes1 = refl;
      bytes_new = refl;
      bytes2 = refl;
      formed1 = refl;
      formed2 = refl;
      entry1 = refl;
      entry2_0 = refl;
      entry2_1 = refl;
      entry2_2 = refl;
      entry2_3 = refl;
      image1 = refl;
      image2 = refl;
      back1 = refl;
      back2 = refl;
      sounds = (refl, refl);
      other = (refl, refl);
      behind = refl;
      froms = refl;
      lengths = refl;
      editions = refl;
      originals = refl;
      texts = refl;
      first_behind = refl;
      last_behind = refl;
      second1 = refl;
      second2 = refl;
      places1 = refl;
      places2 = refl;
    }

convert_cases : ConvertCases
unfolding converted decode card_at sound header_sound card_sound translation_sound tail_zero entry_at read_entry encode bodies pad entry_bytes header makes
    shape_ok entry_sound all all_from le to_le part concat_map tabulate every zeros
convert_cases = record { image = refl; two = refl; numbers = refl; twelve = refl; thirteen = refl }

pub image_cases : ImageCases
image_cases = (limits_hold, (second_limits_hold, (changes_hold, (layout_cases, convert_cases))))
