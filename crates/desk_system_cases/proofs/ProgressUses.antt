-- What is claimed of a command on the word of a reply, used where its hypotheses only just hold. Assumes nothing.
use native.Mathlib.Omega.{arith}
use mathlib.Core.Path.{refl}
use mathlib.Core.List.{[], ◌∷◌}
use lib.Dec.{T}
use Rattle.formats.specs.Format.{V1}
use Rattle.lists.specs.Parts.{Bytes, part, splice, tabulate, concat_map, every, zeros}
use Rattle.lists.specs.Le.{le, to_le}
use Rattle.lists.specs.Table.{all, all_from, listed}
use Rattle.stamps.specs.Stamp.{stamp, exclusive}
use Rattle.commands.specs.Command.{well_formed}
use Rattle.commands.specs.Bytes.{fields_of, payload, formed, command_bytes}
use Rattle.guard.specs.Entry.{entry_sound}
use Rattle.guard.specs.Judge.{raise}
use Rattle.guard.specs.Replies.{replied}
use Rattle.image.specs.Layout.{shape_ok}
use Rattle.image.specs.Bytes.{header, entry_bytes, pad, read_entry, entry_at}
use Rattle.image.specs.Image.{bodies, encode, card_at, decode, tail_zero, translation_sound, card_sound, header_sound, sound, fresh}
use Rattle.store_model.specs.Serve.{stepped, serve_by, serve}
use Rattle.store_model.specs.Words.{image_after, trace_from}
use Rattle.store_model.specs.Cases.{text401}
use Rattle.store_model.proofs.ByTest.{bytes_by_lem, sent_bytes}
use Rattle.desk_proposals.specs.Propose.{next_t, pair_for, proposed}
use Rattle.desk_system.specs.Progress.{guard_numbers, image_left, Resumes}
use Rattle.desk_system_cases.specs.ProgressCases.{fresh_store, first_write, refused_since, two_knows, resumed}
use Rattle.desk_system.proofs.Progress.{not_stale_after}

-- ---- the theorem, used with refused requests in between, by a desk that knows an x 999,999 ahead

card_bytes : Bytes fresh_store
unfolding fresh header to_le
card_bytes = bytes_by_lem fresh_store tt

resumes : Resumes V1 fresh_store first_write refused_since (two_knows (stamp 999999 9 0)) exclusive (resumed (stamp 1000000 2 0) text401)
unfolding image_after trace_from next_t pair_for proposed serve serve_by stepped sound header_sound card_sound translation_sound tail_zero decode card_at entry_at read_entry
    encode bodies pad entry_bytes header shape_ok fresh replied raise entry_sound command_bytes formed payload fields_of well_formed all all_from le to_le part
    splice tabulate concat_map every zeros
resumes =
    record {
      replied = refl;
      still = refl;
      proposes = refl;
      heard_s = omega arith;
      heard_x = omega arith;
      near_s = omega arith;
      near_x = omega arith;
      is_formed = refl;
      card_is = refl;
      opens = refl;
      relies_s = omega arith;
      relies_x = omega arith;
    }

passes_the_guard : T (listed guard_numbers (serve V1 (image_after V1 (image_left V1 fresh_store first_write) refused_since) (resumed (stamp 1000000 2 0) text401).command []).answer.number)
unfolding command_bytes to_le
passes_the_guard =
    not_stale_after V1 fresh_store first_write refused_since (two_knows (stamp 999999 9 0)) exclusive (resumed (stamp 1000000 2 0) text401) (omega arith) (omega arith) card_bytes
    (sent_bytes first_write tt tt) (sent_bytes (record { command = 1 ∷ 2 ∷ 0 ∷ []; lent = [] }) tt tt, (sent_bytes _ tt tt, tt)) resumes
