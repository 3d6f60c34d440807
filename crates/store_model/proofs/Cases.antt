-- The worked cases, by computation on bytes. Assumes nothing.
use Prim.Native.Nat.{ℕ}
use mathlib.Core.Path.{◌≡◌, refl, ap}
use mathlib.Core.List.{List, [], ◌∷◌, ◌++◌, reverse, reverse-cons, reverse-append}
use Rattle.lists.specs.Parts.{part, splice, tabulate, concat_map, every, zeros}
use Rattle.lists.specs.Le.{le, to_le}
use Rattle.lists.specs.Table.{all, all_from}
use Rattle.commands.specs.Command.{well_formed}
use Rattle.commands.specs.Bytes.{fields_of, payload, formed, command_bytes}
use Rattle.guard.specs.Entry.{entry_sound}
use Rattle.guard.specs.Judge.{raise}
use Rattle.guard.specs.Replies.{replied}
use Rattle.formats.specs.Format.{Format}
use Rattle.image.specs.Layout.{shape_ok}
use Rattle.image.specs.Bytes.{header, entry_bytes, pad, read_entry, entry_at}
use Rattle.image.specs.Image.{bodies, encode, card_at, decode, tail_zero, translation_sound, card_sound, header_sound, sound, fresh}
use Rattle.image.specs.Convert.{converted}
use Rattle.store_model.specs.Serve.{stepped, serve_by, serve}
use Rattle.store_model.specs.Cases.{run, RunTraced, Trials, BytesOf2}
use Rattle.store_model.specs.Conversion.{StoryAcross, StoreCases}
use Rattle.store_model.specs.Words.{Sent, event_of, image_after, trace_from}

trials_hold : Trials
unfolding run serve serve_by stepped sound header_sound card_sound translation_sound tail_zero decode card_at entry_at read_entry encode bodies pad entry_bytes
    header shape_ok fresh replied raise entry_sound command_bytes formed payload fields_of well_formed all all_from le to_le part splice tabulate concat_map every zeros
trials_hold = refl

bytes_of_2 : BytesOf2
unfolding command_bytes to_le
bytes_of_2 = refl

story_across : StoryAcross
unfolding converted image_after run serve serve_by stepped sound header_sound card_sound translation_sound tail_zero decode card_at entry_at
    read_entry encode bodies pad entry_bytes header shape_ok fresh replied raise entry_sound command_bytes formed payload fields_of well_formed all all_from
    le to_le part splice tabulate concat_map every zeros
story_across = refl

pub store_cases : StoreCases
store_cases = (trials_hold, (bytes_of_2, story_across))

-- ---- a run and the trace of the same requests

module _ (f : Format) (start : List ℕ) (s : Sent) where
  abbrev next : List ℕ
  next = (serve f start s.command s.lent).image

  pub image_first : (l : List Sent) → image_after f start (l ++ (s ∷ [])) ≡ image_after f next l
  unfolding image_after
  image_first [] = refl
  image_first (a ∷ l) = ap (λ (i : List ℕ). (serve f i a.command a.lent).image) (image_first l)

  history_first : (l : List Sent) → trace_from f start (l ++ (s ∷ [])) ≡ trace_from f next l ++ (event_of f s (serve f start s.command s.lent) ∷ [])
  unfolding trace_from image_after
  history_first [] = refl
  history_first (a ∷ l) = rw (image_first l, history_first l)

pub run_logged : RunTraced
unfolding run trace_from
run_logged f start [] = refl
run_logged f start (s ∷ later) =
    rw (
      reverse-cons s later,
      history_first f start s (reverse later),
      reverse-append (trace_from f (next f start s) (reverse later)) (event_of f s (serve f start s.command s.lent) ∷ []),
      run_logged f (next f start s) later,
    )
