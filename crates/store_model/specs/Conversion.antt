-- A store that is converted between two lists of requests: demand 3 over the whole, and a story of it; and all worked cases of the store.
-- Assumes nothing.
use Rattle.std.specs.Prelude.{ℕ, ◌≡◌, List, [], ◌∷◌, ◌++◌, reverse, T, replicate}
use Rattle.formats.specs.Format.{V1, V2}
use Rattle.image.specs.Layout.{shape_ok, size_of}
use Rattle.image.specs.Convert.{converted, convert_number}
use Rattle.store_model.specs.Words.{Sent, Event, image_after, fresh_after, trace_from, trace_of}
use Rattle.store_model.specs.Claims.{AllBytes, Claim}
use Rattle.store_model.specs.Cases.{run, names, got_in, stamp1, write_original, write_translation, BytesOf2, Trials}

-- The image that both lists leave: the first is sent to a fresh image of version 1, the second to the image that this one is converted to.
abbrev pub image_across : ℕ → ℕ → List Sent → List Sent → List ℕ
image_across n c sent more = image_after V2 (converted (fresh_after V1 n c sent)) (reverse more)

-- Their events, latest first: those after the conversion as version 2 reads them, and those before it as version 1 does.
unfoldable pub trace_across : ℕ → ℕ → List Sent → List Sent → List Event
trace_across n c sent more = trace_from V2 (converted (fresh_after V1 n c sent)) (reverse more) ++ trace_of V1 n c sent

-- Rule 15.12: the image that the first list leaves is converted where as many bytes are lent as an image of version 2 has, and of both lists together every sentence of
-- demand 3 holds. A translation of version 1 is named by language 0, as its commands are read.
pub record Across (n c : ℕ) (sent more : List Sent) : Type 0 where
  pub converts : convert_number (fresh_after V1 n c sent) (size_of V2 n c) ≡ 0
  pub claim : Claim n (sent ++ more) (trace_across n c sent more)

abbrev pub Demand3Across : Type 0
Demand3Across = (n c : ℕ) → T (shape_ok V2 n c) → (sent more : List Sent) → AllBytes sent → AllBytes more → Across n c sent more

-- ---- A story: an original and its translation, a conversion, then languages.

abbrev pub sent_before : List Sent
sent_before = write_original stamp1 stamp1 (50 ∷ 48 ∷ 53 ∷ []) ∷ write_translation stamp1 stamp1 1 (52 ∷ 48 ∷ 49 ∷ []) ∷ []

-- Language 0 is read, language 1 is behind, is written and is read; the original is written again, and both are behind.
abbrev pub sent_after : List Sent
sent_after =
    names 2 0 0 [] (replicate 3 0)
    ∷ names 2 1 0 [] (replicate 3 0)
    ∷ names 4 1 1 (52 ∷ 48 ∷ 50 ∷ []) []
    ∷ names 2 1 0 [] (replicate 3 0)
    ∷ names 2 0 0 [] (replicate 3 0)
    ∷ names 3 0 0 (50 ∷ 48 ∷ 54 ∷ []) []
    ∷ names 2 0 0 [] (replicate 3 0)
    ∷ names 2 1 0 [] (replicate 3 0)
    ∷ []

abbrev pub StoryAcross : Type 0
StoryAcross =
    run V2 (converted (fresh_after V1 1 16 sent_before)) sent_after
    ≡ (got_in 0 1 1 3 (52 ∷ 48 ∷ 49 ∷ [])
    ∷ got_in 6 1 0 0 (replicate 3 0)
    ∷ got_in 0 1 1 0 []
    ∷ got_in 0 1 1 3 (52 ∷ 48 ∷ 50 ∷ [])
    ∷ got_in 0 1 1 3 (52 ∷ 48 ∷ 49 ∷ [])
    -- an act without a language is answered translated-from of language 0
    ∷ got_in 0 2 1 0 []
    ∷ got_in 6 2 1 0 (replicate 3 0)
    ∷ got_in 6 2 1 0 (replicate 3 0)
    ∷ [])

-- One table of the worked cases of the store: the trials, a command of version 2 in bytes, and the story.
abbrev pub StoreCases : Type 0
StoreCases = Trials × (BytesOf2 × StoryAcross)
