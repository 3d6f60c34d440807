-- A run of commands over one image, and the numbers of its answers (rules 8.4 and 8.5).
-- Assumes nothing.
use Rattle.std.specs.Prelude.{ℕ, ◌≡◌, List, [], ◌∷◌}
use Rattle.formats.specs.Format.{Format}
use Rattle.guard.specs.Replies.{reply_fields}
use Rattle.guard.specs.declared.Answer.{Answer}
use Rattle.store_model.specs.Serve.{serve}

-- A run of commands over an image, with one reply buffer for all of them: the answers in order, the image and the reply buffer after.
pub record Run : Type 0 where
  pub answers : List Answer
  pub image : List ℕ
  pub reply : List ℕ

-- Command by command, of a version: each is judged on the image that the one before it left.
unfoldable pub runs : Format → List ℕ → List ℕ → List (List ℕ) → Run
runs f image reply [] = record { answers = []; image = image; reply = reply }
runs f image reply (c ∷ cs) =
    record {
      answers = (serve f image c reply).answer ∷ (runs f (serve f image c reply).image (serve f image c reply).reply cs).answers;
      image = (runs f (serve f image c reply).image (serve f image c reply).reply cs).image;
      reply = (runs f (serve f image c reply).image (serve f image c reply).reply cs).reply;
    }

-- The numbers of an answer, which its line shows, and how many they are.
unfoldable pub numbers_of : Answer → List ℕ
numbers_of a = a.number ∷ reply_fields a

abbrev pub per_line : ℕ
per_line = 8

-- What one request comes to, wherever it is judged (rules 4.1 to 4.8): the numbers of its answer, and the image and the reply buffer after it.
abbrev pub ServesTo : Format → List ℕ → List ℕ → List ℕ → List ℕ → List ℕ → List ℕ → Type 0
ServesTo f image command reply numbers image' reply' =
    (numbers ≡ numbers_of (serve f image command reply).answer) × ((image' ≡ (serve f image command reply).image) × (reply' ≡ (serve f image command reply).reply))
