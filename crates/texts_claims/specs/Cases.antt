-- Worked cases of structured texts, in bytes: two texts, and the verdict that they must get (docs/RULES.md, section 12).
-- Assumes nothing.
use Rattle.std.specs.Prelude.{ℕ, zero, suc, ◌<◌, ◌≡◌, List, [], ◌∷◌, ◌++◌, length, take, drop, replicate}
use Rattle.texts.specs.Agree.{Verdict, verdict, Compared}

-- One row of the table.
pub record TextCase : Type 0 where
  pub first : List ℕ
  pub second : List ℕ
  pub expected : Verdict

abbrev pub text_case : List ℕ → List ℕ → ℕ → ℕ → TextCase
text_case first second number place = record { first = first; second = second; expected = verdict number place }

-- ---- steps and texts in bytes

-- A drop of 205 C, of 401 F and of 402 F.
abbrev pub c205 : List ℕ
c205 = 3 ∷ 67 ∷ 2 ∷ 8 ∷ []

abbrev pub f401 : List ℕ
f401 = 3 ∷ 70 ∷ 170 ∷ 15 ∷ []

abbrev pub f402 : List ℕ
f402 = 3 ∷ 70 ∷ 180 ∷ 15 ∷ []

-- No words, and the words `abc`.
abbrev pub no_words : List ℕ
no_words = 2 ∷ 0 ∷ []

abbrev pub abc : List ℕ
abc = 2 ∷ 3 ∷ 97 ∷ 98 ∷ 99 ∷ []

-- A section of so many steps, in bytes, and the same as a step.
abbrev pub holding : ℕ → List ℕ → List ℕ
holding count steps = 1 ∷ count ∷ steps

abbrev pub section_step : ℕ → List ℕ → List ℕ
section_step count steps = 4 ∷ holding count steps

-- The same bytes, so many times.
unfoldable pub times : ℕ → List ℕ → List ℕ
times zero l = []
times (suc n) l = l ++ times n l

-- A section with so many sections around it, each of them the only step of the next.
unfoldable pub around : ℕ → List ℕ → List ℕ
around zero inner = inner
around (suc n) inner = holding 1 (4 ∷ around n inner)

-- A text with every kind of step: words, a drop, and a section with a drop; 20 bytes.
abbrev pub sample : List ℕ
sample = holding 4 (abc ++ c205 ++ section_step 1 c205 ++ no_words)

-- ---- two texts

abbrev pub text_cases : List TextCase
text_cases =
    -- One drop, in two scales; words are not compared.
    text_case (holding 1 c205) (holding 1 f401) 0 0
    ∷ text_case (holding 1 c205) (holding 1 f402) 20 2
    ∷ text_case (holding 2 (abc ++ c205)) (holding 2 (no_words ++ f401)) 0 0
    ∷ text_case (holding 2 (abc ++ c205)) (holding 2 (no_words ++ f402)) 20 7
    ∷ text_case (holding 2 (no_words ++ c205)) (holding 2 (abc ++ f402)) 20 4
    ∷ text_case (holding 3 (abc ++ f402 ++ c205)) (holding 3 (abc ++ c205 ++ f402)) 20 7
    -- A step of another kind, each kind against each other.
    ∷ text_case (holding 1 no_words) (holding 1 c205) 20 2
    ∷ text_case (holding 1 no_words) (holding 1 (section_step 0 [])) 20 2
    ∷ text_case (holding 1 c205) (holding 1 no_words) 20 2
    ∷ text_case (holding 1 c205) (holding 1 (section_step 1 c205)) 20 2
    ∷ text_case (holding 1 (section_step 0 [])) (holding 1 no_words) 20 2
    ∷ text_case (holding 2 (no_words ++ section_step 1 c205)) (holding 2 (no_words ++ c205)) 20 4
    -- More steps in the first text, in the second, in the outer section.
    ∷ text_case (holding 0 []) (holding 0 []) 0 0
    ∷ text_case (holding 2 (abc ++ no_words)) (holding 1 abc) 20 7
    ∷ text_case (holding 1 abc) (holding 2 (abc ++ no_words)) 20 7
    ∷ text_case (holding 1 no_words) (holding 0 []) 20 2
    ∷ text_case (holding 0 []) (holding 1 no_words) 20 2
    -- And in an inner one: the place just past it is that of the outer section's next step.
    ∷ text_case (holding 2 (section_step 2 (abc ++ no_words) ++ no_words)) (holding 2 (section_step 1 abc ++ no_words)) 20 10
    ∷ text_case (holding 2 (section_step 1 abc ++ no_words)) (holding 2 (section_step 2 (abc ++ no_words) ++ no_words)) 20 10
    ∷ text_case (holding 2 (section_step 0 [] ++ no_words)) (holding 2 (section_step 1 abc ++ c205)) 20 5
    -- Inside a section, and behind one.
    ∷ text_case (holding 1 (section_step 1 c205)) (holding 1 (section_step 1 f401)) 0 0
    ∷ text_case (holding 1 (section_step 1 c205)) (holding 1 (section_step 1 f402)) 20 5
    ∷ text_case (holding 2 (section_step 1 c205 ++ c205)) (holding 2 (section_step 1 f401 ++ f402)) 20 9
    ∷ text_case (holding 1 (section_step 2 (no_words ++ section_step 1 c205))) (holding 1 (section_step 2 (abc ++ section_step 1 f402))) 20 10
    -- 8 deep, and 9.
    ∷ text_case (around 7 (holding 0 [])) (around 7 (holding 0 [])) 0 0
    ∷ text_case (around 8 (holding 0 [])) (around 7 (holding 0 [])) 18 0
    ∷ text_case (around 7 (holding 0 [])) (around 8 (holding 0 [])) 19 0
    ∷ text_case (around 6 (holding 0 [])) (around 7 (holding 0 [])) 20 20
    ∷ text_case (around 7 (holding 1 c205)) (around 7 (holding 1 f401)) 0 0
    ∷ text_case (around 7 (holding 1 c205)) (around 7 (holding 1 f402)) 20 23
    -- Sections beside one another are not within one another: nine of them, and two that are 8 deep with the outermost.
    ∷ text_case (holding 9 (times 9 (section_step 0 []))) (holding 9 (times 9 (section_step 0 []))) 0 0
    ∷ text_case (holding 3 (times 2 (4 ∷ around 6 (holding 0 [])) ++ c205)) (holding 3 (times 2 (4 ∷ around 6 (holding 0 [])) ++ f402)) 20 44
    -- As many steps as a count can say, and words as long as a length can say.
    ∷ text_case (holding 255 (times 255 no_words)) (holding 255 (times 255 abc)) 0 0
    ∷ text_case (holding 255 (times 254 no_words ++ c205)) (holding 255 (times 255 no_words)) 20 510
    ∷ text_case (holding 254 (times 254 no_words)) (holding 255 (times 255 no_words)) 20 510
    ∷ text_case (holding 255 (times 254 no_words)) (holding 0 []) 18 0
    ∷ text_case (holding 2 (2 ∷ 255 ∷ replicate 255 7 ++ c205)) (holding 2 (no_words ++ f402)) 20 259
    ∷ text_case (holding 1 (2 ∷ 255 ∷ replicate 254 7)) (holding 0 []) 18 0
    -- The same in an inner section; words of any bytes; the least and the largest tenths.
    ∷ text_case (holding 2 (section_step 255 (times 255 no_words) ++ c205)) (holding 2 (section_step 255 (times 255 abc) ++ f402)) 20 515
    ∷ text_case (holding 2 (2 ∷ 4 ∷ 0 ∷ 255 ∷ 1 ∷ 4 ∷ c205)) (holding 2 (no_words ++ f402)) 20 8
    ∷ text_case (holding 2 (3 ∷ 70 ∷ 0 ∷ 0 ∷ 3 ∷ 67 ∷ 255 ∷ 255 ∷ [])) (holding 2 (3 ∷ 70 ∷ 0 ∷ 0 ∷ 3 ∷ 67 ∷ 255 ∷ 255 ∷ [])) 0 0
    ∷ text_case (holding 2 (3 ∷ 67 ∷ 0 ∷ 0 ∷ 3 ∷ 70 ∷ 255 ∷ 255 ∷ [])) (holding 2 (3 ∷ 70 ∷ 64 ∷ 1 ∷ 3 ∷ 70 ∷ 255 ∷ 254 ∷ [])) 20 6
    -- Bytes left over, by the text or by a section in it.
    ∷ text_case (holding 0 (0 ∷ [])) (holding 0 []) 18 0
    ∷ text_case (holding 0 []) (holding 0 no_words) 19 0
    ∷ text_case (holding 1 (section_step 0 no_words)) (holding 0 []) 18 0
    -- Ill formed: no bytes, a first byte, a step's kind, a unit, a section's first byte. The first text is judged first.
    ∷ text_case [] [] 18 0
    ∷ text_case (holding 0 []) [] 19 0
    ∷ text_case (0 ∷ 0 ∷ []) (holding 0 []) 18 0
    ∷ text_case (2 ∷ 0 ∷ []) (2 ∷ 0 ∷ []) 18 0
    ∷ text_case (holding 1 (1 ∷ 0 ∷ [])) (holding 0 []) 18 0
    ∷ text_case (holding 1 (5 ∷ 0 ∷ [])) (holding 0 []) 18 0
    ∷ text_case (holding 1 (3 ∷ 66 ∷ 2 ∷ 8 ∷ [])) (holding 0 []) 18 0
    ∷ text_case (holding 1 (3 ∷ 68 ∷ 2 ∷ 8 ∷ [])) (holding 0 []) 18 0
    ∷ text_case (holding 1 (3 ∷ 69 ∷ 2 ∷ 8 ∷ [])) (holding 0 []) 18 0
    ∷ text_case (holding 1 (3 ∷ 71 ∷ 2 ∷ 8 ∷ [])) (holding 0 []) 18 0
    ∷ text_case (holding 1 (4 ∷ 2 ∷ 0 ∷ [])) (holding 0 []) 18 0
    ∷ text_case (holding 1 c205) (holding 1 (3 ∷ 67 ∷ 2 ∷ [])) 19 0
    ∷ []

-- The places of five rows, in bytes: from 7, 4 and 5 on stands a step of the first text; up to 10 and up to 7 stands a section of it, behind its kind and as a whole.
pub record PlacesWorked : Type 0 where
  pub drop_behind_words : drop 7 (holding 2 (abc ++ c205)) ≡ c205
  pub section_step_lem : drop 4 (holding 2 (no_words ++ section_step 1 c205)) ≡ section_step 1 c205
  pub inner_step : drop 5 (holding 1 (section_step 1 c205)) ≡ c205
  pub inner_end : take 10 (holding 2 (section_step 1 abc ++ no_words)) ≡ (1 ∷ 2 ∷ 4 ∷ []) ++ holding 1 abc
  pub whole_end : take 7 (holding 1 abc) ≡ holding 1 abc

-- A statement of every row.
unfoldable pub Each : (TextCase → Type 0) → List TextCase → Type 0
Each P [] = Unit {0}
Each P (c ∷ cs) = P c × Each P cs

abbrev pub TwoTextsWorked : Type 0
TwoTextsWorked = Each (λ (c : TextCase). Compared c.first c.second c.expected) text_cases

-- The sample agrees with itself, and is refused when it is cut at any byte.
pub record SampleWorked : Type 0 where
  pub long : length sample ≡ 20
  pub whole : Compared sample sample (verdict 0 0)
  pub cut : (k : ℕ) → k < 20 → Compared (take k sample) sample (verdict 18 0)
  pub cut_second : (k : ℕ) → k < 20 → Compared sample (take k sample) (verdict 19 0)

-- The worked cases of comparisons, as one table: pairs of texts, the sample, the places of five rows.
abbrev pub TextsWorked : Type 0
TextsWorked = TwoTextsWorked × (SampleWorked × PlacesWorked)
