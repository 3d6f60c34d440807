-- Worked cases of near drops, on both sides of the half degree (docs/RULES.md, 12.7).
-- Assumes nothing.
use Rattle.std.specs.Prelude.{ℕ, ◌≡◌, Bool, true, false, List, [], ◌∷◌, map}
use Rattle.text_drops.specs.Drop.{Scale, celsius, fahrenheit, drop_of, near}

-- Two drops, by scale and tenths, and whether they are near.
pub record NearCase : Type 0 where
  pub scale : Scale
  pub tenths : ℕ
  pub other_scale : Scale
  pub other_tenths : ℕ
  pub expected : Bool

abbrev pub near_case : Scale → ℕ → Scale → ℕ → Bool → NearCase
near_case scale tenths other_scale other_tenths expected =
    record { scale = scale; tenths = tenths; other_scale = other_scale; other_tenths = other_tenths; expected = expected }

abbrev pub near_cases : List NearCase
near_cases =
    -- 205 C is 401 F.
    near_case celsius 2050 fahrenheit 4010 true
    ∷ near_case celsius 2050 fahrenheit 4020 false
    -- Half a degree above and below is near, in both orders; a tenth more is not.
    ∷ near_case celsius 2050 fahrenheit 4015 true
    ∷ near_case celsius 2050 fahrenheit 4005 true
    ∷ near_case fahrenheit 4015 celsius 2050 true
    ∷ near_case fahrenheit 4005 celsius 2050 true
    ∷ near_case celsius 2050 fahrenheit 4016 false
    ∷ near_case celsius 2050 fahrenheit 4004 false
    -- One scale: 205.2 C is 401.36 F, 205.3 C is 401.54 F.
    ∷ near_case celsius 2050 celsius 2052 true
    ∷ near_case celsius 2050 celsius 2053 false
    ∷ near_case fahrenheit 7 fahrenheit 12 true
    ∷ near_case fahrenheit 7 fahrenheit 13 false
    -- Ties that rounding refuses: the rounded difference is a little above a half.
    ∷ near_case celsius 180 fahrenheit 639 false
    ∷ near_case fahrenheit 639 celsius 180 false
    ∷ near_case celsius 535 fahrenheit 1278 false
    ∷ near_case celsius 1245 fahrenheit 2556 false
    ∷ near_case celsius 2665 fahrenheit 5122 false
    ∷ near_case fahrenheit 6 fahrenheit 11 false
    -- The order of rounding (rule 12.6): 10.5 times 9, then divided by 5, then plus 32 is 50.9 and half a degree from 50.4; 9 / 5 first, or the division first, gives a value
    -- that is further away.
    ∷ near_case celsius 105 fahrenheit 504 true
    ∷ near_case fahrenheit 504 celsius 105 true
    -- The smallest and the largest numbers: 0 C is 32 F; 6,553.5 C is 11,828.3 F.
    ∷ near_case celsius 0 fahrenheit 320 true
    ∷ near_case celsius 0 fahrenheit 0 false
    ∷ near_case celsius 65535 celsius 65535 true
    ∷ near_case celsius 65535 fahrenheit 65535 false
    ∷ []

-- Every case of the table.
abbrev pub NearWorked : Type 0
NearWorked =
    map (λ (c : NearCase). near (drop_of c.scale c.tenths) (drop_of c.other_scale c.other_tenths)) near_cases
    ≡ map (λ (c : NearCase). c.expected) near_cases
