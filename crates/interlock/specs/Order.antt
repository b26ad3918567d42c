-- How a bay keeper thinks of a level: a higher one never gets a lower code under a positive slope, and never a higher one under a negative slope, where both are accepted. Definitions only.
use Rattle.std.specs.Prelude.{◌≡◌, ℕ, ◌≤◌, T, Float, Option, Some}
use Rattle.std.specs.Float.{binary32}
use Rattle.std.specs.Float.Ieee.{fits, lt, le}
use Rattle.linear_transformation.specs.declared.LinearTransformation.{LinearTransformation}
use Rattle.conversions.specs.Constants.{zero}

-- the transform and both levels are f32, of which nothing else is asked
pub record Floats (l : LinearTransformation) (lower higher : Float) : Type 0 where
  pub slope : T (fits binary32 l.slope)
  pub offset : T (fits binary32 l.offset)
  pub low : T (fits binary32 lower)
  pub high : T (fits binary32 higher)

abbrev pub Rising : (LinearTransformation → Float → Option ℕ) → Type 0
Rising convert =
    (l : LinearTransformation) (lower higher : Float) (a b : ℕ) → Floats l lower higher → T (lt zero l.slope) → T (le lower higher)
    → convert l lower ≡ Some a → convert l higher ≡ Some b → a ≤ b

abbrev pub Falling : (LinearTransformation → Float → Option ℕ) → Type 0
Falling convert =
    (l : LinearTransformation) (lower higher : Float) (a b : ℕ) → Floats l lower higher → T (lt l.slope zero) → T (le lower higher)
    → convert l lower ≡ Some a → convert l higher ≡ Some b → b ≤ a
