-- Demand 3, in whole numbers. T, O and S are the threshold, the offset and the slope in steps of 2 ^ -149. The count 4096 x (T - O) / (2.5 x S) is the fraction 8192 x (T - O) / (5 x S). Definitions only.
use Rattle.std.specs.Prelude.{ℕ, ◌+◌, ◌*◌, ◌^◌, ◌≤◌, ◌<◌, Bool, true, false, ◌⊎◌, ℤ, pos, neg_ℤ, ◌+ℤ◌, ◌-ℤ◌, ◌*ℤ◌, ◌≤ℤ◌, ◌<ℤ◌, Float, Option, Some, None}
use Rattle.steps.specs.Steps.{unit, magnitude, negative, steps, IsNumber}
use Rattle.linear_transformation.specs.declared.LinearTransformation.{LinearTransformation}

-- what demand 3 takes for given: finite numbers, a slope other than zero, and a threshold and an offset of at most 2 ^ 126 in size
pub record Given (l : LinearTransformation) (threshold : Float) : Type 0 where
  pub threshold_finite : IsNumber threshold
  pub offset_finite : IsNumber l.offset
  pub slope_finite : IsNumber l.slope
  pub slope_not_zero : 0 < magnitude l.slope
  pub threshold_size : magnitude threshold ≤ 2 ^ 126 * unit
  pub offset_size : magnitude l.offset ≤ 2 ^ 126 * unit

-- ---- the count is `num` / `den`; a slope below zero turns the sign of both

abbrev pub turned : Bool → ℤ → ℤ
turned false z = z
turned true z = neg_ℤ z

abbrev pub num : LinearTransformation → Float → ℤ
num l threshold = turned (negative l.slope) (pos 8192 *ℤ (steps threshold -ℤ steps l.offset))

abbrev pub den : LinearTransformation → ℕ
den l = 5 * magnitude l.slope

-- ---- the two halves

-- an accepted code is above the count less 1 + 1/1024, and at most the count plus 1/1024
pub record Close (l : LinearTransformation) (threshold : Float) (code : ℕ) : Type 0 where
  pub above : (pos 1024 *ℤ num l threshold) <ℤ pos (1024 * (code * den l) + 1025 * den l)
  pub at_most : pos (1024 * (code * den l)) ≤ℤ ((pos 1024 *ℤ num l threshold) +ℤ pos (den l))

-- a refused count is below 0, or above 4096 - 1/1024, which is 4194303 / 1024
abbrev pub OutOfRange : LinearTransformation → Float → Type 0
OutOfRange l threshold = (num l threshold <ℤ pos 0) ⊎ (pos (4194303 * den l) <ℤ (pos 1024 *ℤ num l threshold))

abbrev pub Answers : LinearTransformation → Float → Option ℕ → Type 0
Answers l threshold (Some code) = Close l threshold code
Answers l threshold None = OutOfRange l threshold

-- ---- demand 3, of one answer, and of a conversion

abbrev pub Right : LinearTransformation → Float → Option ℕ → Type 0
Right l threshold answer = Given l threshold → Answers l threshold answer

abbrev pub Demand3 : (LinearTransformation → Float → Option ℕ) → Type 0
Demand3 convert = (l : LinearTransformation) (threshold : Float) → Right l threshold (convert l threshold)
