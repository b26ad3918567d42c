-- A level on its way to volts, in steps: the difference of threshold and offset, rounded; divided by the slope, rounded; its share of 2.5, rounded. Where the difference does not overflow, `invert` is the second of these (`volts_are`).
-- Assumes nothing.
use mathlib.Core.Path.{◌≡◌, ap, ◌∙◌}
use Prim.Native.Nat.{ℕ, ◌*◌, ◌<◌}
use mathlib.Core.Bool.{Bool}
use lib.Ieee.{Float, binary32, unlike, div, round}
use lib.Ieee.Scale.{grid, overflow}
use Rattle.steps.specs.Steps.{unit, magnitude, negative, IsNumber}
use Rattle.steps.proofs.Operations.{rounded, difference, quotient, apart_sign, apart_size}
use Rattle.linear_transformation.specs.declared.LinearTransformation.{LinearTransformation}
use Rattle.linear_transformation.specs.Line.{invert_of}
use Rattle.conversions.specs.Constants.{v2_5}
use Rattle.conversions.proofs.Cuts.{share}
use Rattle.interlock.proofs.Accepted.{half, full}

module _ (l : LinearTransformation) (t : Float) where
  -- the exact difference and the slope
  abbrev pub apart : ℕ
  apart = apart_size t l.offset

  abbrev pub slope : ℕ
  slope = magnitude l.slope

  -- the sign of the volts
  abbrev pub sign : Bool
  sign = unlike (apart_sign t l.offset) (negative l.slope)

  -- the three roundings
  abbrev pub rounded_apart : ℕ
  rounded_apart = grid binary32 apart unit

  abbrev pub volts : ℕ
  volts = grid binary32 rounded_apart slope

  abbrev pub shares : ℕ
  shares = grid binary32 volts (5 * half)

  pub record Finite : Type 0 where
    pub threshold : IsNumber t
    pub offset : IsNumber l.offset
    pub slope_number : IsNumber l.slope
    pub slope_some : 0 < slope
    pub under : rounded_apart < overflow binary32

  pub volts_are : Finite → invert_of l t ≡ round binary32 sign rounded_apart slope
  volts_are f =
      let (number, is_sign, is_size) = rounded (apart_sign t l.offset) apart unit f.under in
      ap (λ (z : Float). div binary32 z l.slope) (difference t l.offset f.threshold f.offset)
      ∙ quotient (round binary32 (apart_sign t l.offset) apart unit) l.slope number f.slope_number f.slope_some
      ∙ rw (is_sign, is_size)

  -- a number of so many volts has that share of the full scale
  pub share_is : (r : Float) → magnitude r ≡ volts → share v2_5 r ≡ shares
  share_is r e = rw (e, full)
