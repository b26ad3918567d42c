-- The numbers of demand 3 are those of the work order: at its edges the definitions say no, so that none of them can be loosened unseen, under a positive slope or a negative one. Definitions only.
use Rattle.std.specs.Prelude.{ℕ, ◌^◌, Bool, not, Float}
use Rattle.std.specs.Float.{binary32}
use Rattle.std.specs.Float.Ieee.{round}
use Rattle.linear_transformation.specs.declared.LinearTransformation.{LinearTransformation}
use Rattle.linear_transformation.specs.Line.{line}
use Rattle.interlock.specs.Demand3.{Given, Close, OutOfRange}

-- n / d with the sign s
abbrev pub fraction : Bool → ℕ → ℕ → Float
fraction s n d = round binary32 s n d

-- Slope 2 ^ 23 and offset o, or both below zero. Where threshold - offset is 5 x k, with the same sign, the count is k / 1024.
abbrev pub steep : Bool → ℕ → LinearTransformation
steep s o = line (fraction s (2 ^ 23) 1) (fraction s o 1)

-- s is the sign of the slope; threshold and offset are mirrored with it, so that the counts are the same for both
pub record Edges (s : Bool) : Type 0 where
  -- a count of 4096 - 1/1024 may not be refused: 20971516 - 1 is 5 x 4194303
  pub full_scale : OutOfRange (steep s 1) (fraction s 20971516 1) → ⊥
  -- nor a count of 0
  pub nothing : OutOfRange (steep s 0) (fraction s 0 1) → ⊥
  -- a count of 2 + 1/1024 may not get the code 1: 10245 is 5 x 2049
  pub too_low : Close (steep s 0) (fraction s 10245 1) 1 → ⊥
  -- a count just below 1 - 1/1024, that of the f32 below 5115, may not get the code 1
  pub too_high : Close (steep s 0) (fraction s 10475519 (2 ^ 11)) 1 → ⊥
  -- thresholds and offsets up to 2 ^ 126 are given, of either sign, and every slope but zero
  pub largest : Given (line (fraction s 1 (2 ^ 149)) (fraction (not s) (2 ^ 126) 1)) (fraction s (2 ^ 126) 1)

abbrev pub EdgesHold : Type 0
EdgesHold = (s : Bool) → Edges s
