-- The power that a detector's millivolts stand for. Definitions only.
use Rattle.std.specs.Prelude.{ℕ, pos, Float}
use Rattle.std.specs.Float.{binary32}
use Rattle.std.specs.Float.Ieee.{of_bits, div, of_int}
use Rattle.linear_transformation.specs.declared.LinearTransformation.{LinearTransformation}
use Rattle.linear_transformation.specs.Line.{map_of}

-- millivolts / 1000.0, mapped; every operation rounds
abbrev pub detected : LinearTransformation → ℕ → Float
detected t millivolts = map_of t (div binary32 (of_int binary32 (pos millivolts)) (of_bits binary32 0x447a_0000))
