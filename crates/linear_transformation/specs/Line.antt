-- The line y = x * slope + offset and its inverse, in IEEE 754's binary32: each operation rounds once. Definitions only.
use Rattle.std.specs.Prelude.{Float}
use Rattle.std.specs.Float.{binary32}
use Rattle.std.specs.Float.Ieee.{add, sub, mul, div}
use Rattle.linear_transformation.specs.declared.LinearTransformation.{LinearTransformation}

-- the pair as one value
abbrev pub line : Float → Float → LinearTransformation
line slope offset = record { slope = slope; offset = offset }

-- x times slope, rounded; then plus offset, rounded
abbrev pub map_of : LinearTransformation → Float → Float
map_of l x = add binary32 (mul binary32 x l.slope) l.offset

-- y minus offset, rounded; then divided by slope, rounded
abbrev pub invert_of : LinearTransformation → Float → Float
invert_of l y = div binary32 (sub binary32 y l.offset) l.slope
