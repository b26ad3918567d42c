-- The code that is sent for a trip level: the level through the transform's inverse, then the ad5627's conversion. Definition only.
use Rattle.std.specs.Prelude.{Float, Option, ℕ}
use Rattle.linear_transformation.specs.declared.LinearTransformation.{LinearTransformation}
use Rattle.linear_transformation.specs.Line.{invert_of}
use Rattle.conversions.specs.Codes.{ad5627_code}

abbrev pub level_code : LinearTransformation → Float → Option ℕ
level_code l threshold = ad5627_code (invert_of l threshold)
