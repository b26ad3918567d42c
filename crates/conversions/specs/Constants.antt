-- The decimal constants of the conversions. That each is the f32 nearest to its decimal is shown once for all constants, in the crate bench. Definitions only.
use Rattle.std.specs.Prelude.{Float}
use Rattle.std.specs.Float.{binary32}
use Rattle.std.specs.Float.Ieee.{of_bits}

abbrev pub zero : Float
zero = of_bits binary32 0x0000_0000

-- 4096.0, the codes of twelve bits
abbrev pub codes : Float
codes = of_bits binary32 0x4580_0000

-- 2.5 V, the full scale of the ad5627
abbrev pub v2_5 : Float
v2_5 = of_bits binary32 0x4020_0000

-- 3.3 V, the supply of the dac7571 and of the mcp3221
abbrev pub v3_3 : Float
v3_3 = of_bits binary32 0x4053_3333

-- 3.434 V, the supply of the ads7924
abbrev pub v3_434 : Float
v3_434 = of_bits binary32 0x405b_c6a8
