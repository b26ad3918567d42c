-- Each chip's conversion, as document 01 has it, in IEEE 754's binary32. Each operation rounds once; the cut to 16 bits is Rust's `as u16`: toward zero, saturating at 65,535, a NaN to 0. Definitions only.
use Rattle.std.specs.Prelude.{ℕ, ◌&&◌, ◌||◌, cond, pos, leb, Float, Option, Some, None}
use Rattle.std.specs.Float.{binary32}
use Rattle.std.specs.Float.Ieee.{lt, le, mul, div, of_int, to_unsigned}
use Rattle.conversions.specs.declared.Limits.{Limits}
use Rattle.conversions.specs.Constants.{zero, codes, v2_5, v3_3, v3_434}

-- v / scale x 4096, cut
abbrev pub code_of : Float → Float → ℕ
code_of scale v = to_unsigned 16 (mul binary32 (div binary32 v scale) codes)

-- code / 4096 x scale
abbrev pub volts_of : Float → ℕ → Float
volts_of scale code = mul binary32 (div binary32 (of_int binary32 (pos code)) codes) scale

-- ---- ad5627: accepted if 0 <= v <= 2.5 and the code is at most 4095. A NaN is refused
abbrev pub ad5627_code : Float → Option ℕ
ad5627_code v = cond (le zero v && le v v2_5 && leb (code_of v2_5 v) 4095) (Some (code_of v2_5 v)) None

-- ---- dac7571: refused if v >= 3.3 or v < 0. A NaN passes both tests, and its code is 0
abbrev pub dac7571_code : Float → Option ℕ
dac7571_code v = cond (le v3_3 v || lt v zero) None (Some (code_of v3_3 v))

-- ---- ads7924: one code is 3.434 / 4096 volts
abbrev pub lsb : Float
lsb = div binary32 v3_434 codes

-- v / (3.434 / 4096), cut
abbrev pub limit_of : Float → ℕ
limit_of v = to_unsigned 16 (div binary32 v lsb)

-- refused if high < low, if either is below 0, or if a code is 4096 or more
abbrev pub ads7924_codes : Float → Float → Option Limits
ads7924_codes low high =
    cond (lt high low || lt low zero || lt high zero || leb 4096 (limit_of low) || leb 4096 (limit_of high))
    None (Some (record { low = limit_of low; high = limit_of high }))

-- code x (3.434 / 4096)
abbrev pub ads7924_volts : ℕ → Float
ads7924_volts code = mul binary32 (of_int binary32 (pos code)) lsb
