-- A finite f32 is a whole number of steps of 2 ^ -149, the smallest f32 above zero, with a sign. Here fractions are compared over whole numbers. Definitions only.
use Rattle.std.specs.Prelude.{ℕ, ◌+◌, ◌-◌, ◌*◌, ◌/◌, ◌^◌, ◌≤◌, Bool, true, false, ℤ, pos, neg_ℤ, T, Float}
use Rattle.std.specs.Float.{nan, inf, fin, binary32}
use Rattle.std.specs.Float.Ieee.{up, down, fits}
use Rattle.std.specs.Float.Ieee.Scale.{finite}

-- how many steps make 1.0
abbrev pub unit : ℕ
unit = 2 ^ 149

-- the size of a finite f32 in steps; a NaN and an infinity have none, and 0 stands in
unfoldable pub magnitude : Float → ℕ
magnitude nan = 0
magnitude (inf s) = 0
magnitude (fin s m e) = m * up e * unit / down e

-- whether the sign is set
unfoldable pub negative : Float → Bool
negative nan = false
negative (inf s) = s
negative (fin s m e) = s

-- a whole number from its sign and its size
abbrev pub signed : Bool → ℕ → ℤ
signed false n = pos n
signed true n = neg_ℤ (pos n)

-- the steps of a finite f32, with its sign
abbrev pub steps : Float → ℤ
steps x = signed (negative x) (magnitude x)

-- x is an f32, and a number
abbrev pub IsNumber : Float → Type 0
IsNumber x = T (fits binary32 x) × T (finite x)

-- how far apart two whole numbers are
abbrev pub gap : ℕ → ℕ → ℕ
gap a b = (a - b) + (b - a)

-- r steps differ from n / d steps by at most half a step and one part in 2 ^ 24 of n / d
pub record HalfStep (n d r : ℕ) : Type 0 where
  pub over : 2 ^ 24 * (r * d) ≤ 2 ^ 24 * n + n + 2 ^ 23 * d
  pub under : 2 ^ 24 * n ≤ 2 ^ 24 * (r * d) + n + 2 ^ 23 * d

-- r steps differ from w steps by at most one part in 2 ^ 24 of w
pub record Relative (w r : ℕ) : Type 0 where
  pub over : 2 ^ 24 * r ≤ 2 ^ 24 * w + w
  pub under : 2 ^ 24 * w ≤ 2 ^ 24 * r + w
