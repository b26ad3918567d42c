-- Rounding to nearest, a tie to the even neighbour (IEEE 754 binary32), over whole numbers of steps, and what is shown of it. Definitions only.
use Rattle.std.specs.Prelude.{◌≡◌, ◌⊎◌, ℕ, ◌-◌, ◌*◌, ◌%◌, ◌^◌, ◌≤◌, ◌<◌, Bool, Float}
use Rattle.std.specs.Float.{inf, binary32}
use Rattle.std.specs.Float.Ieee.{round}
use Rattle.steps.specs.Steps.{unit, magnitude, negative, IsNumber, gap}

-- The size of a finite f32 by its digits: m units of 2 ^ b steps. There are at most 24 binary digits, and all 24 unless the unit is the single step, so that a size has one m and one b.
-- The largest unit is 2 ^ 253 steps, which is 2 ^ 104.
pub record Size (r : ℕ) : Type 0 where
  pub m : ℕ
  pub b : ℕ
  pub is : r ≡ m * 2 ^ b
  pub few : m < 2 ^ 24
  pub full : (b ≡ 0) ⊎ (2 ^ 23 ≤ m)
  pub reach : b ≤ 253

-- n / d steps become r steps: r is the size of an f32, no f32 is nearer, and where another is as near the last digit of r is 0
pub record Nearest (n d r : ℕ) : Type 0 where
  pub size : Size r
  pub least : (y : ℕ) → Size y → gap (r * d) n ≤ gap (y * d) n
  pub even : (y : ℕ) → Size y → gap (r * d) n ≡ gap (y * d) n → (y ≡ r) ⊎ (size.m % 2 ≡ 0)

-- halfway from the largest f32, 2 ^ 128 - 2 ^ 104, to 2 ^ 128, in steps
abbrev pub too_large : ℕ
too_large = (2 ^ 128 - 2 ^ 103) * unit

-- x is n / d steps with the sign s, rounded: the nearest f32, or from `too_large` on the infinity
pub record Rounded (s : Bool) (n d : ℕ) (x : Float) : Type 0 where
  pub number : n < too_large * d → IsNumber x × (negative x ≡ s) × Nearest n d (magnitude x)
  pub infinite : too_large * d ≤ n → x ≡ inf s

-- ---- what is shown of it

-- the sizes are those of the f32 numbers: each number has one, and each is had, with either sign
pub record Sizes : Type 0 where
  pub has : (x : Float) → IsNumber x → Size (magnitude x)
  pub had : (r : ℕ) → Size r → (s : Bool) → (x : Float) × IsNumber x × (negative x ≡ s) × (magnitude x ≡ r)

-- the definition determines its result
abbrev pub OneResult : Type 0
OneResult = (s : Bool) (n d : ℕ) → 0 < d → (x y : Float) → Rounded s n d x → Rounded s n d y → x ≡ y

-- and it is the rounding that every operation of `lib.Ieee` makes: a / c, which is a * unit / c steps, becomes `round binary32 s a c`
abbrev pub EveryFraction : Type 0
EveryFraction = (s : Bool) (a c : ℕ) → 0 < c → Rounded s (a * unit) c (round binary32 s a c)
