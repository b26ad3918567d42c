-- Rust's `as` from an f32 to an unsigned integer cuts toward zero. Once for every width w and every scale c: the value a / c becomes its whole part, or the largest number of w bits. Assumes nothing.
use mathlib.Core.Path.{◌≡◌, refl, sym, ap}
use Prim.Native.Nat.{ℕ, ◌-◌, ◌*◌, ◌/◌, ◌^◌, ◌<◌, min}
use mathlib.Core.Bool.{true, false, true≢false}
use lib.Ieee.{Float, nan, inf, fin, up, down, to_unsigned}
use lib.Ieee.Fits.{down_pos}
use lib.Ieee.Exact.{HasValue}
use lib.Ieee.Nearest.{div_same}

pub truncates : (w : ℕ) (x : Float) (a c : ℕ) → 0 < c → HasValue x false a c → to_unsigned w x ≡ min (a / c) (2 ^ w - 1)
unfolding to_unsigned
truncates w nan a c C v = absurd v
truncates w (inf s) a c C v = absurd v
truncates w (fin true m e) a c C v = absurd (true≢false v.0)
truncates w (fin false m e) a c C v = ap (λ (z : ℕ). min z (2 ^ w - 1)) (div_same (m * up e) (down e) a c (down_pos e) C v.1)

-- below zero there is nothing to keep
pub truncates_below : (w : ℕ) (x : Float) (a c : ℕ) → HasValue x true a c → to_unsigned w x ≡ 0
unfolding to_unsigned
truncates_below w nan a c v = absurd v
truncates_below w (inf s) a c v = absurd v
truncates_below w (fin true m e) a c v = refl
truncates_below w (fin false m e) a c v = absurd (true≢false (sym v.0))
