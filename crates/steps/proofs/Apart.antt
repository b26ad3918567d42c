-- Two different f32 numbers lie at least one part in 2 ^ 24 of the larger apart (`apart`), so that a number divided by a larger one rounds to at most 1 - 2 ^ -24 (`below_one`). Assumes nothing.
use mathlib.Core.Path.{◌≡◌, refl, sym, ap, ◌∙◌, subst}
use Prim.Native.Nat.{ℕ, ◌+◌, ◌-◌, ◌*◌, ◌^◌, ◌≤◌, ◌<◌}
use native.Mathlib.Nat.{mul_assoc, mul_comm, suc-mul, mul-le-mul_right, lt_of_mul-lt-mul_right, le_trans, le_of_eq}
use native.Mathlib.Decide.{dec_le}
use native.Mathlib.Omega.{arith}
use lib.Dec.{lit<}
use lib.Pow.{pow-add, pow_pos}
use lib.Ieee.{Float, binary32, size}
use lib.Ieee.Scale.{grid, overflow}
use Rattle.steps.specs.Steps.{magnitude, IsNumber}
use Rattle.steps.proofs.Own.{digits}
use Rattle.steps.proofs.Round.{grid_mono}

-- m * 2 ^ a as units of 2 ^ b, for a b that is no larger
pub in_units : (m a b : ℕ) → b ≤ a → m * 2 ^ a ≡ m * 2 ^ (a - b) * 2 ^ b
in_units m a b h =
    let e : a - b + b ≡ a = omega arith in
    ap (λ (z : ℕ). m * 2 ^ z) (sym e) ∙ ap (λ (z : ℕ). m * z) (pow-add 2 (a - b) b) ∙ sym (mul_assoc m (2 ^ (a - b)) (2 ^ b))

-- two whole numbers of units differ by a unit at least
pub one_more : (m n u : ℕ) → m * u < n * u → m * u + u ≤ n * u
one_more m n u h = le_trans (le_of_eq (sym (suc-mul m u))) (mul-le-mul_right u (lt_of_mul-lt-mul_right u h))

-- fewer than 2 ^ 24 units
pub few : (m u : ℕ) → m < 2 ^ 24 → m * u + u ≤ 2 ^ 24 * u
few m u h = le_trans (le_of_eq (sym (suc-mul m u))) (mul-le-mul_right u h)

by_digits : (m a n b : ℕ) → m < 2 ^ 24 → n < 2 ^ 24 → m * 2 ^ a < n * 2 ^ b → m * 2 ^ a * 2 ^ 24 ≤ n * 2 ^ b * 16777215
by_digits m a n b p q h = elim (dec_le b a) [
  | yes l ↦
      (let e = in_units m a b l in
      let o = one_more (m * 2 ^ (a - b)) n (2 ^ b) (subst (λ (z : ℕ). z < n * 2 ^ b) e h) in
      let f = few n (2 ^ b) q in
      omega arith)
  | no l ↦
      (let e = in_units n b a (omega arith) in
      let o = one_more m (n * 2 ^ (b - a)) (2 ^ a) (subst (λ (z : ℕ). m * 2 ^ a < z) e h) in
      let f = few m (2 ^ a) p in
      elim (dec_le (n * 2 ^ b) (2 ^ 24 * 2 ^ a)) [ yes g ↦ omega arith | no g ↦ omega arith ])
]

pub apart : (x y : Float) → IsNumber x → IsNumber y → magnitude x < magnitude y → magnitude x * 2 ^ 24 ≤ magnitude y * 16777215
apart x y p q h =
    let (m, a, small, is) = digits x p in
    let (n, b, small', is') = digits y q in
    rw (is, is') (by_digits m a n b small small' (rw (is, is') at h))

-- the f32 just below 1.0
top : grid binary32 16777215 (2 ^ 24) ≡ 16777215 * 2 ^ 125
unfolding size
top = refl

pub below_one : (x y : Float) → IsNumber x → IsNumber y → magnitude x < magnitude y → grid binary32 (magnitude x) (magnitude y) ≤ 16777215 * 2 ^ 125
below_one x y p q h =
    let under : grid binary32 16777215 (2 ^ 24) < overflow binary32 = subst (λ (z : ℕ). z < overflow binary32) (sym top) (lit< tt) in
    subst (λ (z : ℕ). grid binary32 (magnitude x) (magnitude y) ≤ z) top
    (grid_mono (magnitude x) (magnitude y) 16777215 (2 ^ 24) (above (magnitude x) (magnitude y) h) (pow_pos 24)
    (le_trans (apart x y p q h) (le_of_eq (mul_comm (magnitude y) 16777215))) under)
  where
    above : (m n : ℕ) → m < n → 0 < n
    above m n h = omega arith
