-- The sizes of `Size` are those of the f32 numbers (`sizes`). Any number of at most 24 digits that is not too large has its digits in the one way (`settle`). Assumes nothing.
use mathlib.Core.Path.{◌≡◌, refl, sym, ap, ◌∙◌, subst}
use mathlib.Core.Logic.{inl, inr}
use Prim.Native.Nat.{ℕ, zero, suc, ◌+◌, ◌*◌, ◌^◌, ◌≤◌, ◌<◌}
use native.Mathlib.Nat.{mul_assoc, mul_right_comm, mul-le-mul_left, mul-le-mul_right, mul-lt-mul_of_pos_right, lt_of_mul-lt-mul_right, zero-mul, mul-pos, pow-succ', le_trans, le_of_eq, lt_of_lt_of_le, lt_of_le_of_lt, lt_of_not-le, not-le_of_lt}
use native.Mathlib.Decide.{dec_le}
use native.Mathlib.Omega.{arith}
use mathlib.Core.Bool.{Bool}
use lib.Dec.{T, ltb, ltb→lt}
use lib.Pow.{pow-add, pow_pos, pow_mono}
use lib.Ieee.{Float, nan, inf, fin, binary32, up, down, fits, round}
use lib.Ieee.Fits.{and_l, and_r, down_pos, round-fits}
use lib.Ieee.Exact.{round_exact}
use lib.Ieee.Scale.{overflow}
use Rattle.steps.specs.Steps.{unit, magnitude, negative, IsNumber}
use Rattle.steps.specs.Rounding.{Size, Sizes}
use Rattle.steps.proofs.Own.{own, digits, magnitude_of, negative_of, finite_of}

-- ---- how large a unit can be

-- below 2 ^ 277 steps the unit of 24 digits is at most 2 ^ 253
pub reach_of : (m b : ℕ) → 2 ^ 23 ≤ m → m * 2 ^ b < overflow binary32 → b ≤ 253
reach_of m b h u =
    let l : 2 ^ (23 + b) < 2 ^ 277 = lt_of_le_of_lt (le_trans (le_of_eq (pow-add 2 23 b)) (mul-le-mul_right (2 ^ b) h)) u in
    let e : 23 + b < 277 = lt_of_not-le (λ (g : 277 ≤ 23 + b). not-le_of_lt l (pow_mono g)) in
    omega arith

-- and with such a unit it is below that
pub size_under : (r : ℕ) → Size r → r < overflow binary32
size_under r z =
    let a : z.m * 2 ^ z.b < 2 ^ 24 * 2 ^ z.b = mul-lt-mul_of_pos_right z.few (pow_pos z.b) in
    subst (λ (x : ℕ). x < overflow binary32) (sym z.is) (lt_of_lt_of_le a (mul-le-mul_left (2 ^ 24) (pow_mono z.reach)))

-- ---- the digits in the one way: while there are fewer than 24 and the unit is no single step, the unit is halved

halved : (m b : ℕ) → m * 2 ^ suc b ≡ m * 2 * 2 ^ b
halved m b = ap (λ (x : ℕ). m * x) (pow-succ' 2 b) ∙ sym (mul_assoc m 2 (2 ^ b))

pub settle : (b m : ℕ) → m < 2 ^ 24 → m * 2 ^ b < overflow binary32 → Size (m * 2 ^ b)
settle zero m h u = record { m = m; b = 0; is = refl; few = h; full = inl refl; reach = omega arith }
settle (suc b) m h u = elim (dec_le (2 ^ 23) m) [
  | yes l ↦ record { m = m; b = suc b; is = refl; few = h; full = inr l; reach = reach_of m (suc b) l u }
  | no l ↦ rw (halved m b) (settle b (m * 2) (omega arith) (rw (halved m b) at u))
]

-- ---- a finite f32 is below 2 ^ 128

small : (a c n : ℕ) → 0 < c → a * unit ≡ n * c → a < 2 ^ 128 * c → n < overflow binary32
small a c n C e h =
    lt_of_mul-lt-mul_right c
    (subst (λ (x : ℕ). x < overflow binary32 * c) e
    (lt_of_lt_of_le (mul-lt-mul_of_pos_right h (pow_pos 149)) (le_of_eq (mul_right_comm (2 ^ 128) c unit))))

pub within : (x : Float) → IsNumber x → magnitude x < overflow binary32
unfolding fits
within nan n = absurd n.1
within (inf s) n = absurd n.1
within (fin s zero e) n =
    small (0 * up e) (down e) (magnitude (fin s 0 e)) (down_pos e) (own (fin s 0 e) n).1
    (subst (λ (x : ℕ). x < 2 ^ 128 * down e) (sym (zero-mul (up e))) (mul-pos (pow_pos 128) (down_pos e)))
within (fin s (suc m) e) n =
    let t : T (fits binary32 (fin s (suc m) e)) = n.0 in
    let h : T (ltb (suc m * up e) (2 ^ 128 * down e)) = search (and_l, and_r) in
    small (suc m * up e) (down e) (magnitude (fin s (suc m) e)) (down_pos e) (own (fin s (suc m) e) n).1 (ltb→lt (suc m * up e) (2 ^ 128 * down e) h)

-- ---- the law

pub sizes : Sizes
sizes = record { has = has; had = had }
  where
    has : (x : Float) → IsNumber x → Size (magnitude x)
    has x n =
        let (m, b, few, is) = digits x n in
        rw is (settle b m few (rw is at (within x n)))

    had : (r : ℕ) → Size r → (s : Bool) → (x : Float) × IsNumber x × (negative x ≡ s) × (magnitude x ≡ r)
    had r z s =
        let x = round binary32 s r unit in
        let v = round_exact binary32 s r unit z.m z.b (pow_pos 149) z.few (rw z.is at (size_under r z)) (ap (λ (w : ℕ). w * unit) z.is) in
        (x, (round-fits binary32 s r unit, finite_of x s r unit v), negative_of x s r unit v, magnitude_of x s r v)
