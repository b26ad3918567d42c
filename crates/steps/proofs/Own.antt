-- A finite f32 is its whole number of steps: nothing is left over (`own`). It has at most 24 binary digits (`digits`). And what is a / unit in size has a steps (`steps_of`).
-- Assumes nothing.
use mathlib.Core.Path.{◌≡◌, refl, sym, ap, ◌∙◌}
use Prim.Native.Nat.{ℕ, zero, suc, ◌+◌, ◌-◌, ◌*◌, ◌/◌, ◌^◌, ◌≤◌, ◌<◌}
use native.Mathlib.Nat.{mul_assoc, mul_right_comm, mul-div_cancel, zero-mul, mul-one, one-mul, not-le_of_lt, lt_of_not-le, le_of_suc-le-suc, eq_of_mul-eq-mul_right}
use native.Mathlib.Omega.{arith}
use mathlib.Core.Bool.{Bool}
use lib.IntN.{ℤ, pos, negsuc}
use lib.Dec.{T, ltb, leb, ltb→lt, leb→le, lit<}
use lib.Pow.{pow-add, pow-lt}
use lib.Ieee.{Float, nan, inf, fin, binary32, up, down, fits}
use lib.Ieee.Fits.{and_l, and_r, down_pos}
use lib.Ieee.Scale.{finite}
use lib.Ieee.Exact.{HasValue}
use Rattle.steps.specs.Steps.{unit, magnitude, negative, IsNumber}

-- ---- 2 ^ e is a whole number of steps

exponent_le : (i j : ℕ) → 2 ^ i ≤ 2 ^ j → i ≤ j
exponent_le i j h = le_of_suc-le-suc (lt_of_not-le (λ (g : suc j ≤ i). not-le_of_lt (pow-lt g) h))

lift : (e : ℤ) → down e ≤ unit → (b : ℕ) × (up e * unit ≡ 2 ^ b * down e)
lift (pos k) h = (k + 149, sym (pow-add 2 k 149) ∙ sym (mul-one (2 ^ (k + 149))))
lift (negsuc k) h =
    let fit : suc k ≤ 149 = exponent_le (suc k) 149 h in
    let whole : 149 - suc k + suc k ≡ 149 = omega arith in
    (149 - suc k, one-mul unit ∙ sym (ap (λ (z : ℕ). 2 ^ z) whole) ∙ pow-add 2 (149 - suc k) (suc k))

times : (m : ℕ) (e : ℤ) (b : ℕ) → up e * unit ≡ 2 ^ b * down e → m * up e * unit ≡ m * 2 ^ b * down e
times m e b h = mul_assoc m (up e) unit ∙ ap (λ (z : ℕ). m * z) h ∙ sym (mul_assoc m (2 ^ b) (down e))

-- ---- the digits of a number's steps

-- m digits, of which there are fewer than 2 ^ 24, at the place b; a / c is the number
pub record Digits (a c n : ℕ) : Type 0 where
  pub m : ℕ
  pub b : ℕ
  pub small : m < 2 ^ 24
  pub is : n ≡ m * 2 ^ b
  pub whole : a * unit ≡ n * c

made : (m : ℕ) (e : ℤ) (b : ℕ) → m < 2 ^ 24 → m * up e * unit ≡ m * 2 ^ b * down e → Digits (m * up e) (down e) (m * up e * unit / down e)
made m e b h w =
    let q : m * up e * unit / down e ≡ m * 2 ^ b = ap (λ (z : ℕ). z / down e) w ∙ mul-div_cancel (m * 2 ^ b) (down_pos e) in
    record { m = m; b = b; small = h; is = q; whole = w ∙ ap (λ (z : ℕ). z * down e) (sym q) }

fin_digits : (s : Bool) (m : ℕ) (e : ℤ) → T (fits binary32 (fin s m e)) → Digits (m * up e) (down e) (m * up e * unit / down e)
unfolding fits
fin_digits s zero e t = made zero e 0 (lit< tt) (ap (λ (z : ℕ). z * unit) (zero-mul (up e)) ∙ sym (zero-mul (down e)))
fin_digits s (suc m) e t =
    let h : T (ltb (suc m) (2 ^ 24)) = search (and_l, and_r) in
    let g : T (leb (down e) unit) = search (and_l, and_r) in
    let l = lift e (leb→le (down e) unit g) in
    made (suc m) e l.0 (ltb→lt (suc m) (2 ^ 24) h) (times (suc m) e l.0 l.1)

-- ---- the laws

-- the digits of a finite f32
pub digits : (x : Float) → IsNumber x → (m b : ℕ) × (m < 2 ^ 24) × (magnitude x ≡ m * 2 ^ b)
unfolding magnitude
digits nan n = absurd n.1
digits (inf s) n = absurd n.1
digits (fin s m e) n = let d = fin_digits s m e n.0 in (d.m, d.b, d.small, d.is)

-- a finite f32 is its steps
pub own : (x : Float) → IsNumber x → HasValue x (negative x) (magnitude x) unit
unfolding magnitude negative
own nan n = absurd n.1
own (inf s) n = absurd n.1
own (fin s m e) n = (refl, (fin_digits s m e n.0).whole)

-- and a value of a / unit has a steps, its sign, and is a number
pub magnitude_of : (x : Float) (s : Bool) (a : ℕ) → HasValue x s a unit → magnitude x ≡ a
unfolding magnitude
magnitude_of nan s a v = absurd v
magnitude_of (inf t) s a v = absurd v
magnitude_of (fin t m e) s a v = ap (λ (z : ℕ). z / down e) v.1 ∙ mul-div_cancel a (down_pos e)

pub negative_of : (x : Float) (s : Bool) (a c : ℕ) → HasValue x s a c → negative x ≡ s
unfolding negative
negative_of nan s a c v = absurd v
negative_of (inf t) s a c v = absurd v
negative_of (fin t m e) s a c v = v.0

pub finite_of : (x : Float) (s : Bool) (a c : ℕ) → HasValue x s a c → T (finite x)
finite_of nan s a c v = v
finite_of (inf t) s a c v = v
finite_of (fin t m e) s a c v = tt

-- one value as two fractions
pub rescaled : (x : Float) (s : Bool) (a c b d : ℕ) → 0 < c → a * d ≡ b * c → HasValue x s a c → HasValue x s b d
rescaled nan s a c b d C h v = v
rescaled (inf t) s a c b d C h v = v
rescaled (fin t m e) s a c b d C h v = (
  v.0,
  eq_of_mul-eq-mul_right c C (m * up e * d) (b * down e)
      (mul_right_comm (m * up e) d c
      ∙ ap (λ (z : ℕ). z * d) v.1
      ∙ mul_right_comm a (down e) d
      ∙ ap (λ (z : ℕ). z * down e) h
      ∙ mul_right_comm b c (down e)),
)
