-- What Rust's `as u16` makes of the f32 whose pattern is b, by the fields of b: the sign, the exponent's field e and the digits' field t.
-- Assumes nothing.
use mathlib.Core.Path.{◌≡◌, refl, sym, ap, ◌∙◌}
use mathlib.Core.Bool.{Bool, true, false, not, cond}
use Prim.Native.Nat.{ℕ, zero, suc, ◌+◌, ◌-◌, ◌*◌, ◌/◌, ◌%◌, ◌^◌, ◌≤◌, ◌<◌, min}
use native.Mathlib.Nat.{mul-le-mul, lt_of_lt_of_le, mod-eq_of_lt, div-eq_of_lt, le-div_iff_mul-le, le_of_lt, min-eq_left, min-eq_right}
use native.Mathlib.Omega.{arith}
use lib.Dec.{T, eqb, eqb→eq}
use lib.Pow.{pow_pos, pow_mono, shl_lt, shl-shr, shr_lt, shr-shr, le_ones}
use lib.Ieee.{Float, binary32, odd, of_fields, of_bits, to_unsigned}
use lib.Ieee.Exact.{odd_sign}
use borrow.Author.Tests.{le-leb, lt-leb, eq-eqb, ne_eqb}
use Rattle.steps.proofs.Truncation.{truncates, truncates_below}

-- ---- of the number q * 2 ^ k / 2 ^ 149

abbrev number : Bool → ℕ → ℕ → Float
number s q k = odd 24 s q k 149

module _ (q k : ℕ) where
  negative : to_unsigned 16 (number true q k) ≡ 0
  negative = truncates_below 16 (number true q k) (q * 2 ^ k) (2 ^ 149) (odd_sign 24 true q k 149)

  whole : to_unsigned 16 (number false q k) ≡ min (q * 2 ^ k / 2 ^ 149) 65535
  whole = truncates 16 (number false q k) (q * 2 ^ k) (2 ^ 149) (pow_pos 149) (odd_sign 24 false q k 149)

  nothing : q < 2 ^ 24 → k ≤ 125 → to_unsigned 16 (number false q k) ≡ 0
  nothing h l =
      let under : 24 + k ≤ 149 = omega arith in
      rw (whole, div-eq_of_lt (lt_of_lt_of_le (shl_lt 24 k h) (pow_mono under)))

  most : 2 ^ 23 ≤ q → 142 ≤ k → to_unsigned 16 (number false q k) ≡ 65535
  most h l =
      let much : 2 ^ 16 ≤ q * 2 ^ k / 2 ^ 149 = (le-div_iff_mul-le (pow_pos 149)).1 (mul-le-mul h (pow_mono l)) in
      whole ∙ min-eq_right (le_of_lt much)

  dropped : (j : ℕ) → q < 2 ^ 24 → 8 ≤ j → k + j ≡ 149 → to_unsigned 16 (number false q k) ≡ q / 2 ^ j
  dropped j h l all =
      let room : 24 ≤ 16 + j = omega arith in
      let moved : q * 2 ^ k / 2 ^ 149 ≡ q / 2 ^ j = ap (λ (z : ℕ). q * 2 ^ k / 2 ^ z) (sym all) ∙ rw (← shr-shr, shl-shr) in
      rw (whole, moved, min-eq_left (le_ones 16 (shr_lt 16 j (lt_of_lt_of_le h (pow_mono room)))))

-- ---- of a sign, an exponent's field and the digits' field

-- a test that `of_fields` makes, by either answer
either : (P : Float → Type 0) (a : Bool) {u v : Float} → (T a → P u) → (T (not a) → P v) → P (cond a u v)
either P true f g = f tt
either P false f g = g tt

abbrev Cut : ℕ → Float → Type 0
Cut r x = to_unsigned 16 x ≡ r

below_zero : (e t : ℕ) → to_unsigned 16 (of_fields binary32 true e t) ≡ 0
unfolding of_fields to_unsigned
below_zero zero t = negative t 0
below_zero (suc k) t = either (Cut 0) (eqb (suc k) 255) (λ _. either (Cut 0) (eqb t 0) (λ _. refl) (λ _. refl)) (λ _. negative (2 ^ 23 + t) k)

module _ (t : ℕ) (h : t < 2 ^ 23) where
  below_one : (e : ℕ) → e < 127 → to_unsigned 16 (of_fields binary32 false e t) ≡ 0
  unfolding of_fields
  below_one zero l = nothing t 0 (omega arith) (omega arith)
  below_one (suc k) l = rw (ne_eqb (suc k) 255 (omega arith)) (nothing (2 ^ 23 + t) k (omega arith) (omega arith))

  above_most : (e : ℕ) → 143 ≤ e → (e ≡ 255 → t ≡ 0) → to_unsigned 16 (of_fields binary32 false e t) ≡ 65535
  unfolding of_fields to_unsigned
  above_most zero l n = absurd (omega arith)
  above_most (suc k) l n =
      either (Cut 65535) (eqb (suc k) 255)
      (λ a. rw (eq-eqb t 0 (n (eqb→eq (suc k) 255 a))))
      (λ _. most (2 ^ 23 + t) k (omega arith) (omega arith))

  between : (e : ℕ) → 0 < e → e < 143 → to_unsigned 16 (of_fields binary32 false e t) ≡ (2 ^ 23 + t) / 2 ^ (150 - e)
  unfolding of_fields
  between zero z l = absurd (omega arith)
  between (suc k) z l = rw (ne_eqb (suc k) 255 (omega arith)) (dropped (2 ^ 23 + t) k (150 - suc k) (omega arith) (omega arith) (omega arith))

-- ---- of a pattern

pub sign_set : (b : ℕ) → 2 ^ 31 ≤ b → to_unsigned 16 (of_bits binary32 b) ≡ 0
unfolding of_bits
sign_set b h = rw (le-leb (2 ^ 31) b) (below_zero (b % 2 ^ 31 / 2 ^ 23) (b % 2 ^ 23))

module _ (b : ℕ) (h : b ≤ 0x7f80_0000) where
  abbrev e : ℕ
  e = b / 2 ^ 23

  abbrev t : ℕ
  t = b % 2 ^ 23

  sign_clear : of_bits binary32 b ≡ of_fields binary32 false e t
  unfolding of_bits
  sign_clear =
      let small : b < 2 ^ 31 = omega arith in
      rw (lt-leb (2 ^ 31) b, mod-eq_of_lt small)

  pub is_nothing : e < 127 → to_unsigned 16 (of_bits binary32 b) ≡ 0
  is_nothing l = rw sign_clear (below_one t (omega arith) e l)

  pub is_most : 143 ≤ e → to_unsigned 16 (of_bits binary32 b) ≡ 65535
  is_most l = rw sign_clear (above_most t (omega arith) e l (λ n. omega arith))

  pub is_dropped : 0 < e → e < 143 → to_unsigned 16 (of_bits binary32 b) ≡ (2 ^ 23 + t) / 2 ^ (150 - e)
  is_dropped g l = rw sign_clear (between t (omega arith) e g l)
