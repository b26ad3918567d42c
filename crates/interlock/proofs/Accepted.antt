-- What the ad5627's conversion answers to a number of volts, by its sign and its steps (`outcome`), to an infinity (`infinite`) and to a NaN (`not_a_number`). Assumes nothing.
use Rattle.std.specs.Prelude.{Option, Some, None}
use mathlib.Core.Path.{◌≡◌, refl, sym, ◌∙◌, subst}
use mathlib.Core.Logic.{◌⊎◌, inl, inr}
use Prim.Native.Nat.{ℕ, ◌*◌, ◌/◌, ◌^◌, ◌≤◌, ◌<◌, min, zero-le}
use native.Mathlib.Nat.{lt_of_le_of_lt, lt_of_not-le, mul-le-mul_right, le_trans, le_of_eq, div-lt_iff_lt-mul, le-div_iff_mul-le, le_of_mul-le-mul_right, eq-zero-or-pos, mul-one, one-mul, mul_comm, min-eq_left}
use native.Mathlib.Decide.{dec_le}
use native.Mathlib.Omega.{arith}
use mathlib.Core.Bool.{Bool, true, false}
use lib.Dec.{T, lit<}
use lib.Pow.{pow_pos}
use lib.Ieee.{Float, nan, inf, binary32, of_bits, le, size, fits}
use lib.Ieee.Bits.{is_true}
use lib.Ieee.Scale.{grid, overflow}
use borrow.Author.Tests.{le-leb, lt-leb}
use Rattle.steps.specs.Steps.{unit, magnitude, negative, IsNumber}
use Rattle.steps.proofs.Round.{grid_mono}
use Rattle.steps.proofs.Compare.{steps_of_le, le_of_steps, at_least_zero, minus_zero, negative_le}
use Rattle.conversions.specs.Constants.{zero, v2_5}
use Rattle.conversions.specs.Codes.{code_of, ad5627_code}
use Rattle.conversions.proofs.Cuts.{share, scale_2_5, code_at, code_below, zero_is}

-- half of the steps in one
abbrev pub half : ℕ
half = 2 ^ 148

-- 2.5 in steps
pub full : magnitude v2_5 ≡ 5 * half
unfolding of_bits magnitude
full = refl

zero_number : IsNumber zero
unfolding of_bits fits
zero_number = (tt, tt)

zero_sign : negative zero ≡ false
unfolding of_bits negative
zero_sign = refl

zero_steps : magnitude zero ≡ 0
unfolding of_bits magnitude
zero_steps = refl

pub data Outcome (v : Float) : Option ℕ → Type 0 where
  -- from 0 to 2.5: the whole part of 4096 shares
  sent : negative v ≡ false → magnitude v ≤ 5 * half → share v2_5 v ≤ unit → (c : ℕ) → c ≡ share v2_5 v * 2 ^ 12 / unit → Outcome v (Some c)
  -- -0.0
  nothing : negative v ≡ true → magnitude v ≡ 0 → Outcome v (Some 0)
  -- below zero
  below : negative v ≡ true → 0 < magnitude v → Outcome v None
  -- above 2.5
  above : negative v ≡ false → 5 * half < magnitude v → Outcome v None
  -- 2.5 itself, or what rounds there: the code would be 4096
  whole : negative v ≡ false → unit ≤ share v2_5 v → Outcome v None

-- ---- up to 2.5 the share is at most one

one : grid binary32 1 1 ≡ unit
unfolding size
one = refl

share_le : (v : Float) → magnitude v ≤ magnitude v2_5 → share v2_5 v ≤ unit
share_le v h =
    subst (λ (z : ℕ). share v2_5 v ≤ z) one
    (grid_mono (magnitude v) (magnitude v2_5) 1 1 scale_2_5.above_zero (lit< tt)
    (le_trans (le_of_eq (mul-one (magnitude v))) (le_trans h (le_of_eq (sym (one-mul (magnitude v2_5))))))
    (subst (λ (z : ℕ). z < overflow binary32) (sym one) (lit< tt)))

-- so that times 4096 does not overflow
no_overflow : (q : ℕ) → q ≤ unit → q * 2 ^ 12 < overflow binary32
no_overflow q h = lt_of_le_of_lt (mul-le-mul_right (2 ^ 12) h) (lit< tt)

-- and gives a code of at most 4096, which is not cut off
uncapped : (q : ℕ) → q ≤ unit → min (q * 2 ^ 12 / unit) 65535 ≡ q * 2 ^ 12 / unit
uncapped q h = min-eq_left (small (q * 2 ^ 12 / unit) ((div-lt_iff_lt-mul (pow_pos 149)).1 (lt_of_le_of_lt (mul-le-mul_right (2 ^ 12) h) (lit< tt))))
  where
    small : (x : ℕ) → x < 4097 → x ≤ 65535
    small x h = omega arith

-- ---- a number that is not negative

module _ (v : Float) (n : IsNumber v) (e : negative v ≡ false) where
  from_zero : le zero v ≡ true
  from_zero = is_true (le zero v) (le_of_steps zero v zero_number n zero_sign e (subst (λ (z : ℕ). z ≤ magnitude v) (sym zero_steps) zero-le))

  too_high : (magnitude v ≤ magnitude v2_5 → ⊥) → le v v2_5 ≡ false
  too_high f = go (le v v2_5) (λ t. f (steps_of_le v v2_5 n scale_2_5.number e scale_2_5.not_negative t))
    where
      go : (b : Bool) → (T b → ⊥) → b ≡ false
      go true f = absurd (f tt)
      go false f = refl

  up_to_full : magnitude v ≤ magnitude v2_5 → le v v2_5 ≡ true
  up_to_full h = is_true (le v v2_5) (le_of_steps v v2_5 n scale_2_5.number e scale_2_5.not_negative h)

  code_is : magnitude v ≤ magnitude v2_5 → code_of v2_5 v ≡ share v2_5 v * 2 ^ 12 / unit
  code_is h = code_at v2_5 v scale_2_5 n e (no_overflow (share v2_5 v) (share_le v h)) ∙ uncapped (share v2_5 v) (share_le v h)

  in_range : magnitude v ≤ magnitude v2_5 → Dec (share v2_5 v * 2 ^ 12 / unit ≤ 4095) → Outcome v (ad5627_code v)
  in_range h (yes l) =
      rw (from_zero, up_to_full h, code_is h, le-leb (share v2_5 v * 2 ^ 12 / unit) 4095 l)
      (sent e (le_trans h (le_of_eq full)) (share_le v h) (share v2_5 v * 2 ^ 12 / unit) refl)
  in_range h (no l) =
      rw (from_zero, up_to_full h, code_is h, lt-leb (share v2_5 v * 2 ^ 12 / unit) 4095 (lt_of_not-le l))
      (whole e (le_of_mul-le-mul_right (le_trans (le_of_eq (mul_comm unit (2 ^ 12))) ((le-div_iff_mul-le (pow_pos 149)).0 (lt_of_not-le l))) (pow_pos 12)))

  not_negative : Dec (magnitude v ≤ magnitude v2_5) → Outcome v (ad5627_code v)
  not_negative (yes h) = in_range h (dec_le (share v2_5 v * 2 ^ 12 / unit) 4095)
  not_negative (no h) = rw (from_zero, too_high h) (above e (subst (λ (z : ℕ). z < magnitude v) full (lt_of_not-le h)))

-- ---- a negative number

module _ (v : Float) (n : IsNumber v) (e : negative v ≡ true) where
  under_zero : 0 < magnitude v → le zero v ≡ false
  under_zero h = go (le zero v) (λ t. at_least_zero v n e (rw zero_is at t))
    where
      go : (b : Bool) → (T b → magnitude v ≡ 0) → b ≡ false
      go true f = absurd (let z = f tt in omega arith)
      go false f = refl

  zero_code : magnitude v ≡ 0 → code_of v2_5 v ≡ 0
  zero_code z = code_below v2_5 v scale_2_5 n e (no_overflow (share v2_5 v) (share_le v (subst (λ (m : ℕ). m ≤ magnitude v2_5) (sym z) zero-le)))

  negative_number : (magnitude v ≡ 0) ⊎ (0 < magnitude v) → Outcome v (ad5627_code v)
  negative_number (inl z) =
      rw (is_true (le zero v) (rw zero_is (minus_zero v n e z)), is_true (le v v2_5) (negative_le v v2_5 n scale_2_5.number e scale_2_5.not_negative scale_2_5.above_zero), zero_code z)
      (nothing e z)
  negative_number (inr h) = rw (under_zero h) (below e h)

-- ---- both

pub outcome : (v : Float) → IsNumber v → Outcome v (ad5627_code v)
outcome v n = go (negative v) refl
  where
    go : (s : Bool) → negative v ≡ s → Outcome v (ad5627_code v)
    go true e = negative_number v n e (eq-zero-or-pos (magnitude v))
    go false e = not_negative v n e (dec_le (magnitude v) (magnitude v2_5))

pub infinite : (s : Bool) → ad5627_code (inf s) ≡ None
unfolding le of_bits
infinite true = refl
infinite false = refl

pub not_a_number : ad5627_code nan ≡ None
unfolding le of_bits
not_a_number = refl
