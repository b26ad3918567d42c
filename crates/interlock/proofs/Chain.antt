-- The three roundings between a level and its code, as inequalities between whole numbers, and what they add up to. All is multiplied out, so that only sums are left; nothing here is about floats.
-- In twice the volts, p₀ is the exact level, p₁, p₂ and p₃ are what the rounded difference, the rounded quotient and the rounded share of the full scale stand for. 5 * l is the full scale, and s is one step. Assumes nothing.
use Prim.Native.Nat.{ℕ, ◌+◌, ◌*◌, ◌^◌, ◌≤◌, ◌<◌}
use native.Mathlib.Omega.{arith}

-- one rounding, of q to p: at most half a step, of which a generous 5 are allowed for, and one part in 2 ^ 24
pub record Rounding (s q p : ℕ) : Type 0 where
  pub over : 2 ^ 24 * p ≤ 2 ^ 24 * q + q + 2 ^ 23 * (5 * s)
  pub under : 2 ^ 24 * q ≤ 2 ^ 24 * p + q + 2 ^ 23 * (5 * s)

-- near the full scale or below it a rounding moves by less than 81 parts in 2 ^ 28 of l
record Near (l q p : ℕ) : Type 0 where
  over : 2 ^ 28 * p ≤ 2 ^ 28 * q + 81 * l
  under : 2 ^ 28 * q ≤ 2 ^ 28 * p + 81 * l

near : (s l q p : ℕ) → 2 ^ 30 * s ≤ l → Rounding s q p → 1048576 * p ≤ 5242881 * l → Near l q p
near s l q p f r h = record { over = omega arith; under = omega arith }

-- above what is given it can lose as much, and no more
down : (s l q p m : ℕ) → 2 ^ 30 * s ≤ l → Rounding s q p → 5 * (2 ^ 28 * l) ≤ 2 ^ 28 * p + m → 5 * (2 ^ 28 * l) ≤ 2 ^ 28 * q + (m + 81 * l)
down s l q p m f r h = omega arith

-- ---- all three

pub record Chain (s l p₀ p₁ p₂ p₃ : ℕ) : Type 0 where
  pub difference : Rounding s p₀ p₁
  pub quotient : Rounding s p₁ p₂
  pub share : Rounding s p₂ p₃
  pub fine : 2 ^ 30 * s ≤ l

module _ (s l p₀ p₁ p₂ p₃ : ℕ) (c : Chain s l p₀ p₁ p₂ p₃) where
  -- the level and what its share of the full scale stands for
  close : p₃ ≤ 5 * l → (2 ^ 28 * p₃ ≤ 2 ^ 28 * p₀ + 243 * l) × (2 ^ 28 * p₀ ≤ 2 ^ 28 * p₃ + 243 * l)
  close h =
      let n₃ = near s l p₂ p₃ c.fine c.share (omega arith) in
      let n₂ = near s l p₁ p₂ c.fine c.quotient (sum₂ n₃) in
      let n₁ = near s l p₀ p₁ c.fine c.difference (sum₁ n₃ n₂) in
      (omega (arith, n₃.over, n₂.over, n₁.over), omega (arith, n₃.under, n₂.under, n₁.under))
    where
      sum₂ : Near l p₂ p₃ → 1048576 * p₂ ≤ 5242881 * l
      sum₂ n = omega (arith, n.under)

      sum₁ : Near l p₂ p₃ → Near l p₁ p₂ → 1048576 * p₁ ≤ 5242881 * l
      sum₁ n m = omega (arith, n.under, m.under)

  pub at_most : p₃ ≤ 5 * l → 4194304 * p₃ ≤ 4194304 * p₀ + 5 * l
  at_most h = let d = (close h).0 in omega arith

  pub at_least : p₃ ≤ 5 * l → 4194304 * p₀ ≤ 4194304 * p₃ + 5 * l
  at_least h = let d = (close h).1 in omega arith

  pub too_large_lem : 0 < l → 5 * l ≤ p₃ → 20971515 * l < 4194304 * p₀
  too_large_lem L h =
      let d₂ = down s l p₂ p₃ 0 c.fine c.share (omega arith) in
      let d₁ = down s l p₁ p₂ (0 + 81 * l) c.fine c.quotient d₂ in
      let d₀ = down s l p₀ p₁ (0 + 81 * l + 81 * l) c.fine c.difference d₁ in
      omega arith

  pub too_many_volts : 0 < l → 5 * l ≤ p₂ → 20971515 * l < 4194304 * p₀
  too_many_volts L h =
      let d₁ = down s l p₁ p₂ 0 c.fine c.quotient (omega arith) in
      let d₀ = down s l p₀ p₁ (0 + 81 * l) c.fine c.difference d₁ in
      omega arith

  pub nothing_left : p₂ ≤ 0 → 4194304 * p₀ ≤ 5 * l
  nothing_left h =
      let n₂ = near s l p₁ p₂ c.fine c.quotient (omega arith) in
      let n₁ = near s l p₀ p₁ c.fine c.difference (omega (arith, n₂.under)) in
      omega (arith, n₂.under, n₁.under)
