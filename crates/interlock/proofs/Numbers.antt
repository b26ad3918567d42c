-- From a level to its code in whole numbers. w is the exact difference of threshold and offset in steps, d the rounded one, s the slope, v the volts, q their share of the full scale, u the steps in one, h half of them.
-- u stays a variable, of which only its size matters. Assumes nothing.
use mathlib.Core.Path.{◌≡◌, sym, ap, ◌∙◌, subst}
use mathlib.Core.Logic.{◌⊎◌, inl, inr}
use Prim.Native.Nat.{ℕ, suc, ◌+◌, ◌*◌, ◌^◌, ◌≤◌, ◌<◌}
use native.Mathlib.Nat.{mul_assoc, mul_comm, mul_right_comm, mul-pos, add-mul, suc-mul, zero-mul, one-mul, mul-le-mul_right, mul-lt-mul_of_pos_right, le_of_mul-le-mul_right, lt_of_mul-lt-mul_right, le_trans, le_of_eq, eq-zero-or-pos, le_of_lt}
use native.Mathlib.Omega.{arith}
use Rattle.steps.specs.Steps.{HalfStep, Relative}
use Rattle.interlock.proofs.Chain as C
use Rattle.interlock.proofs.Chain.{Chain, Rounding}

-- an inequality of the kind that a rounding has, times k
module _ (k x y z f : ℕ) where
  spread : (2 ^ 24 * y + z + 2 ^ 23 * f) * k ≡ 2 ^ 24 * (y * k) + z * k + 2 ^ 23 * (f * k)
  spread = add-mul (2 ^ 24 * y + z) (2 ^ 23 * f) k ∙ ap (λ (t : ℕ). t + 2 ^ 23 * f * k) (add-mul (2 ^ 24 * y) z k) ∙ rw (mul_assoc (2 ^ 24) y k, mul_assoc (2 ^ 23) f k)

  times : 2 ^ 24 * x ≤ 2 ^ 24 * y + z + 2 ^ 23 * f → 2 ^ 24 * (x * k) ≤ 2 ^ 24 * (y * k) + z * k + 2 ^ 23 * (f * k)
  times h = le_trans (le_of_eq (sym (mul_assoc (2 ^ 24) x k))) (le_trans (mul-le-mul_right k h) (le_of_eq spread))

  -- and a factor that all its parts share taken away
  shared : 0 < k → 2 ^ 24 * (x * k) ≤ 2 ^ 24 * (y * k) + z * k + 2 ^ 23 * (f * k) → 2 ^ 24 * x ≤ 2 ^ 24 * y + z + 2 ^ 23 * f
  shared K h = le_of_mul-le-mul_right (le_trans (le_of_eq (mul_assoc (2 ^ 24) x k)) (le_trans h (le_of_eq (sym spread)))) K

-- a common unit taken away
module _ (u : ℕ) (one : 0 < u) (a x b y e z : ℕ) where
  both : (b * y + e * z) * u ≡ b * (y * u) + e * (z * u)
  both = add-mul (b * y) (e * z) u ∙ rw (mul_assoc b y u, mul_assoc e z u)

  without_le : a * (x * u) ≤ b * (y * u) + e * (z * u) → a * x ≤ b * y + e * z
  without_le h = le_of_mul-le-mul_right (le_trans (le_of_eq (mul_assoc a x u)) (le_trans h (le_of_eq (sym both)))) one

  without_lt : a * (x * u) < b * (y * u) + e * (z * u) → a * x < b * y + e * z
  without_lt h = lt_of_mul-lt-mul_right u (subst (λ (t : ℕ). t < (b * y + e * z) * u) (sym (mul_assoc a x u)) (subst (λ (t : ℕ). a * (x * u) < t) (sym both) h))

-- ---- what is to be shown

-- c is the whole part of 4096 shares of q
pub record WholePart (u q c : ℕ) : Type 0 where
  pub low : c * u ≤ q * 4096
  pub high : q * 4096 < suc c * u

pub record Facts (w v q s u h : ℕ) : Type 0 where
  -- an accepted code, within the full scale
  pub code_at_most : (c : ℕ) → WholePart u q c → q ≤ u → 5120 * (c * s) ≤ 8388608 * w + 5 * s
  pub code_above : (c : ℕ) → WholePart u q c → q ≤ u → 8388608 * w < 5120 * (c * s) + 5125 * s
  -- a share of the full scale or more, and more than 2.5 volts
  pub share_out : u ≤ q → 20971515 * s < 8388608 * w
  pub volts_out : 5 * h < v → 20971515 * s < 8388608 * w
  -- below zero: volts that vanish come from a level within the allowance, and volts that do not, from no zero
  pub vanished : v ≡ 0 → 8388608 * w ≤ 5 * s
  pub some_level : 0 < v → 0 < w

module _ (w d v q s h u : ℕ) (two : u ≡ 2 * h) (some : 0 < h) (fine : 2 ^ 30 ≤ u) (first : Relative w d) (second : HalfStep (d * u) s v) (third : HalfStep (v * u) (5 * h) q) where
  -- v volts are 2 * v halves
  halves : v * u ≡ 2 * v * h
  halves = ap (λ (z : ℕ). v * z) two ∙ sym (mul_assoc v 2 h) ∙ ap (λ (z : ℕ). z * h) (mul_comm v 2)

  fifths : q * (5 * h) ≡ 5 * q * h
  fifths = sym (mul_assoc q 5 h) ∙ ap (λ (z : ℕ). z * h) (mul_comm q 5)

  share : Rounding 1 (2 * v) (5 * q)
  share = record {
    over = shared h (5 * q) (2 * v) (2 * v) (5 * 1) some (omega (arith, third.over, halves, fifths));
    under = shared h (2 * v) (5 * q) (2 * v) (5 * 1) some (omega (arith, third.under, halves, fifths));
  }

  chain : Chain s (u * s) (2 * (w * u)) (2 * (d * u)) (2 * (v * s)) (5 * (q * s))
  chain =
      let a = times u d w w 0 (omega (arith, first.over)) in
      let b = times u w d w 0 (omega (arith, first.under)) in
      let e = times s (5 * q) (2 * v) (2 * v) (5 * 1) share.over in
      let f = times s (2 * v) (5 * q) (2 * v) (5 * 1) share.under in
      let m = mul_assoc 2 v s in
      let n = mul_assoc 5 q s in
      let l = mul-le-mul_right s fine in
      record {
        difference = record { over = omega arith; under = omega arith };
        quotient = record { over = omega (arith, second.over); under = omega (arith, second.under) };
        share = record { over = omega arith; under = omega arith };
        fine = l;
      }

  one : 0 < u
  one = omega arith

  module _ (above : 0 < s) where
    -- ---- a code: the whole part of 4096 shares

    module _ (c : ℕ) (part : WholePart u q c) (within : q ≤ u) where
      -- the same, times the slope
      low_s : c * s * u ≤ 4096 * (q * s)
      low_s =
          let m = mul-le-mul_right s part.low in
          let x = mul_right_comm c s u in
          let y : q * 4096 * s ≡ 4096 * (q * s) = ap (λ (z : ℕ). z * s) (mul_comm q 4096) ∙ mul_assoc 4096 q s in
          omega arith

      high_s : 4096 * (q * s) < c * s * u + u * s
      high_s =
          let m = mul-lt-mul_of_pos_right part.high above in
          let x : suc c * u * s ≡ c * s * u + u * s = ap (λ (z : ℕ). z * s) (suc-mul c u) ∙ add-mul (c * u) u s ∙ ap (λ (z : ℕ). z + u * s) (mul_right_comm c u s) in
          let y : q * 4096 * s ≡ 4096 * (q * s) = ap (λ (z : ℕ). z * s) (mul_comm q 4096) ∙ mul_assoc 4096 q s in
          omega arith

      within_s : 5 * (q * s) ≤ 5 * (u * s)
      within_s = let m = mul-le-mul_right s within in omega arith

      code_at_most : 5120 * (c * s) ≤ 8388608 * w + 5 * s
      code_at_most =
          let m = C.at_most s (u * s) (2 * (w * u)) (2 * (d * u)) (2 * (v * s)) (5 * (q * s)) chain within_s in
          let x = mul_comm u s in
          let y = low_s in
          without_le u one 5120 (c * s) 8388608 w 5 s (omega arith)

      code_above : 8388608 * w < 5120 * (c * s) + 5125 * s
      code_above =
          let m = C.at_least s (u * s) (2 * (w * u)) (2 * (d * u)) (2 * (v * s)) (5 * (q * s)) chain within_s in
          let x = mul_comm u s in
          let y = high_s in
          without_lt u one 8388608 w 5120 (c * s) 5125 s (omega arith)

    -- ---- a refusal

    out : 20971515 * (u * s) < 4194304 * (2 * (w * u)) → 20971515 * s < 8388608 * w
    out h =
        let x = mul_comm u s in
        let m = without_lt u one 20971515 s 8388608 w 0 0 (omega arith) in
        omega arith

    share_out : u ≤ q → 20971515 * s < 8388608 * w
    share_out g =
        let m = mul-le-mul_right s g in
        out (C.too_large_lem s (u * s) (2 * (w * u)) (2 * (d * u)) (2 * (v * s)) (5 * (q * s)) chain (mul-pos one above) (omega arith))

    volts_out : 5 * h < v → 20971515 * s < 8388608 * w
    volts_out g =
        let m = mul-le-mul_right s (le_of_lt g) in
        let x : 5 * h * s ≡ 5 * (h * s) = mul_assoc 5 h s in
        let y : u * s ≡ 2 * (h * s) = ap (λ (z : ℕ). z * s) two ∙ mul_assoc 2 h s in
        out (C.too_many_volts s (u * s) (2 * (w * u)) (2 * (d * u)) (2 * (v * s)) (5 * (q * s)) chain (mul-pos one above) (omega arith))

    -- ---- below zero

    vanished : v ≡ 0 → 8388608 * w ≤ 5 * s
    vanished z =
        let e : v * s ≡ 0 = ap (λ (t : ℕ). t * s) z ∙ zero-mul s in
        let x = mul_comm u s in
        let m = C.nothing_left s (u * s) (2 * (w * u)) (2 * (d * u)) (2 * (v * s)) (5 * (q * s)) chain (omega arith) in
        let n = without_le u one 8388608 w 5 s 0 0 (omega arith) in
        omega arith

    some_level : 0 < v → 0 < w
    some_level g = go (eq-zero-or-pos w)
      where
        go : (w ≡ 0) ⊎ (0 < w) → 0 < w
        go (inr p) = p
        go (inl z) =
            let e : d ≡ 0 = omega (arith, first.over) in
            let f : d * u ≡ 0 = ap (λ (t : ℕ). t * u) e ∙ zero-mul u in
            let m : 1 * s ≤ v * s = mul-le-mul_right s g in
            absurd (let n : s ≤ v * s = le_trans (le_of_eq (sym (one-mul s))) m in omega (arith, second.over))

    pub facts : Facts w v q s u h
    facts = record { code_at_most = code_at_most; code_above = code_above; share_out = share_out; volts_out = volts_out; vanished = vanished; some_level = some_level }
