-- What rounding does to a fraction a / c, in whole numbers. With n = a * unit, the fraction is n / c steps, and it becomes `grid binary32 a c` steps (`round_at`), unless that is too large for an f32 (`round_over`).
-- The half_step law (`half_step`) bounds the change, whether or not the result is subnormal. Where the fraction is a whole number of steps only the relative part is left (`whole_step`).
-- And a larger fraction never gets fewer steps (`grid_mono`). Assumes nothing.
use mathlib.Core.Path.{◌≡◌, refl, sym, ap, ◌∙◌, subst}
use mathlib.Core.Logic.{◌⊎◌, inl, inr}
use Prim.Native.Nat.{ℕ, suc, ◌+◌, ◌*◌, ◌/◌, ◌^◌, ◌≤◌, ◌<◌}
use native.Mathlib.Nat.{mul_assoc, mul_comm, mul-one, mul-pos, le_trans, le_of_eq, le_of_lt, le_of_suc-le-suc, lt_of_not-le, le-div_iff_mul-le, le_of_mul-le-mul_right, eq_of_mul-eq-mul_right, add-mul, eq-zero-or-pos, not-le_of_lt}
use native.Mathlib.Decide.{dec_lt}
use native.Mathlib.Omega.{arith}
use mathlib.Core.Bool.{Bool, true, false, true≢false, cond, ◌&&◌, ◌||◌}
use lib.Dec.{T, ltb, eqb, ltb→lt, eqb→eq}
use lib.Pow.{pow-add, pow_pos}
use lib.Ieee.{Float, nan, inf, fin, binary32, prec, low, up, down, size, units, odd, round, le}
use lib.Ieee.Digits.{size_reaches}
use lib.Ieee.Fits.{round_is, down_pos}
use lib.Ieee.Exact.{HasValue, units_val}
use lib.Ieee.Order.{drop, kept, round_mono, transfer}
use lib.Ieee.Scale.{grid, overflow}
use Rattle.steps.specs.Steps.{unit, gap, HalfStep, Relative}
use Rattle.steps.proofs.Closest.{Half, closest_half, closest_least}

-- ---- the value

pub round_at : (s : Bool) (a c : ℕ) → grid binary32 a c < overflow binary32 → HasValue (round binary32 s a c) s (grid binary32 a c) unit
round_at s a c h =
    subst (λ (z : Float). HasValue z s (grid binary32 a c) unit) (sym (round_is binary32 s a c))
    (units_val binary32 s (kept 24 (a * unit) c) (drop 24 (a * unit) c) h)

units_over : (s : Bool) (q k : ℕ) → overflow binary32 ≤ q * 2 ^ k → units binary32 s q k ≡ inf s
unfolding units
units_over s q k h = go (ltb (q * 2 ^ k) (overflow binary32)) (ltb→lt (q * 2 ^ k) (overflow binary32))
  where
    go : (b : Bool) → (T b → q * 2 ^ k < overflow binary32) → cond b (odd (suc (prec binary32)) s q k (low binary32)) (inf s) ≡ inf s
    go true f = absurd (not-le_of_lt (f tt) h)
    go false f = refl

pub round_over : (s : Bool) (a c : ℕ) → overflow binary32 ≤ grid binary32 a c → round binary32 s a c ≡ inf s
round_over s a c h = round_is binary32 s a c ∙ units_over s (kept 24 (a * unit) c) (drop 24 (a * unit) c) h

-- ---- how coarse the rounding is: by single steps, or by 2 ^ k of them where the fraction is 2 ^ (23 + k) steps or more

pub coarse : (n d k : ℕ) → 0 < d → k ≡ drop 24 n d → (k ≡ 0) ⊎ (2 ^ 23 * (d * 2 ^ k) ≤ n)
coarse n d k D e = elim (eq-zero-or-pos k) [
  | inl z ↦ inl z
  | inr p ↦
      (let reach : 23 + k < size (n / d) = omega arith in
      let w : 2 ^ 23 * 2 ^ k ≤ n / d = le_trans (le_of_eq (sym (pow-add 2 23 k))) (size_reaches (n / d) (23 + k) reach) in
      inr (le_trans (le_of_eq (ap (λ (z : ℕ). 2 ^ 23 * z) (mul_comm d (2 ^ k)) ∙ sym (mul_assoc (2 ^ 23) (2 ^ k) d))) ((le-div_iff_mul-le D).0 w)))
]

-- q units of 2 ^ k steps, over d, are q units of d * 2 ^ k
pub regroup : (q k d : ℕ) → q * 2 ^ k * d ≡ q * (d * 2 ^ k)
regroup q k d = simp (mul_assoc, mul_comm)

-- ---- the half_step law

half : (n d q k : ℕ) → (k ≡ 0) ⊎ (2 ^ 23 * (d * 2 ^ k) ≤ n) → Half n (d * 2 ^ k) q → HalfStep n d (q * 2 ^ k)
half n d q k (inl z) h =
    let u : d * 2 ^ k ≡ d = ap (λ (x : ℕ). d * 2 ^ x) z ∙ mul-one d in
    let e = regroup q k d in
    record { over = omega (arith, h.over, h.under); under = omega (arith, h.over, h.under) }
half n d q k (inr c) h =
    let e = regroup q k d in
    record { over = omega (arith, h.over, h.under); under = omega (arith, h.over, h.under) }

pub half_step : (a c : ℕ) → 0 < c → HalfStep (a * unit) c (grid binary32 a c)
half_step a c C =
    let n = a * unit in
    let k = drop 24 n c in
    half n c (kept 24 n c) k (coarse n c k C refl) (closest_half n (c * 2 ^ k) (mul-pos C (pow_pos k)))

-- ---- a whole number of steps

exact : (w d q k : ℕ) → 0 < d → (k ≡ 0) ⊎ (2 ^ 23 * (d * 2 ^ k) ≤ w * d) → Half (w * d) (d * 2 ^ k) q → gap (q * (d * 2 ^ k)) (w * d) ≤ gap (w * (d * 2 ^ k)) (w * d)
    → Relative w (q * 2 ^ k)
exact w d q k D (inl z) h l =
    let u : w * (d * 2 ^ k) ≡ w * d = ap (λ (x : ℕ). w * (d * 2 ^ x)) z ∙ ap (λ (x : ℕ). w * x) (mul-one d) in
    let e : q * 2 ^ k * d ≡ w * d = regroup q k d ∙ (omega arith) in
    let r : q * 2 ^ k ≡ w = eq_of_mul-eq-mul_right d D (q * 2 ^ k) w e in
    record { over = omega arith; under = omega arith }
exact w d q k D (inr c) h l =
    let e = regroup q k d in
    let over : (2 ^ 24 * (q * 2 ^ k)) * d ≤ (2 ^ 24 * w + w) * d = rw (mul_assoc (2 ^ 24) (q * 2 ^ k) d, add-mul (2 ^ 24 * w) w d, mul_assoc (2 ^ 24) w d) (omega (arith, h.over)) in
    let under : (2 ^ 24 * w) * d ≤ (2 ^ 24 * (q * 2 ^ k) + w) * d = rw (mul_assoc (2 ^ 24) w d, add-mul (2 ^ 24 * (q * 2 ^ k)) w d, mul_assoc (2 ^ 24) (q * 2 ^ k) d) (omega (arith, h.under)) in
    record { over = le_of_mul-le-mul_right over D; under = le_of_mul-le-mul_right under D }

pub whole_step : (w : ℕ) → Relative w (grid binary32 w unit)
whole_step w =
    let n = w * unit in
    let k = drop 24 n unit in
    let u = unit * 2 ^ k in
    let U : 0 < u = mul-pos (pow_pos 149) (pow_pos k) in
    exact w unit (kept 24 n unit) k (pow_pos 149) (coarse n unit k (pow_pos 149) refl) (closest_half n u U) (closest_least n u w U)

-- ---- the order

or_le : (x y : ℕ) (b : Bool) → T (ltb x y || (eqb x y && b)) → x ≤ y
or_le x y b t = go (ltb x y) (eqb x y) (ltb→lt x y) (eqb→eq x y) t
  where
    go : (l e : Bool) → (T l → x < y) → (T e → x ≡ y) → T (l || (e && b)) → x ≤ y
    go true e f g t = le_of_lt (f tt)
    go false true f g t = le_of_eq (g tt)
    go false false f g t = absurd t

pub le_steps : (x y : Float) (a b c : ℕ) → 0 < c → HasValue x false a c → HasValue y false b c → T (le x y) → a ≤ b
unfolding le
le_steps nan y a b c C p q t = absurd p
le_steps (inf s) y a b c C p q t = absurd p
le_steps (fin true m e) y a b c C p q t = absurd (true≢false p.0)
le_steps (fin false m e) nan a b c C p q t = absurd q
le_steps (fin false m e) (inf s) a b c C p q t = absurd q
le_steps (fin false m e) (fin true n d) a b c C p q t = absurd (true≢false q.0)
le_steps (fin false m e) (fin false n d) a b c C p q t =
    le_of_mul-le-mul_right
    (transfer a b c c (m * up e) (n * up d) (down e) (down d) (down_pos e) (down_pos d) (sym p.1) (sym q.1) (or_le (m * up e * down d) (n * up d * down e) true t))
    C

-- an infinity is below no number
pub not_under : (y : Float) (b c : ℕ) → HasValue y false b c → T (le (inf false) y) → ⊥
unfolding le
not_under nan b c q t = q
not_under (inf s) b c q t = q
not_under (fin s n d) b c q t = t

pub grid_mono : (a b c d : ℕ) → 0 < b → 0 < d → a * d ≤ c * b → grid binary32 c d < overflow binary32 → grid binary32 a b ≤ grid binary32 c d
grid_mono a b c d B D h under = go (dec_lt (grid binary32 a b) (overflow binary32))
  where
    there : HasValue (round binary32 false c d) false (grid binary32 c d) unit
    there = round_at false c d under

    go : Dec (grid binary32 a b < overflow binary32) → grid binary32 a b ≤ grid binary32 c d
    go (yes l) = le_steps (round binary32 false a b) (round binary32 false c d) (grid binary32 a b) (grid binary32 c d) unit (pow_pos 149) (round_at false a b l) there (round_mono binary32 a b c d B D h)
    go (no l) = absurd (not_under (round binary32 false c d) (grid binary32 c d) unit there (rw (round_over false a b (le_of_suc-le-suc (lt_of_not-le l))) at (round_mono binary32 a b c d B D h)))
