-- Comparisons of finite f32 numbers as comparisons of their steps, zeros of either sign included. `y` is a number that is not negative. Assumes nothing.
use mathlib.Core.Path.{◌≡◌, sym, ap, ◌∙◌}
use Prim.Native.Nat.{ℕ, ◌+◌, ◌*◌, ◌≤◌, ◌<◌}
use native.Mathlib.Nat.{mul-le-mul_right, le_of_mul-le-mul_right, le_of_lt, le_of_eq, lt_of_not-le, mul-one, zero-mul, mul-pos, eq-zero-or-pos}
use native.Mathlib.Omega.{arith}
use mathlib.Core.Bool.{Bool, true, false, true≢false, ◌&&◌, ◌||◌}
use mathlib.Core.Logic.{◌⊎◌, inl, inr}
use lib.IntN.{ℤ, pos}
use lib.Dec.{T, ltb, eqb, lt→ltb, ltb→lt, eqb→eq}
use lib.Pow.{pow_pos}
use lib.Ieee.{Float, nan, inf, fin, binary32, up, down, lt, le, fits}
use lib.Ieee.Fits.{up_pos, down_pos, and_l, and_r}
use lib.Ieee.Order.{le_of_values, transfer}
use Rattle.steps.specs.Steps.{unit, magnitude, negative, IsNumber}
use Rattle.steps.proofs.Own.{own}
use Rattle.steps.proofs.Round.{le_steps}

-- 0.0
abbrev pub nil : Float
nil = fin false 0 (pos 0)

clash : (b : Bool) → T b → b ≡ false → ⊥
clash true t e = true≢false e
clash false t e = t

-- ---- a number that is not negative

pub steps_of_le : (x y : Float) → IsNumber x → IsNumber y → negative x ≡ false → negative y ≡ false → T (le x y) → magnitude x ≤ magnitude y
steps_of_le x y p q e f t = le_steps x y (magnitude x) (magnitude y) unit (pow_pos 149) (rw e at (own x p)) (rw f at (own y q)) t

pub le_of_steps : (x y : Float) → IsNumber x → IsNumber y → negative x ≡ false → negative y ≡ false → magnitude x ≤ magnitude y → T (le x y)
le_of_steps x y p q e f h = le_of_values x y (magnitude x) unit (magnitude y) unit (pow_pos 149) (pow_pos 149) (rw e at (own x p)) (rw f at (own y q)) (mul-le-mul_right unit h)

pub steps_of_not_le : (x y : Float) → IsNumber x → IsNumber y → negative x ≡ false → negative y ≡ false → le x y ≡ false → magnitude y < magnitude x
steps_of_not_le x y p q e f t = lt_of_not-le (λ (h : magnitude x ≤ magnitude y). clash (le x y) (le_of_steps x y p q e f h) t)

-- ---- a negative number, and zero

empty : (a c n : ℕ) → 0 < c → a * unit ≡ n * c → a ≡ 0 → n ≡ 0
empty a c n C e z = go (eq-zero-or-pos n) (sym e ∙ ap (λ (x : ℕ). x * unit) z)
  where
    go : (n ≡ 0) ⊎ (0 < n) → n * c ≡ 0 * unit → n ≡ 0
    go (inl h) e = h
    go (inr h) e = absurd (let p = mul-pos h C in let q : n * c ≡ 0 = e ∙ zero-mul unit in omega arith)

none : (x : ℕ) → ltb 0 x ≡ false → x ≡ 0
none x t = go (eq-zero-or-pos x)
  where
    go : (x ≡ 0) ⊎ (0 < x) → x ≡ 0
    go (inl h) = h
    go (inr h) = absurd (clash (ltb 0 x) (lt→ltb 0 x h) t)

-- a negative number is below zero, unless it is -0.0
pub not_below_zero : (x : Float) → IsNumber x → negative x ≡ true → lt x nil ≡ false → magnitude x ≡ 0
unfolding lt negative
not_below_zero nan p e t = absurd p.1
not_below_zero (inf s) p e t = absurd p.1
not_below_zero (fin false m d) p e t = absurd (true≢false (sym e))
not_below_zero (fin true m d) p e t = empty (m * up d) (down d) (magnitude (fin true m d)) (down_pos d) (own (fin true m d) p).1 (first (m * up d) (down d) (none (m * up d * 1 + 0 * down d) t))
  where
    first : (a c : ℕ) → a * 1 + 0 * c ≡ 0 → a ≡ 0
    first a c h = omega arith

-- so only -0.0 is at least zero
eq_zero : (x y : ℕ) → T (eqb x y && eqb x 0) → y ≡ 0
eq_zero x y t = sym (eqb→eq x y (and_l (eqb x y) (eqb x 0) t)) ∙ eqb→eq x 0 (and_r (eqb x y) (eqb x 0) t)

pub at_least_zero : (x : Float) → IsNumber x → negative x ≡ true → T (le nil x) → magnitude x ≡ 0
unfolding le negative
at_least_zero nan p e t = absurd p.1
at_least_zero (inf s) p e t = absurd p.1
at_least_zero (fin false m d) p e t = absurd (true≢false (sym e))
at_least_zero (fin true m d) p e t = empty (m * up d) (down d) (magnitude (fin true m d)) (down_pos d) (own (fin true m d) p).1 (sym (mul-one (m * up d)) ∙ eq_zero (0 * down d) (m * up d * 1) t)

-- -0.0 is, and it is at most any number that is not negative
full : (a c n : ℕ) → a * unit ≡ n * c → n ≡ 0 → a ≡ 0
full a c n e z = go (eq-zero-or-pos a) (e ∙ ap (λ (x : ℕ). x * c) z ∙ zero-mul c)
  where
    go : (a ≡ 0) ⊎ (0 < a) → a * unit ≡ 0 → a ≡ 0
    go (inl h) e = h
    go (inr h) e = absurd (let p = mul-pos h (pow_pos 149) in none_left (a * unit) e p)
      where
        none_left : (x : ℕ) → x ≡ 0 → 0 < x → ⊥
        none_left x e p = omega arith

pub minus_zero : (x : Float) → IsNumber x → negative x ≡ true → magnitude x ≡ 0 → T (le nil x)
unfolding le negative
minus_zero nan p e z = absurd p.1
minus_zero (inf s) p e z = absurd p.1
minus_zero (fin false m d) p e z = absurd (true≢false (sym e))
minus_zero (fin true m d) p e z =
    let a : m * up d ≡ 0 = full (m * up d) (down d) (magnitude (fin true m d)) (own (fin true m d) p).1 z in
    rw (zero-mul (down d), a) tt

-- a negative number is at most any that is above zero
pub negative_le : (x y : Float) → IsNumber x → IsNumber y → negative x ≡ true → negative y ≡ false → 0 < magnitude y → T (le x y)
unfolding le negative
negative_le nan y p q e f g = absurd p.1
negative_le (inf s) y p q e f g = absurd p.1
negative_le (fin false m d) y p q e f g = absurd (true≢false (sym e))
negative_le (fin true m d) nan p q e f g = absurd q.1
negative_le (fin true m d) (inf s) p q e f g = absurd q.1
negative_le (fin true m d) (fin true n c) p q e f g = absurd (true≢false f)
negative_le (fin true m d) (fin false n c) p q e f g =
    either (ltb 0 (m * up d * down c + n * up c * down d)) (eqb (m * up d * down c) (n * up c * down d) && eqb (m * up d * down c) 0)
    (lt→ltb 0 (m * up d * down c + n * up c * down d) (more (m * up d * down c) (n * up c * down d) (mul-pos some (down_pos d))))
  where
    either : (a b : Bool) → T a → T (a || b)
    either true b t = tt
    either false b t = absurd t

    more : (a b : ℕ) → 0 < b → 0 < a + b
    more a b h = omega arith

    some : 0 < n * up c
    some = go (eq-zero-or-pos (n * up c))
      where
        go : (n * up c ≡ 0) ⊎ (0 < n * up c) → 0 < n * up c
        go (inr h) = h
        go (inl z) = absurd (let h = empty (n * up c) (down c) (magnitude (fin false n c)) (down_pos c) (own (fin false n c) q).1 z in omega arith)

-- ---- two negative numbers, and one on each side of zero

turned : (x y : ℕ) (b : Bool) → T (ltb y x || (eqb x y && b)) → y ≤ x
turned x y b t = go (ltb y x) (eqb x y) (ltb→lt y x) (eqb→eq x y) t
  where
    go : (l e : Bool) → (T l → y < x) → (T e → x ≡ y) → T (l || (e && b)) → y ≤ x
    go true e f g t = le_of_lt (f tt)
    go false true f g t = le_of_eq (sym (g tt))
    go false false f g t = absurd t

pub both_negative : (x y : Float) → IsNumber x → IsNumber y → negative x ≡ true → negative y ≡ true → T (le x y) → magnitude y ≤ magnitude x
unfolding le negative
both_negative nan y p q e f t = absurd p.1
both_negative (inf s) y p q e f t = absurd p.1
both_negative (fin false m d) y p q e f t = absurd (true≢false (sym e))
both_negative (fin true m d) nan p q e f t = absurd q.1
both_negative (fin true m d) (inf s) p q e f t = absurd q.1
both_negative (fin true m d) (fin false n c) p q e f t = absurd (true≢false (sym f))
both_negative (fin true m d) (fin true n c) p q e f t =
    let x = (own (fin true m d) p).1 in
    let y = (own (fin true n c) q).1 in
    le_of_mul-le-mul_right
    (transfer (magnitude (fin true n c)) (magnitude (fin true m d)) unit unit (n * up c) (m * up d) (down c) (down d) (down_pos c) (down_pos d) (sym y) (sym x) (turned (m * up d * down c) (n * up c * down d) true t))
    (pow_pos 149)

vanishes : (a c n k : ℕ) → 0 < c → 0 < k → a * unit ≡ n * c → a * k ≡ 0 → n ≡ 0
vanishes a c n k C K e z = empty a c n C e (go (eq-zero-or-pos a))
  where
    go : (a ≡ 0) ⊎ (0 < a) → a ≡ 0
    go (inl h) = h
    go (inr h) = absurd (let p = mul-pos h K in omega arith)

pub across_zero : (x y : Float) → IsNumber x → IsNumber y → negative x ≡ false → negative y ≡ true → T (le x y) → (magnitude x ≡ 0) × (magnitude y ≡ 0)
unfolding le negative
across_zero nan y p q e f t = absurd p.1
across_zero (inf s) y p q e f t = absurd p.1
across_zero (fin true m d) y p q e f t = absurd (true≢false e)
across_zero (fin false m d) nan p q e f t = absurd q.1
across_zero (fin false m d) (inf s) p q e f t = absurd q.1
across_zero (fin false m d) (fin false n c) p q e f t = absurd (true≢false (sym f))
across_zero (fin false m d) (fin true n c) p q e f t =
    let a = m * up d * down c in
    let b = n * up c * down d in (
      vanishes (m * up d) (down d) (magnitude (fin false m d)) (down c) (down_pos d) (down_pos c) (own (fin false m d) p).1 (eqb→eq a 0 (and_r (eqb a b) (eqb a 0) t)),
      vanishes (n * up c) (down c) (magnitude (fin true n c)) (down d) (down_pos c) (down_pos d) (own (fin true n c) q).1 (eq_zero a b t),
    )

-- a number with a digit other than zero has steps
pub some_steps : (s : Bool) (m : ℕ) (d : ℤ) → 0 < m → T (fits binary32 (fin s m d)) → 0 < magnitude (fin s m d)
some_steps s m d p g = go (eq-zero-or-pos (magnitude (fin s m d)))
  where
    go : (magnitude (fin s m d) ≡ 0) ⊎ (0 < magnitude (fin s m d)) → 0 < magnitude (fin s m d)
    go (inr h) = h
    go (inl z) = absurd (let q = mul-pos p (up_pos d) in let e = full (m * up d) (down d) (magnitude (fin s m d)) (own (fin s m d) (g, tt)).1 z in omega arith)
