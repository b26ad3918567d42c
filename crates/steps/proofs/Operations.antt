-- The operations that a conversion makes, on finite f32 numbers as steps: a difference is one rounding of the difference of the steps (`difference`), a quotient one rounding of their quotient (`quotient`),
-- a product with a power of two is exact (`times_power`). And two comparisons (`le_of`, `zero-le-of`). Assumes nothing.
use mathlib.Core.Path.{◌≡◌, refl, sym, ap, ◌∙◌, subst}
use Prim.Native.Nat.{ℕ, zero, suc, ◌+◌, ◌-◌, ◌*◌, ◌^◌, ◌<◌}
use native.Mathlib.Nat.{mul_assoc, mul_comm, mul_right_comm, mul_left_comm, mul-one, one-mul, mul-pos, zero-mul, zero-lt-suc, add-mul, mul-sub, eq_of_mul-eq-mul_right, mul-lt-mul_of_pos_right, lt_of_mul-lt-mul_right}
use native.Mathlib.Omega.{arith}
use mathlib.Core.Bool.{Bool, true, false, not, ◌&&◌, beq, cond}
use lib.IntN.{pos, ◌-ℤ◌}
use lib.Dec.{T, ltb, ltb→lt, lt→ltb, eqb-suc-zero}
use lib.Pow.{pow-add, pow_pos}
use lib.Ieee.{Float, nan, inf, fin, binary32, up, down, unlike, sum, sub, div, mul, round}
use lib.Ieee.Fits.{down_pos, up_pos, round-fits}
use lib.Ieee.Exact.{HasValue, round_exact}
use lib.Ieee.Scale.{round_same, grid, overflow, finite}
use Rattle.steps.specs.Steps.{unit, magnitude, negative, signed, steps, IsNumber}
use Rattle.steps.proofs.Own.{own, digits, rescaled, magnitude_of, negative_of, finite_of}
use Rattle.steps.proofs.Round.{round_at}
use Rattle.steps.proofs.Signed.{sum_sign, sum_size, added, negated}

-- ---- a rounded fraction that does not overflow is a number of so many steps

pub rounded : (s : Bool) (a c : ℕ) → grid binary32 a c < overflow binary32
    → IsNumber (round binary32 s a c) × (negative (round binary32 s a c) ≡ s) × (magnitude (round binary32 s a c) ≡ grid binary32 a c)
rounded s a c h =
    let r = round binary32 s a c in
    let v = round_at s a c h in
    ((round-fits binary32 s a c, finite_of r s (grid binary32 a c) unit v), negative_of r s (grid binary32 a c) unit v, magnitude_of r s (grid binary32 a c) v)

-- ---- a difference

-- a / c and b / c are A and B steps, so their sum and their difference are those of the steps
plus_steps : (a b c A B : ℕ) → a * unit ≡ A * c → b * unit ≡ B * c → (a + b) * unit ≡ (A + B) * c
plus_steps a b c A B p q = add-mul a b unit ∙ ap (λ (z : ℕ). z + b * unit) p ∙ ap (λ (z : ℕ). A * c + z) q ∙ sym (add-mul A B c)

sub_mul : (a b c : ℕ) → (a - b) * c ≡ a * c - b * c
sub_mul a b c = mul_comm (a - b) c ∙ mul-sub c a b ∙ ap (λ (z : ℕ). z - c * b) (mul_comm c a) ∙ ap (λ (z : ℕ). a * c - z) (mul_comm c b)

minus_steps : (a b c A B : ℕ) → a * unit ≡ A * c → b * unit ≡ B * c → (a - b) * unit ≡ (A - B) * c
minus_steps a b c A B p q = sub_mul a b unit ∙ ap (λ (z : ℕ). z - b * unit) p ∙ ap (λ (z : ℕ). A * c - z) q ∙ sym (sub_mul A B c)

both_ways : (x y : Bool) → (T x → T y) → (T y → T x) → x ≡ y
both_ways true true f g = refl
both_ways true false f g = absurd (f tt)
both_ways false true f g = absurd (g tt)
both_ways false false f g = refl

same_order : (a b c A B : ℕ) → 0 < unit → a * unit ≡ A * c → b * unit ≡ B * c → a < b → A < B
same_order a b c A B U p q h = lt_of_mul-lt-mul_right c (subst (λ (z : ℕ). A * c < z) q (subst (λ (z : ℕ). z < b * unit) p (mul-lt-mul_of_pos_right h U)))

same_test : (a b c A B : ℕ) → 0 < c → a * unit ≡ A * c → b * unit ≡ B * c → ltb a b ≡ ltb A B
same_test a b c A B C p q =
    both_ways (ltb a b) (ltb A B) (λ t. lt→ltb A B (same_order a b c A B (pow_pos 149) p q (ltb→lt a b t)))
    (λ t. lt→ltb a b (lt_of_mul-lt-mul_right unit (subst (λ (z : ℕ). a * unit < z) (sym q) (subst (λ (z : ℕ). z < B * c) (sym p) (mul-lt-mul_of_pos_right (ltb→lt A B t) C)))))

sum_steps : (s t : Bool) (a b c A B : ℕ) → 0 < c → a * unit ≡ A * c → b * unit ≡ B * c → sum binary32 s a t b c ≡ round binary32 (sum_sign s A t B) (sum_size s A t B) unit
unfolding sum
sum_steps s t a b c A B C p q = rw (same_test a b c A B C p q, same_test b a c B A C q p) (go (beq s t) (ltb A B) (ltb B A))
  where
    go : (e l m : Bool) → cond e (round binary32 s (a + b) c) (cond l (round binary32 t (b - a) c) (round binary32 (s && m) (a - b) c))
        ≡ round binary32 (cond e s (cond l t (s && m))) (cond e (A + B) (cond l (B - A) (A - B))) unit
    go true l m = round_same binary32 s (a + b) c (A + B) unit C (pow_pos 149) (plus_steps a b c A B p q)
    go false true m = round_same binary32 t (b - a) c (B - A) unit C (pow_pos 149) (minus_steps b a c B A q p)
    go false false m = round_same binary32 (s && m) (a - b) c (A - B) unit C (pow_pos 149) (minus_steps a b c A B p q)

-- the sign and the size of x - y in steps
abbrev pub apart_sign : Float → Float → Bool
apart_sign x y = sum_sign (negative x) (magnitude x) (not (negative y)) (magnitude y)

abbrev pub apart_size : Float → Float → ℕ
apart_size x y = sum_size (negative x) (magnitude x) (not (negative y)) (magnitude y)

pub apart_is : (x y : Float) → steps x -ℤ steps y ≡ signed (apart_sign x y) (apart_size x y)
apart_is x y = rw (negated (negative y) (magnitude y)) (added (negative x) (magnitude x) (not (negative y)) (magnitude y))

-- what a fraction over both denominators is in steps
over_both : (a A d e : ℕ) → a * unit ≡ A * d → a * e * unit ≡ A * (d * e)
over_both a A d e p = mul_right_comm a e unit ∙ ap (λ (z : ℕ). z * e) p ∙ mul_assoc A d e

pub difference : (x y : Float) → IsNumber x → IsNumber y → sub binary32 x y ≡ round binary32 (apart_sign x y) (apart_size x y) unit
unfolding sub negative
difference x y m n = go x y m.1 n.1 (own x m) (own y n)
  where
    go : (x y : Float) → T (finite x) → T (finite y) → HasValue x (negative x) (magnitude x) unit → HasValue y (negative y) (magnitude y) unit
        → sub binary32 x y ≡ round binary32 (apart_sign x y) (apart_size x y) unit
    go nan y f g v w = absurd f
    go (inf s) y f g v w = absurd f
    go (fin s m e) nan f g v w = absurd g
    go (fin s m e) (inf t) f g v w = absurd g
    go (fin s m e) (fin t n d) f g v w =
        sum_steps s (not t) (m * up e * down d) (n * up d * down e) (down e * down d) (magnitude (fin s m e)) (magnitude (fin t n d)) (mul-pos (down_pos e) (down_pos d))
        (over_both (m * up e) (magnitude (fin s m e)) (down e) (down d) v.1)
        (over_both (n * up d) (magnitude (fin t n d)) (down d) (down e) w.1 ∙ ap (λ (z : ℕ). magnitude (fin t n d) * z) (mul_comm (down d) (down e)))

-- ---- a quotient

none : (n u c : ℕ) → 0 * u * unit ≡ n * c → 0 < n * c → ⊥
none n u c e p = clash (n * c) (sym e ∙ ap (λ (x : ℕ). x * unit) (zero-mul u)) p
  where
    clash : (x : ℕ) → x ≡ 0 → 0 < x → ⊥
    clash x e p = omega arith

ratio : (a b A B d e : ℕ) → a * unit ≡ A * d → b * unit ≡ B * e → a * e * B ≡ A * (b * d)
ratio a b A B d e p q =
    let x : a * e * B * unit ≡ A * (d * e) * B = mul_right_comm (a * e) B unit ∙ ap (λ (z : ℕ). z * B) (over_both a A d e p) in
    let y : A * (b * d) * unit ≡ A * (b * unit * d) = mul_assoc A (b * d) unit ∙ ap (λ (z : ℕ). A * z) (mul_right_comm b d unit) in
    let z : A * (d * e) * B ≡ A * (B * e * d) = simp (mul_assoc, mul_comm, mul_left_comm) in
    eq_of_mul-eq-mul_right unit (pow_pos 149) (a * e * B) (A * (b * d)) (x ∙ z ∙ ap (λ (u : ℕ). A * (u * d)) (sym q) ∙ sym y)

pub quotient : (x y : Float) → IsNumber x → IsNumber y → 0 < magnitude y → div binary32 x y ≡ round binary32 (unlike (negative x) (negative y)) (magnitude x) (magnitude y)
unfolding div negative
quotient x y m n p = go x y m.1 n.1 (own x m) (own y n) p
  where
    go : (x y : Float) → T (finite x) → T (finite y) → HasValue x (negative x) (magnitude x) unit → HasValue y (negative y) (magnitude y) unit
        → 0 < magnitude y → div binary32 x y ≡ round binary32 (unlike (negative x) (negative y)) (magnitude x) (magnitude y)
    go nan y f g v w p = absurd f
    go (inf s) y f g v w p = absurd f
    go (fin s m e) nan f g v w p = absurd g
    go (fin s m e) (inf t) f g v w p = absurd g
    go (fin s m e) (fin t zero d) f g v w p = absurd (none (magnitude (fin t 0 d)) (up d) (down d) w.1 (mul-pos p (down_pos d)))
    go (fin s m e) (fin t (suc n) d) f g v w p =
        rw (eqb-suc-zero n)
        (round_same binary32 (unlike s t) (m * up e * down d) (suc n * up d * down e) (magnitude (fin s m e)) (magnitude (fin t (suc n) d))
        (mul-pos (mul-pos (zero-lt-suc n) (up_pos d)) (down_pos e)) p (ratio (m * up e) (suc n * up d) (magnitude (fin s m e)) (magnitude (fin t (suc n) d)) (down e) (down d) v.1 w.1))

-- ---- a product with a power of two

pub plain : (s : Bool) → unlike s false ≡ s
plain true = refl
plain false = refl

-- the digits m at the place b, over c, moved up by j places
moved : (a c m b n j : ℕ) → a * unit ≡ n * c → n ≡ m * 2 ^ b → a * (1 * 2 ^ j) * unit ≡ m * 2 ^ (b + j) * (c * 1)
moved a c m b n j p q =
    let x : a * (1 * 2 ^ j) * unit ≡ a * unit * 2 ^ j = ap (λ (z : ℕ). a * z * unit) (one-mul (2 ^ j)) ∙ mul_right_comm a (2 ^ j) unit in
    let y : n * c * 2 ^ j ≡ m * 2 ^ b * 2 ^ j * c = mul_right_comm n c (2 ^ j) ∙ ap (λ (z : ℕ). z * 2 ^ j * c) q in
    x ∙ ap (λ (z : ℕ). z * 2 ^ j) p ∙ y ∙ ap (λ (z : ℕ). z * c) (mul_assoc m (2 ^ b) (2 ^ j) ∙ ap (λ (z : ℕ). m * z) (sym (pow-add 2 b j)))
    ∙ ap (λ (z : ℕ). m * 2 ^ (b + j) * z) (sym (mul-one c))

pub times_power : (x : Float) (j : ℕ) → IsNumber x → magnitude x * 2 ^ j < overflow binary32 → HasValue (mul binary32 x (fin false 1 (pos j))) (negative x) (magnitude x * 2 ^ j) unit
unfolding mul negative
times_power x j num under = go x num.1 (own x num) (digits x num) under
  where
    go : (x : Float) → T (finite x) → HasValue x (negative x) (magnitude x) unit → (m b : ℕ) × (m < 2 ^ 24) × (magnitude x ≡ m * 2 ^ b)
        → magnitude x * 2 ^ j < overflow binary32 → HasValue (mul binary32 x (fin false 1 (pos j))) (negative x) (magnitude x * 2 ^ j) unit
    go nan f v d u = absurd f
    go (inf s) f v d u = absurd f
    go (fin s n e) f v (m, b, small, is) u =
        let a = n * up e in
        let shape : a * (1 * 2 ^ j) * unit ≡ m * 2 ^ (b + j) * (down e * 1) = moved a (down e) m b (magnitude (fin s n e)) j v.1 is in
        let size : magnitude (fin s n e) * 2 ^ j ≡ m * 2 ^ (b + j) = ap (λ (z : ℕ). z * 2 ^ j) is ∙ mul_assoc m (2 ^ b) (2 ^ j) ∙ ap (λ (z : ℕ). m * z) (sym (pow-add 2 b j)) in
        rw (plain s)
        (rescaled (round binary32 s (a * (1 * 2 ^ j)) (down e * 1)) s (a * (1 * 2 ^ j)) (down e * 1) (magnitude (fin s n e) * 2 ^ j) unit (mul-pos (down_pos e) (zero-lt-suc 0))
        (shape ∙ ap (λ (z : ℕ). z * (down e * 1)) (sym size))
        (round_exact binary32 s (a * (1 * 2 ^ j)) (down e * 1) m (b + j) (mul-pos (down_pos e) (zero-lt-suc 0)) small (rw size at u) shape))
