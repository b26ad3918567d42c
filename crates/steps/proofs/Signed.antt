-- Whole numbers by sign and size: their sums, products and order. `sum_sign` and `sum_size` are the sign and the size that IEEE 754 gives a sum. Assumes nothing.
use mathlib.Core.Path.{◌≡◌, refl, sym, ap, ◌∙◌}
use Prim.Native.Nat.{ℕ, zero, suc, ◌+◌, ◌-◌, ◌*◌, ◌≤◌, ◌<◌}
use native.Mathlib.Nat.{mul-zero, add-suc, suc-add, add-zero, zero-add}
use native.Mathlib.Omega.{arith}
use mathlib.Core.Bool.{Bool, true, false, not, ◌&&◌, beq, cond}
use lib.IntN.{pos, negsuc, neg_ℤ, sub_ℕ, ◌+ℤ◌, ◌*ℤ◌, +ℤ_idl, +ℤ_idr}
use lib.Signed.{◌≤ℤ◌, ◌<ℤ◌}
use lib.Dec.{T, ltb, ltb→lt, nltb→le, lt→ltb, le→leb}
use Rattle.steps.specs.Steps.{signed}

abbrev pub sum_sign : Bool → ℕ → Bool → ℕ → Bool
sum_sign s a t b = cond (beq s t) s (cond (ltb a b) t (s && ltb b a))

abbrev pub sum_size : Bool → ℕ → Bool → ℕ → ℕ
sum_size s a t b = cond (beq s t) (a + b) (cond (ltb a b) (b - a) (a - b))

pub negated : (s : Bool) (n : ℕ) → neg_ℤ (signed s n) ≡ signed (not s) n
negated false n = refl
negated true zero = refl
negated true (suc n) = refl

pub scaled : (k : ℕ) (s : Bool) (n : ℕ) → pos k *ℤ signed s n ≡ signed s (k * n)
scaled k false n = refl
scaled k true zero = ap pos (mul-zero k) ∙ sym (ap (λ (z : ℕ). neg_ℤ (pos z)) (mul-zero k))
scaled k true (suc n) = refl

-- ---- a sum

less : (a b : ℕ) → a < b → negsuc (b - suc a) ≡ neg_ℤ (pos (b - a))
less a b h = sym (ap (λ (z : ℕ). neg_ℤ (pos z)) e)
  where
    e : b - a ≡ suc (b - suc a)
    e = omega arith

-- a - b, with what the test tells
minus : (a b : ℕ) (l : Bool) → (T l → a < b) → (T (not l) → b ≤ a) → cond l (negsuc (b - suc a)) (pos (a - b)) ≡ signed l (cond l (b - a) (a - b))
minus a b true f g = less a b (f tt)
minus a b false f g = refl

subtracted : (a b : ℕ) → sub_ℕ a b ≡ signed (ltb a b) (cond (ltb a b) (b - a) (a - b))
subtracted a b = minus a b (ltb a b) (ltb→lt a b) (nltb→le a b)

pos_neg : (a b : ℕ) → pos a +ℤ neg_ℤ (pos b) ≡ signed (sum_sign false a true b) (sum_size false a true b)
pos_neg a zero = go (ltb a 0) (ltb→lt a 0)
  where
    go : (l : Bool) → (T l → a < 0) → pos (a + 0) ≡ signed (cond l true false) (cond l (0 - a) (a - 0))
    go true f = absurd (let h = f tt in omega arith)
    go false f = ap pos (omega arith)
pos_neg a (suc b) = subtracted a (suc b) ∙ plain (ltb a (suc b)) (suc b - a) (a - suc b)
  where
    plain : (l : Bool) (x y : ℕ) → signed l (cond l x y) ≡ signed (cond l true false) (cond l x y)
    plain true x y = refl
    plain false x y = refl

-- b - a the other way round; where the two are equal the sum is +0
turned : (a b : ℕ) (l m : Bool) → (T l → a < b) → (T (not l) → b ≤ a) → (T m → b < a) → (T (not m) → a ≤ b)
    → signed m (cond m (a - b) (b - a)) ≡ signed (cond l false m) (cond l (b - a) (a - b))
turned a b true true f g h k = absurd (let x = f tt in let y = h tt in omega arith)
turned a b true false f g h k = refl
turned a b false true f g h k = refl
turned a b false false f g h k = ap pos (let x = g tt in let y = k tt in omega arith)

neg_pos : (a b : ℕ) → neg_ℤ (pos a) +ℤ pos b ≡ signed (sum_sign true a false b) (sum_size true a false b)
neg_pos zero b = first ∙ turned 0 b (ltb 0 b) (ltb b 0) (ltb→lt 0 b) (nltb→le 0 b) (ltb→lt b 0) (nltb→le b 0)
  where
    go : (m : Bool) → (T m → b < 0) → pos (0 + b) ≡ signed m (cond m (0 - b) (b - 0))
    go true f = absurd (let h = f tt in omega arith)
    go false f = ap pos (omega arith)

    first : pos (0 + b) ≡ signed (ltb b 0) (cond (ltb b 0) (0 - b) (b - 0))
    first = go (ltb b 0) (ltb→lt b 0)
neg_pos (suc a) b = subtracted b (suc a) ∙ turned (suc a) b (ltb (suc a) b) (ltb b (suc a)) (ltb→lt (suc a) b) (nltb→le (suc a) b) (ltb→lt b (suc a)) (nltb→le b (suc a))

neg_neg : (a b : ℕ) → neg_ℤ (pos a) +ℤ neg_ℤ (pos b) ≡ neg_ℤ (pos (a + b))
neg_neg zero zero = refl
neg_neg zero (suc b) = +ℤ_idl (negsuc b) ∙ ap (λ (z : ℕ). neg_ℤ (pos z)) (sym (zero-add (suc b)))
neg_neg (suc a) zero = +ℤ_idr (negsuc a) ∙ ap (λ (z : ℕ). neg_ℤ (pos z)) (sym (add-zero (suc a)))
neg_neg (suc a) (suc b) = ap (λ (z : ℕ). neg_ℤ (pos z)) (sym (add-suc (suc a) b ∙ ap suc (suc-add a b)))

pub added : (s : Bool) (a : ℕ) (t : Bool) (b : ℕ) → signed s a +ℤ signed t b ≡ signed (sum_sign s a t b) (sum_size s a t b)
added false a false b = refl
added false a true b = pos_neg a b
added true a false b = neg_pos a b
added true a true b = neg_neg a b

-- ---- the order

pub le_pos : {a b : ℕ} → a ≤ b → pos a ≤ℤ pos b
le_pos {a} {b} h = record { le = le→leb a b h }

pub lt_pos : {a b : ℕ} → a < b → pos a <ℤ pos b
lt_pos {a} {b} h = record { lt = lt→ltb a b h }

-- what is not above zero is below what is
pub lt_signed : (n b : ℕ) → 0 < b → signed true n <ℤ pos b
lt_signed zero b h = lt_pos h
lt_signed (suc n) b h = record { lt = tt }

pub lt_zero : (n : ℕ) → 0 < n → signed true n <ℤ pos 0
lt_zero zero h = absurd (omega arith)
lt_zero (suc n) h = record { lt = tt }

-- a ≤ c - b
pub le_less : (a b c : ℕ) → a + b ≤ c → pos a ≤ℤ (signed true b +ℤ pos c)
le_less a b c h = rw (added true b false c) (go (ltb b c) (ltb c b) (nltb→le b c) (ltb→lt c b))
  where
    go : (l m : Bool) → (T (not l) → c ≤ b) → (T m → c < b) → pos a ≤ℤ signed (cond l false m) (cond l (c - b) (b - c))
    go true m f g = le_pos (omega arith)
    go false true f g = absurd (let x = g tt in omega arith)
    go false false f g = le_pos (let x = f tt in omega arith)
