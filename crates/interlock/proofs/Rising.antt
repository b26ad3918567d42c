-- A higher level never gets a lower code under a positive slope (`rising`), and never a higher one under a negative slope (`falling`), where both are accepted. For every f32: nothing else is asked of the four. Assumes nothing.
use Rattle.std.specs.Prelude.{Option, Some}
use mathlib.Core.Path.{◌≡◌, refl, sym, ap, ◌∙◌, subst}
use mathlib.Core.Logic.{◌⊎◌, inl, inr}
use Prim.Native.Nat.{ℕ, zero, suc, ◌+◌, ◌-◌, ◌*◌, ◌/◌, ◌^◌, ◌≤◌, ◌<◌, zero-le}
use native.Mathlib.Nat.{mul-le-mul_right, lt_of_le_of_lt, lt_of_not-le, le_trans, le_of_eq, zero-lt-suc, zero-mul}
use native.Mathlib.Omega.{arith}
use mathlib.Core.Bool.{Bool, true, false, true≢false, not, cond}
use lib.Dec.{T, ltb, eqb, ltb→lt, nltb→le, lit<}
use lib.Pow.{pow_pos, shr_mono}
use lib.Ieee.{Float, nan, inf, fin, binary32, up, down, unlike, sub, div, round, lt, le, fits, of_bits, size}
use lib.Ieee.Fits.{div-fits}
use lib.Ieee.Scale.{grid, overflow, finite}
use Rattle.steps.specs.Steps.{unit, magnitude, negative, IsNumber}
use Rattle.steps.proofs.Round.{grid_mono, round_over}
use Rattle.steps.proofs.Signed.{sum_sign, sum_size}
use Rattle.steps.proofs.Compare.{steps_of_le, both_negative, across_zero, some_steps}
use Rattle.steps.proofs.Operations.{rounded, plain, difference, apart_sign, apart_size}
use Rattle.linear_transformation.specs.declared.LinearTransformation.{LinearTransformation}
use Rattle.linear_transformation.specs.Line.{invert_of}
use Rattle.conversions.specs.Constants.{v2_5}
use Rattle.conversions.specs.Constants as K
use Rattle.conversions.specs.Codes.{ad5627_code}
use Rattle.conversions.proofs.Cuts.{share}
use Rattle.interlock.specs.Level.{level_code}
use Rattle.interlock.specs.Order.{Rising, Falling}
use Rattle.interlock.proofs.Accepted.{half, full, Outcome, sent, below, above, whole, outcome, infinite, not_a_number}
use Rattle.interlock.proofs.Volts.{apart, slope, sign, rounded_apart, volts, Finite, volts_are, share_is}
use Rattle.interlock.proofs.Accepted as A

-- ---- more steps, no lower code

abbrev code_at : ℕ → ℕ → ℕ
code_at s w = grid binary32 (grid binary32 (grid binary32 w unit) s) (5 * half) * 2 ^ 12 / unit

-- nothing overflows on the way
record Under (s w : ℕ) : Type 0 where
  difference : grid binary32 w unit < overflow binary32
  quotient : grid binary32 (grid binary32 w unit) s < overflow binary32
  share : grid binary32 (grid binary32 (grid binary32 w unit) s) (5 * half) < overflow binary32

code_mono : (s w w' : ℕ) → 0 < s → Under s w' → w ≤ w' → code_at s w ≤ code_at s w'
code_mono s w w' S u h =
    let d = grid_mono w unit w' unit (pow_pos 149) (pow_pos 149) (mul-le-mul_right unit h) u.difference in
    let v = grid_mono (grid binary32 w unit) s (grid binary32 w' unit) s S S (mul-le-mul_right s d) u.quotient in
    let q = grid_mono (grid binary32 (grid binary32 w unit) s) (5 * half) (grid binary32 (grid binary32 w' unit) s) (5 * half) (lit< tt) (lit< tt) (mul-le-mul_right (5 * half) v) u.share in
    shr_mono 149 (mul-le-mul_right (2 ^ 12) q)

-- ---- signed numbers, lifted above zero by a k that is large enough

abbrev lifted : ℕ → Bool → ℕ → ℕ
lifted k false a = k + a
lifted k true a = k - a

-- the sum of two is 2 * k and the sum's size, up or down
abbrev Lift : ℕ → ℕ → Bool → ℕ → Type 0
Lift k both false w = both ≡ k + k + w
Lift k both true w = both + w ≡ k + k

sum_lifted : (k : ℕ) (s : Bool) (a : ℕ) (t : Bool) (b : ℕ) → a ≤ k → b ≤ k → Lift k (lifted k s a + lifted k t b) (sum_sign s a t b) (sum_size s a t b)
sum_lifted k false a false b p q = omega arith
sum_lifted k true a true b p q = omega arith
sum_lifted k false a true b p q = go (ltb a b) (ltb→lt a b) (nltb→le a b)
  where
    go : (l : Bool) → (T l → a < b) → (T (not l) → b ≤ a) → Lift k (k + a + (k - b)) (cond l true false) (cond l (b - a) (a - b))
    go true f g = let x = f tt in omega arith
    go false f g = let x = g tt in omega arith
sum_lifted k true a false b p q = go (ltb a b) (ltb b a) (ltb→lt a b) (nltb→le a b) (ltb→lt b a) (nltb→le b a)
  where
    go : (l m : Bool) → (T l → a < b) → (T (not l) → b ≤ a) → (T m → b < a) → (T (not m) → a ≤ b) → Lift k (k - a + (k + b)) (cond l false m) (cond l (b - a) (a - b))
    go true m f g h i = let x = f tt in omega arith
    go false true f g h i = let x = h tt in omega arith
    go false false f g h i = let x = g tt in let y = i tt in omega arith

le_lifted : (k : ℕ) (x y : Float) → IsNumber x → IsNumber y → T (le x y) → magnitude x ≤ k → magnitude y ≤ k → lifted k (negative x) (magnitude x) ≤ lifted k (negative y) (magnitude y)
le_lifted k x y p q t m n = go (negative x) (negative y) refl refl
  where
    go : (s u : Bool) → negative x ≡ s → negative y ≡ u → lifted k s (magnitude x) ≤ lifted k u (magnitude y)
    go false false e f = let h = steps_of_le x y p q e f t in omega arith
    go true false e f = omega arith
    go true true e f = let h = both_negative x y p q e f t in omega arith
    go false true e f = let h = across_zero x y p q e f t in omega (arith, h.0, h.1)

-- two sums in order: where the lower is not negative the higher is as large, and where the higher is not positive the lower is
abbrev Ordered : Bool → ℕ → Bool → ℕ → Type 0
Ordered σ w τ z = (σ ≡ false → ((τ ≡ false) × (w ≤ z)) ⊎ (w ≡ 0)) × (τ ≡ true → ((σ ≡ true) × (z ≤ w)) ⊎ (z ≡ 0))

ordered : (k a b : ℕ) (σ : Bool) (w : ℕ) (τ : Bool) (z : ℕ) → a ≤ b → Lift k a σ w → Lift k b τ z → Ordered σ w τ z
ordered k a b false w false z h p q = (λ e. inl (refl, omega arith), λ e. absurd (true≢false (sym e)))
ordered k a b false w true z h p q = (λ e. inr (omega arith), λ e. inr (omega arith))
ordered k a b true w false z h p q = (λ e. absurd (true≢false e), λ e. absurd (true≢false (sym e)))
ordered k a b true w true z h p q = (λ e. absurd (true≢false e), λ e. inl (refl, omega arith))

differences : (x y o : Float) → IsNumber x → IsNumber y → T (le x y) → Ordered (apart_sign x o) (apart_size x o) (apart_sign y o) (apart_size y o)
differences x y o p q t =
    let k = magnitude x + magnitude y + magnitude o in
    let m : magnitude x ≤ k = omega arith in
    let n : magnitude y ≤ k = omega arith in
    let r : magnitude o ≤ k = omega arith in
    let h = le_lifted k x y p q t m n in
    let u = lifted k (not (negative o)) (magnitude o) in
    ordered k (lifted k (negative x) (magnitude x) + u) (lifted k (negative y) (magnitude y) + u) (apart_sign x o) (apart_size x o) (apart_sign y o) (apart_size y o) (omega arith)
    (sum_lifted k (negative x) (magnitude x) (not (negative o)) (magnitude o) m r)
    (sum_lifted k (negative y) (magnitude y) (not (negative o)) (magnitude o) n r)

-- ---- what an accepted code tells of its level

data Found (l : LinearTransformation) (t : Float) (c : ℕ) : Type 0 where
  -- -0.0, or a slope that is an infinity
  nothing : c ≡ 0 → (T (finite l.slope) → sign l t ≡ true) → Found l t c
  counted : Finite l t → sign l t ≡ false → Under (slope l t) (apart l t) → c ≡ code_at (slope l t) (apart l t) → Found l t c

-- a finite difference has finite operands
sub_finite : (x y : Float) → T (finite (sub binary32 x y)) → T (finite x) × T (finite y)
unfolding sub
sub_finite nan y f = absurd f
sub_finite (inf s) nan f = absurd f
sub_finite (inf true) (inf true) f = absurd f
sub_finite (inf true) (inf false) f = absurd f
sub_finite (inf false) (inf true) f = absurd f
sub_finite (inf false) (inf false) f = absurd f
sub_finite (inf s) (fin t n d) f = absurd f
sub_finite (fin s m e) nan f = absurd f
sub_finite (fin s m e) (inf t) f = absurd f
sub_finite (fin s m e) (fin t n d) f = (tt, tt)

-- a finite quotient has a finite dividend, and a divisor that is a number other than zero; or the divisor is an infinity and the quotient zero
divided : (x y : Float) → T (fits binary32 y) → T (finite (div binary32 x y)) → T (finite x) × ((T (finite y) × (0 < magnitude y)) ⊎ ((T (finite y) → ⊥) × (magnitude (div binary32 x y) ≡ 0)))
unfolding div magnitude
divided nan y g f = absurd f
divided (inf s) nan g f = absurd f
divided (inf s) (inf t) g f = absurd f
divided (inf s) (fin t n d) g f = absurd f
divided (fin s m e) nan g f = absurd f
divided (fin s m e) (inf t) g f = (tt, inr (λ n. n, refl))
divided (fin s m e) (fin t zero d) g f = absurd (go (eqb m 0) f)
  where
    go : (b : Bool) → T (finite (cond b nan (inf (unlike s t)))) → ⊥
    go true f = f
    go false f = f
divided (fin s m e) (fin t (suc n) d) g f = (tt, inl (tt, some_steps t (suc n) d (zero-lt-suc n) g))

-- only a finite number of volts is accepted
accepted_finite : (v : Float) (c : ℕ) → ad5627_code v ≡ Some c → T (finite v)
accepted_finite nan c e = absurd (let z : ◌≡◌ {A = ℕ} 0 1 = cc (not_a_number, e) in omega arith)
accepted_finite (inf s) c e = absurd (let z : ◌≡◌ {A = ℕ} 0 1 = cc (infinite s, e) in omega arith)
accepted_finite (fin s m d) c e = tt

-- no steps, no code
grid_one : grid binary32 0 1 ≡ 0
unfolding size
grid_one = refl

grid_zero : (c : ℕ) → 0 < c → grid binary32 0 c ≡ 0
grid_zero c C = nil (grid binary32 0 c) (subst (λ (x : ℕ). grid binary32 0 c ≤ x) grid_one (grid_mono 0 c 0 1 C (lit< tt) (le_of_eq (sym (zero-mul c))) (rw grid_one (lit< tt))))
  where
    nil : (x : ℕ) → x ≤ 0 → x ≡ 0
    nil x h = omega arith

code_zero : (s : ℕ) → 0 < s → code_at s 0 ≡ 0
code_zero s S = rw (grid_zero unit (pow_pos 149), grid_zero s S, grid_zero (5 * half) (lit< tt))

no_share : (v : Float) → magnitude v ≡ 0 → share v2_5 v ≡ 0
no_share v z = rw (z, full) (grid_zero (5 * half) (lit< tt))

no_code : (v : Float) (c : ℕ) {a : Option ℕ} → Outcome v a → a ≡ Some c → magnitude v ≡ 0 → c ≡ 0
no_code v c (sent e h q b is) a z = (let i : b ≡ c = cc in sym i ∙ is ∙ rw (no_share v z))
no_code v c (A.nothing e h) a z = (let i : 0 ≡ c = cc in sym i)
no_code v c (below e h) a z = absurd (let i : ◌≡◌ {A = ℕ} 0 1 = cc in omega arith)
no_code v c (above e h) a z = absurd (let i : ◌≡◌ {A = ℕ} 0 1 = cc in omega arith)
no_code v c (whole e h) a z = absurd (let i : ◌≡◌ {A = ℕ} 0 1 = cc in omega arith)

module _ (l : LinearTransformation) (t : Float) (c : ℕ) (fits_t : T (fits binary32 t)) (fits_o : T (fits binary32 l.offset)) (fits_s : T (fits binary32 l.slope)) (e : level_code l t ≡ Some c) where
  finite_volts : T (finite (invert_of l t))
  finite_volts = accepted_finite (invert_of l t) c e

  -- an overflow would be an infinity
  no_overflow : (s : Bool) (a b : ℕ) → T (finite (round binary32 s a b)) → grid binary32 a b < overflow binary32
  no_overflow s a b f = lt_of_not-le (λ (h : overflow binary32 ≤ grid binary32 a b). subst (λ (z : Float). T (finite z)) (round_over s a b h) f)

  found_number : T (finite (sub binary32 t l.offset)) → T (finite l.slope) → 0 < magnitude l.slope → Found l t c
  found_number f g p =
      let (ft, fo) = sub_finite t l.offset f in
      let under = no_overflow (apart_sign t l.offset) (apart l t) unit (subst (λ (z : Float). T (finite z)) (difference t l.offset (fits_t, ft) (fits_o, fo)) f) in
      let way : Finite l t = record { threshold = (fits_t, ft); offset = (fits_o, fo); slope_number = (fits_s, g); slope_some = p; under = under } in
      let r = round binary32 (sign l t) (rounded_apart l t) (slope l t) in
      let volts_under = no_overflow (sign l t) (rounded_apart l t) (slope l t) (subst (λ (z : Float). T (finite z)) (volts_are l t way) finite_volts) in
      let (number, is_sign, is_size) = rounded (sign l t) (rounded_apart l t) (slope l t) volts_under in
      read way under volts_under r is_sign is_size (outcome r number) (ap ad5627_code (sym (volts_are l t way)) ∙ e)
    where
      read : Finite l t → rounded_apart l t < overflow binary32 → volts l t < overflow binary32 → (r : Float) → negative r ≡ sign l t → magnitude r ≡ volts l t
          → {a : Option ℕ} → Outcome r a → a ≡ Some c → Found l t c
      read way u v r is_sign is_size (sent n h q b is) a =
          let i : b ≡ c = cc in
          counted way (sym is_sign ∙ n) (record { difference = u; quotient = v; share = lt_of_le_of_lt (rw (share_is l t r is_size) at q) (lit< tt) }) (sym i ∙ rw (share_is l t r is_size) at is)
      read way u v r is_sign is_size (A.nothing n h) a = (let i : 0 ≡ c = cc in nothing (sym i) (λ _. sym is_sign ∙ n))
      read way u v r is_sign is_size (below n h) a = absurd (let i : ◌≡◌ {A = ℕ} 0 1 = cc in omega arith)
      read way u v r is_sign is_size (above n h) a = absurd (let i : ◌≡◌ {A = ℕ} 0 1 = cc in omega arith)
      read way u v r is_sign is_size (whole n h) a = absurd (let i : ◌≡◌ {A = ℕ} 0 1 = cc in omega arith)

  -- its threshold is a number
  threshold_number : IsNumber t
  threshold_number = (fits_t, (sub_finite t l.offset (divided (sub binary32 t l.offset) l.slope fits_s finite_volts).0).0)

  found : Found l t c
  found = go (divided (sub binary32 t l.offset) l.slope fits_s finite_volts)
    where
      go : T (finite (sub binary32 t l.offset)) × ((T (finite l.slope) × (0 < magnitude l.slope)) ⊎ ((T (finite l.slope) → ⊥) × (magnitude (invert_of l t) ≡ 0))) → Found l t c
      go (f, inl (g, p)) = found_number f g p
      go (f, inr (g, z)) = nothing (no_code (invert_of l t) c (outcome (invert_of l t) (div-fits binary32 (sub binary32 t l.offset) l.slope, finite_volts)) e z) (λ n. absurd (g n))

-- ---- the sign of a slope

positive_slope : (x : Float) → T (lt K.zero x) → negative x ≡ false
unfolding lt of_bits negative
positive_slope nan t = absurd t
positive_slope (inf true) t = absurd t
positive_slope (inf false) t = refl
positive_slope (fin true m d) t = absurd t
positive_slope (fin false m d) t = refl

negative_slope : (x : Float) → T (lt x K.zero) → negative x ≡ true
unfolding lt of_bits negative
negative_slope nan t = absurd t
negative_slope (inf true) t = refl
negative_slope (inf false) t = absurd t
negative_slope (fin true m d) t = refl
negative_slope (fin false m d) t = absurd (none (m * up d * 1) (down d) (ltb→lt (m * up d * 1) (0 * down d) t))
  where
    none : (x c : ℕ) → x < 0 * c → ⊥
    none x c h = let z = zero-mul c in omega arith

same_sign : (s n b : Bool) → n ≡ false → unlike s n ≡ b → s ≡ b
same_sign s n b e f = sym (plain s) ∙ ap (λ (z : Bool). unlike s z) (sym e) ∙ f

same_back : (s n b : Bool) → n ≡ false → s ≡ b → unlike s n ≡ b
same_back s n b e f = ap (λ (z : Bool). unlike s z) e ∙ plain s ∙ f

other : (s : Bool) → unlike s true ≡ not s
other true = refl
other false = refl

other_sign : (s n : Bool) → n ≡ true → unlike s n ≡ false → s ≡ true
other_sign s n e f = go s (sym (other s) ∙ ap (λ (z : Bool). unlike s z) (sym e) ∙ f)
  where
    go : (s : Bool) → not s ≡ false → s ≡ true
    go true f = refl
    go false f = absurd (true≢false f)

other_back : (s n : Bool) → n ≡ true → s ≡ true → unlike s n ≡ false
other_back s n e f = ap (λ (z : Bool). unlike s z) e ∙ other s ∙ ap not f

-- ---- the two laws

module _ (l : LinearTransformation) (t u : Float) (a b : ℕ) where
  -- the level with the higher count has a code that is no lower
  in_order : Found l t a → Found l u b → (sign l t ≡ false → ((sign l u ≡ false) × (apart l t ≤ apart l u)) ⊎ (apart l t ≡ 0)) → a ≤ b
  in_order (nothing z why) f h = subst (λ (x : ℕ). x ≤ b) (sym z) zero-le
  in_order (counted way n under is) f h = go f (h n)
    where
      go : Found l u b → ((sign l u ≡ false) × (apart l t ≤ apart l u)) ⊎ (apart l t ≡ 0) → a ≤ b
      go (counted way' n' under' is') (inl (m, more)) = rw (is, is') (code_mono (slope l t) (apart l t) (apart l u) way.slope_some under' more)
      go (counted way' n' under' is') (inr z) = le_trans (le_of_eq (is ∙ ap (code_at (slope l t)) z ∙ code_zero (slope l t) way.slope_some)) zero-le
      go (nothing z' why) (inl (m, more)) = absurd (true≢false (sym (why way.slope_number.1) ∙ m))
      go (nothing z' why) (inr z) = le_trans (le_of_eq (is ∙ ap (code_at (slope l t)) z ∙ code_zero (slope l t) way.slope_some)) zero-le

pub rising : Rising level_code
rising l t u a b f s le_tu p q =
    let n = positive_slope l.slope s in
    let o = differences t u l.offset (threshold_number l t a f.low f.offset f.slope p) (threshold_number l u b f.high f.offset f.slope q) le_tu in
    in_order l t u a b (found l t a f.low f.offset f.slope p) (found l u b f.high f.offset f.slope q) (λ e. go n (o.0 (same_sign (apart_sign t l.offset) (negative l.slope) false n e)))
  where
    go : negative l.slope ≡ false → ((apart_sign u l.offset ≡ false) × (apart l t ≤ apart l u)) ⊎ (apart l t ≡ 0) → ((sign l u ≡ false) × (apart l t ≤ apart l u)) ⊎ (apart l t ≡ 0)
    go n (inl (e, h)) = inl (same_back (apart_sign u l.offset) (negative l.slope) false n e, h)
    go n (inr z) = inr z

pub falling : Falling level_code
falling l t u a b f s le_tu p q =
    let n = negative_slope l.slope s in
    let o = differences t u l.offset (threshold_number l t a f.low f.offset f.slope p) (threshold_number l u b f.high f.offset f.slope q) le_tu in
    in_order l u t b a (found l u b f.high f.offset f.slope q) (found l t a f.low f.offset f.slope p) (λ e. go n (o.1 (other_sign (apart_sign u l.offset) (negative l.slope) n e)))
  where
    go : negative l.slope ≡ true → ((apart_sign t l.offset ≡ true) × (apart l u ≤ apart l t)) ⊎ (apart l u ≡ 0) → ((sign l t ≡ false) × (apart l u ≤ apart l t)) ⊎ (apart l u ≡ 0)
    go n (inl (e, h)) = inl (other_back (apart_sign t l.offset) (negative l.slope) n e, h)
    go n (inr z) = inr z
