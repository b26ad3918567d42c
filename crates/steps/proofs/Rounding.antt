-- `Rounded` is the rounding that `lib.Ieee` makes of every fraction (`every_fraction`), and it determines its result (`one_result`). Assumes nothing.
use mathlib.Core.Path.{◌≡◌, refl, sym, ap, ◌∙◌, subst}
use mathlib.Core.Logic.{◌⊎◌, inl, inr}
use Prim.Native.Nat.{ℕ, suc, ◌+◌, ◌-◌, ◌*◌, ◌/◌, ◌%◌, ◌^◌, ◌≤◌, ◌<◌, compare}
use native.Mathlib.Nat.{mul_assoc, mul_comm, mul_left_comm, mul-one, mul-pos, mul-le-mul_left, mul-le-mul_right, mul-lt-mul_of_pos_right, le_trans, le_of_eq, le_of_lt, le_antisymm, le_of_suc-le-suc, lt_of_lt_of_le, lt_of_le_of_lt, lt_of_not-le, not-le_of_lt, lt_of_mul-lt-mul_right, le_of_mul-le-mul_right, le-div_iff_mul-le, div-div-eq-div-mul, pow-succ'}
use native.Mathlib.Decide.{dec_le, dec_lt}
use native.Mathlib.Omega.{arith}
use mathlib.Core.Bool.{Bool, false, cond}
use lib.Dec.{T, lit<}
use lib.Pow.{pow-add, pow_pos, pow_mono, pow-lt}
use lib.Ieee.{Float, nan, inf, fin, binary32, size, round, le, of_bits, to_bits}
use lib.Ieee.Fits.{nearest-le, kept-lt}
use lib.Ieee.Nearest.{nearest-ge}
use lib.Ieee.Order.{drop, kept, round_mono}
use lib.Ieee.Bits.{of_bits-to_bits}
use lib.Ieee.Scale.{grid, overflow, finite}
use Rattle.steps.specs.Steps.{unit, magnitude, negative, IsNumber, gap}
use Rattle.steps.specs.Rounding.{Size, Nearest, too_large, OneResult, EveryFraction}
use Rattle.steps.proofs.Closest.{Half, closest_half, closest_least, apart}
use Rattle.steps.proofs.Apart.{in_units, few}
use Rattle.steps.proofs.Round.{coarse, regroup, round_at, round_over, not_under}
use Rattle.steps.proofs.Sizes.{reach_of}
use Rattle.steps.proofs.Operations.{rounded}

-- ---- units of 2 ^ k steps beside an f32 of m * 2 ^ b steps

-- with a smaller unit it lies below 2 ^ 23 of them
finer : (m b k : ℕ) → m < 2 ^ 24 → b < k → m * 2 ^ b < 2 ^ 23 * 2 ^ k
finer m b k h l =
    let x = few m (2 ^ b) h in
    let p = pow_pos b in
    let y : 2 ^ 23 * 2 ^ suc b ≤ 2 ^ 23 * 2 ^ k = mul-le-mul_left (2 ^ 23) (pow_mono l) in
    let z : 2 ^ suc b ≡ 2 * 2 ^ b = pow-succ' 2 b in
    omega arith

finer_over : (m b k d : ℕ) → 0 < d → m < 2 ^ 24 → b < k → m * 2 ^ b * d < 2 ^ 23 * (d * 2 ^ k)
finer_over m b k d D h l = lt_of_lt_of_le (mul-lt-mul_of_pos_right (finer m b k h l) D) (le_of_eq (regroup (2 ^ 23) k d))

-- and otherwise it is a whole number of them
whole_over : (m b k d : ℕ) → k ≤ b → m * 2 ^ b * d ≡ m * 2 ^ (b - k) * (d * 2 ^ k)
whole_over m b k d h = ap (λ (z : ℕ). z * d) (in_units m b k h) ∙ regroup (m * 2 ^ (b - k)) k d

-- ---- no f32 is nearer than q units, and where one is as near q is even

module _ (n d q k : ℕ) (D : 0 < d) (c : (k ≡ 0) ⊎ (2 ^ 23 * (d * 2 ^ k) ≤ n)) (h : Half n (d * 2 ^ k) q) (l : (j : ℕ) → gap (q * (d * 2 ^ k)) n ≤ gap (j * (d * 2 ^ k)) n) where
  -- an f32 with a smaller unit is further off
  further : (m b : ℕ) → m < 2 ^ 24 → b < k → gap (q * (d * 2 ^ k)) n < gap (m * 2 ^ b * d) n
  further m b f g = go c
    where
      go : (k ≡ 0) ⊎ (2 ^ 23 * (d * 2 ^ k) ≤ n) → gap (q * (d * 2 ^ k)) n < gap (m * 2 ^ b * d) n
      go (inl z) = absurd (omega arith)
      go (inr u) =
          let x = l (2 ^ 23) in
          let y = finer_over m b k d D f g in
          omega arith

  least : (m b : ℕ) → m < 2 ^ 24 → gap (q * (d * 2 ^ k)) n ≤ gap (m * 2 ^ b * d) n
  least m b f = elim (dec_le k b) [
    | yes g ↦ le_trans (l (m * 2 ^ (b - k))) (le_of_eq (ap (λ (z : ℕ). gap z n) (sym (whole_over m b k d g))))
    | no g ↦ le_of_lt (further m b f (omega arith))
  ]

  other : (j : ℕ) → gap (q * (d * 2 ^ k)) n ≡ gap (j * (d * 2 ^ k)) n → (j ≡ q) ⊎ (q % 2 ≡ 0)
  other j e = elim (dec_lt j q) [
    | yes g ↦ (let a = apart (d * 2 ^ k) j q g in inr (h.even (omega arith)))
    | no g ↦ elim (dec_lt q j) [
      | yes o ↦ (let a = apart (d * 2 ^ k) q j o in inr (h.even (omega arith)))
      | no o ↦ inl (omega arith)
    ]
  ]

  even : (m b : ℕ) → m < 2 ^ 24 → gap (q * (d * 2 ^ k)) n ≡ gap (m * 2 ^ b * d) n → (m * 2 ^ b ≡ q * 2 ^ k) ⊎ (q % 2 ≡ 0)
  even m b f e = elim (dec_le k b) [
    | yes g ↦ same g (other (m * 2 ^ (b - k)) (e ∙ ap (λ (z : ℕ). gap z n) (whole_over m b k d g)))
    | no g ↦ absurd (let x = further m b f (omega arith) in omega arith)
  ]
    where
      same : k ≤ b → (m * 2 ^ (b - k) ≡ q) ⊎ (q % 2 ≡ 0) → (m * 2 ^ b ≡ q * 2 ^ k) ⊎ (q % 2 ≡ 0)
      same g (inl e) = inl (in_units m b k g ∙ ap (λ (z : ℕ). z * 2 ^ k) e)
      same g (inr e) = inr e

-- ---- the digits of q units: q itself, or half of it in units twice as large where it is 2 ^ 24

digits_of : (q k : ℕ) → q ≤ 2 ^ 24 → (k ≡ 0) ⊎ (2 ^ 23 ≤ q) → q * 2 ^ k < overflow binary32 → (z : Size (q * 2 ^ k)) × (q % 2 ≡ 0 → z.m % 2 ≡ 0)
digits_of q k f g u = elim (dec_lt q (2 ^ 24)) [
  | yes l ↦ (record { m = q; b = k; is = refl; few = l; full = g; reach = reach g }, λ (e : q % 2 ≡ 0). e)
  | no l ↦
      (let e : q ≡ 2 ^ 24 = omega arith in
      let is : q * 2 ^ k ≡ 2 ^ 23 * 2 ^ suc k = ap (λ (z : ℕ). z * 2 ^ k) e ∙ mul_assoc (2 ^ 23) 2 (2 ^ k) ∙ ap (λ (z : ℕ). 2 ^ 23 * z) (sym (pow-succ' 2 k)) in
      (record { m = 2 ^ 23; b = suc k; is = is; few = lit< tt; full = inr (le_of_eq refl); reach = reach_of (2 ^ 23) (suc k) (le_of_eq refl) (rw is at u) }, λ (e : q % 2 ≡ 0). refl))
]
  where
    reach : (k ≡ 0) ⊎ (2 ^ 23 ≤ q) → k ≤ 253
    reach (inl z) = omega arith
    reach (inr h) = reach_of q k h u

-- ---- what is kept of a fraction has 24 digits or is 2 ^ 24

kept_le : (n d : ℕ) → kept 24 n d ≤ 2 ^ 24
kept_le n d =
    let k = drop 24 n d in
    let u = d * 2 ^ k in
    le_trans (nearest-le (n / u) (compare (n % u * 2) u)) (subst (λ (x : ℕ). x < 2 ^ 24) (div-div-eq-div-mul n d (2 ^ k)) (kept-lt 24 (n / d)))

kept_ge : (n d : ℕ) → 0 < d → (drop 24 n d ≡ 0) ⊎ (2 ^ 23 * (d * 2 ^ drop 24 n d) ≤ n) → (drop 24 n d ≡ 0) ⊎ (2 ^ 23 ≤ kept 24 n d)
kept_ge n d D (inl z) = inl z
kept_ge n d D (inr c) =
    let u = d * 2 ^ drop 24 n d in
    inr (le_trans ((le-div_iff_mul-le (mul-pos D (pow_pos (drop 24 n d)))).1 c) (nearest-ge (n / u) (compare (n % u * 2) u)))

nearest : (a c : ℕ) → 0 < c → grid binary32 a c < overflow binary32 → Nearest (a * unit) c (grid binary32 a c)
nearest a c C under =
    let n = a * unit in
    let k = drop 24 n c in
    let q = kept 24 n c in
    let U : 0 < c * 2 ^ k = mul-pos C (pow_pos k) in
    let s = coarse n c k C refl in
    let z = digits_of q k (kept_le n c) (kept_ge n c C s) under in
    let h = closest_half n (c * 2 ^ k) U in
    let l : (j : ℕ) → gap (q * (c * 2 ^ k)) n ≤ gap (j * (c * 2 ^ k)) n = λ (j : ℕ). closest_least n (c * 2 ^ k) j U in
    record {
      size = z.0;
      least = λ (y : ℕ) (w : Size y). rw (w.is, regroup q k c) (least n c q k C s h l w.m w.b w.few);
      even = λ (y : ℕ) (w : Size y) (e : gap (q * 2 ^ k * c) n ≡ gap (y * c) n). tie q z.0 z.1 w.is (even n c q k C s h l w.m w.b w.few (rw (w.is, regroup q k c) at e));
    }
  where
    tie : (q : ℕ) {r x : ℕ} (z : Size r) → (q % 2 ≡ 0 → z.m % 2 ≡ 0) → {y : ℕ} → y ≡ x → (x ≡ r) ⊎ (q % 2 ≡ 0) → (y ≡ r) ⊎ (z.m % 2 ≡ 0)
    tie q z f e (inl i) = inl (e ∙ i)
    tie q z f e (inr i) = inr (f i)

-- ---- from halfway past the largest f32 on there is no number left

-- the halfway point itself is a tie, and 2 ^ 128 is the even neighbour
at_halfway : grid binary32 (2 ^ 128 - 2 ^ 103) 1 ≡ overflow binary32
unfolding size
at_halfway = refl

over : (a c : ℕ) → 0 < c → too_large * c ≤ a * unit → overflow binary32 ≤ grid binary32 a c
over a c C h = le_of_suc-le-suc (lt_of_not-le (λ (l : grid binary32 a c < overflow binary32). not_under (round binary32 false a c) (grid binary32 a c) unit (round_at false a c l) (above l)))
  where
    cross : (2 ^ 128 - 2 ^ 103) * c ≤ a * 1
    cross = le_of_mul-le-mul_right (le_trans (le_of_eq (mul_assoc (2 ^ 128 - 2 ^ 103) c unit ∙ ap (λ (z : ℕ). (2 ^ 128 - 2 ^ 103) * z) (mul_comm c unit) ∙ sym (mul_assoc (2 ^ 128 - 2 ^ 103) unit c))) (le_trans h (le_of_eq (ap (λ (z : ℕ). z * unit) (sym (mul-one a)))))) (pow_pos 149)

    above : grid binary32 a c < overflow binary32 → T (le (inf false) (round binary32 false a c))
    above l = rw (round_over false (2 ^ 128 - 2 ^ 103) 1 (le_of_eq (sym at_halfway))) at (round_mono binary32 (2 ^ 128 - 2 ^ 103) 1 a c (lit< tt) C cross)

-- below it there is: 2 ^ 24 units of 2 ^ 253 steps are half a unit more at most
top : (n u v t x : ℕ) → u ≡ 2 * v → t ≡ 33554431 * v → 2 * x ≤ 2 * n + u → 16777216 * u ≤ x → t ≤ n
top n u v t x p q h l = omega arith

at_top : (n d q : ℕ) → Half n (d * 2 ^ 253) q → overflow binary32 ≤ q * 2 ^ 253 → too_large * d ≤ n
at_top n d q h o =
    let q24 : 2 ^ 24 ≤ q = le_of_mul-le-mul_right o (pow_pos 253) in
    top n (d * 2 ^ 253) (d * 2 ^ 252) (too_large * d) (q * (d * 2 ^ 253)) (mul_left_comm d 2 (2 ^ 252)) (regroup 33554431 252 d) h.over (mul-le-mul_right (d * 2 ^ 253) q24)

large : (n d q k : ℕ) → q ≤ 2 ^ 24 → (k ≡ 0) ⊎ (2 ^ 23 * (d * 2 ^ k) ≤ n) → Half n (d * 2 ^ k) q → overflow binary32 ≤ q * 2 ^ k → too_large * d ≤ n
large n d q k f c h o = elim (dec_le 254 k) [
  | yes g ↦ beyond g c
  | no g ↦
      (let reach : 253 < suc k = lt_of_not-le (λ (l : suc k ≤ 253). not-le_of_lt (lower l) o) in
      let e : k ≡ 253 = omega arith in
      at_top n d q (subst (λ (z : ℕ). Half n (d * 2 ^ z) q) e h) (subst (λ (z : ℕ). overflow binary32 ≤ q * 2 ^ z) e o))
]
  where
    beyond : 254 ≤ k → (k ≡ 0) ⊎ (2 ^ 23 * (d * 2 ^ k) ≤ n) → too_large * d ≤ n
    beyond g (inl z) = absurd (omega arith)
    beyond g (inr u) =
        le_trans (mul-le-mul_right d (le_of_lt (lit< tt)))
        (le_trans (le_of_eq (regroup (2 ^ 23) 254 d)) (le_trans (mul-le-mul_left (2 ^ 23) (mul-le-mul_left d (pow_mono g))) u))

    lower : k < 253 → q * 2 ^ k < overflow binary32
    lower l = lt_of_le_of_lt (mul-le-mul_right (2 ^ k) f) (lt_of_le_of_lt (le_of_eq (sym (pow-add 2 24 k))) (pow-lt {j = 277} (omega arith)))

under : (a c : ℕ) → 0 < c → a * unit < too_large * c → grid binary32 a c < overflow binary32
under a c C h =
    let n = a * unit in
    let k = drop 24 n c in
    lt_of_not-le (λ (o : overflow binary32 ≤ grid binary32 a c). not-le_of_lt h (large n c (kept 24 n c) k (kept_le n c) (coarse n c k C refl) (closest_half n (c * 2 ^ k) (mul-pos C (pow_pos k))) o))

-- ---- the rounding of `lib.Ieee`

pub every_fraction : EveryFraction
every_fraction s a c C = record { number = number; infinite = λ (h : too_large * c ≤ a * unit). round_over s a c (over a c C h) }
  where
    number : a * unit < too_large * c → IsNumber (round binary32 s a c) × (negative (round binary32 s a c) ≡ s) × Nearest (a * unit) c (magnitude (round binary32 s a c))
    number h =
        let u = under a c C h in
        let (is, sign, steps) = rounded s a c u in
        (is, sign, rw steps (nearest a c C u))

-- ---- one result

even_times : (m x : ℕ) → m % 2 ≡ 0 → (m * x) % 2 ≡ 0
even_times m x e =
    let h : m ≡ 2 * (m / 2) = omega arith in
    let g : m * x ≡ 2 * (m / 2 * x) = ap (λ (z : ℕ). z * x) h ∙ mul_assoc 2 (m / 2) x in
    omega arith

-- of two f32 with even digits the next after the lower, in its own unit, lies below the upper
next_below : (m b w a : ℕ) → (b ≡ 0) ⊎ (2 ^ 23 ≤ m) → w < 2 ^ 24 → m % 2 ≡ 0 → w % 2 ≡ 0 → m * 2 ^ b < w * 2 ^ a → suc m * 2 ^ b < w * 2 ^ a
next_below m b w a full few e f h = elim (dec_le b a) [
  | yes l ↦
      (let is = in_units w a b l in
      let j : m < w * 2 ^ (a - b) = lt_of_mul-lt-mul_right (2 ^ b) (rw is at h) in
      let g = even_times w (2 ^ (a - b)) f in
      rw is (mul-lt-mul_of_pos_right (odd_between m (w * 2 ^ (a - b)) e g j) (pow_pos b)))
  | no l ↦ absurd (small full (omega arith))
]
  where
    odd_between : (m j : ℕ) → m % 2 ≡ 0 → j % 2 ≡ 0 → m < j → suc m < j
    odd_between m j e g h = omega arith

    small : (b ≡ 0) ⊎ (2 ^ 23 ≤ m) → a < b → ⊥
    small (inl z) g = omega arith
    small (inr k) g =
        let x = mul-le-mul_right (2 ^ b) k in
        let y = finer w a b few g in
        omega arith

-- so that they are not both nearest: the next is nearer
never : (n d r t : ℕ) → 0 < d → Nearest n d r → Nearest n d t → r < t → ⊥
never n d r t D p q h =
    let y = p.size in
    let z = q.size in
    let tied : gap (r * d) n ≡ gap (t * d) n = le_antisymm (p.least t z) (q.least r y) in
    let e : y.m % 2 ≡ 0 = elim (p.even t z tied) [ inl i ↦ absurd (omega arith) | inr i ↦ i ] in
    let f : z.m % 2 ≡ 0 = elim (q.even r y (sym tied)) [ inl i ↦ absurd (omega arith) | inr i ↦ i ] in
    let next = suc y.m * 2 ^ y.b in
    let above : r < next = rw y.is (mul-lt-mul_of_pos_right (le_of_eq refl) (pow_pos y.b)) in
    let below : next < t = rw z.is (next_below y.m y.b z.m z.b y.full z.few e f (rw (y.is, z.is) at h)) in
    let few : suc y.m < 2 ^ 24 = (let g = y.few in omega arith) in
    let l = p.least next (record { m = suc y.m; b = y.b; is = refl; few = few; full = longer y.full; reach = y.reach }) in
    let u = mul-lt-mul_of_pos_right above D in
    let v = mul-lt-mul_of_pos_right below D in
    omega arith
  where
    longer : {b m : ℕ} → (b ≡ 0) ⊎ (2 ^ 23 ≤ m) → (b ≡ 0) ⊎ (2 ^ 23 ≤ suc m)
    longer (inl e) = inl e
    longer (inr l) = inr (omega arith)

one_size : (n d r t : ℕ) → 0 < d → Nearest n d r → Nearest n d t → r ≡ t
one_size n d r t D p q = elim (dec_lt r t) [
  | yes l ↦ absurd (never n d r t D p q l)
  | no l ↦ elim (dec_lt t r) [ yes g ↦ absurd (never n d t r D q p g) | no g ↦ omega arith ]
]

-- a finite f32 has its pattern by its sign and its steps
pattern : Bool → ℕ → ℕ
unfolding size
pattern s r = let k = size r - 24 in cond s (2 ^ 31) 0 + k * 2 ^ 23 + r / 2 ^ k

pattern_of : (x : Float) → T (finite x) → to_bits binary32 x ≡ pattern (negative x) (magnitude x)
unfolding to_bits magnitude negative pattern
pattern_of nan f = absurd f
pattern_of (inf s) f = absurd f
pattern_of (fin s m e) f = refl

one_number : (x y : Float) → IsNumber x → IsNumber y → negative x ≡ negative y → magnitude x ≡ magnitude y → x ≡ y
one_number x y p q s r =
    sym (of_bits-to_bits binary32 x p.0)
    ∙ ap (λ (z : ℕ). of_bits binary32 z) (pattern_of x p.1 ∙ ap (λ (z : Bool). pattern z (magnitude x)) s ∙ ap (λ (z : ℕ). pattern (negative y) z) r ∙ sym (pattern_of y q.1))
    ∙ of_bits-to_bits binary32 y q.0

pub one_result : OneResult
one_result s n d D x y p q = elim (dec_lt n (too_large * d)) [
  | yes l ↦
      (let (a, b, c) = p.number l in
      let (e, f, g) = q.number l in
      one_number x y a e (b ∙ sym f) (one_size n d (magnitude x) (magnitude y) D c g))
  | no l ↦ (let h : too_large * d ≤ n = le_of_suc-le-suc (lt_of_not-le l) in p.infinite h ∙ sym (q.infinite h))
]
