-- Demand 3 holds of the code that is sent for a level (`demand_3`): for both signs of the slope, for subnormal numbers, for zeros of either sign, and where the quotient overflows or vanishes.
-- Assumes nothing.
use Rattle.std.specs.Prelude.{Option}
use mathlib.Core.Path.{◌≡◌, refl, sym, ap, ◌∙◌, subst}
use mathlib.Core.Logic.{inl, inr}
use Prim.Native.Nat.{ℕ, suc, ◌+◌, ◌-◌, ◌*◌, ◌/◌, ◌^◌, ◌≤◌, ◌<◌}
use native.Mathlib.Nat.{lt_of_lt_of_le, lt_of_not-le, le_of_suc-le-suc, mul_left_comm, zero-mul, div-mul-le_self, div-lt_iff_lt-mul, lt-suc_self}
use native.Mathlib.Decide.{dec_lt}
use native.Mathlib.Omega.{arith}
use mathlib.Core.Bool.{Bool, true, false, not, beq, cond}
use lib.IntN.{ℤ, pos, ◌*ℤ◌}
use lib.Dec.{ltb, lit<, lit≤}
use lib.Pow.{pow_pos}
use lib.Ieee.{Float, binary32, unlike, round}
use lib.Ieee.Scale.{overflow}
use Rattle.steps.specs.Steps.{unit, magnitude, negative, signed, Relative}
use Rattle.steps.proofs.Round.{round_over, half_step, whole_step}
use Rattle.steps.proofs.Signed.{sum_size, negated, scaled, le_pos, lt_pos, lt_signed, lt_zero, le_less}
use Rattle.steps.proofs.Operations.{rounded, plain, apart_sign, apart_is}
use Rattle.linear_transformation.specs.declared.LinearTransformation.{LinearTransformation}
use Rattle.linear_transformation.specs.Line.{invert_of}
use Rattle.conversions.specs.Codes.{ad5627_code}
use Rattle.interlock.specs.Level.{level_code}
use Rattle.interlock.specs.Demand3.{Given, turned, num, Close, OutOfRange, Answers, Demand3}
use Rattle.interlock.proofs.Accepted.{half, Outcome, sent, nothing, below, above, whole, outcome, infinite}
use Rattle.interlock.proofs.Volts.{apart, slope, sign, rounded_apart, volts, shares, Finite, volts_are, share_is}
use Rattle.interlock.proofs.Numbers.{WholePart, Facts, facts}

-- ---- the count by its sign and its size

turn : (s t : Bool) (n : ℕ) → turned t (signed s n) ≡ signed (unlike s t) n
turn s false n = ap (λ (z : Bool). signed z n) (sym (plain s))
turn true true n = negated true n
turn false true n = negated false n

-- ---- a difference of numbers of at most b steps each is at most twice as large

size_le : (s : Bool) (a : ℕ) (t : Bool) (c b : ℕ) → a ≤ b → c ≤ b → sum_size s a t c ≤ b + b
size_le s a t c b p q = go (beq s t) (ltb a c)
  where
    go : (e l : Bool) → cond e (a + c) (cond l (c - a) (a - c)) ≤ b + b
    go true l = omega arith
    go false true = omega arith
    go false false = omega arith

-- so that rounded it is less than four times as large
less : (w d b : ℕ) → Relative w d → 0 < b → w ≤ b + b → d < 4 * b
less w d b r p h = omega (arith, r.over)

module _ (l : LinearTransformation) (t : Float) (g : Given l t) where
  abbrev w : ℕ
  w = apart l t

  abbrev s : ℕ
  s = slope l t

  -- the rounded difference does not overflow
  way : Finite l t
  way = record {
    threshold = g.threshold_finite;
    offset = g.offset_finite;
    slope_number = g.slope_finite;
    slope_some = g.slope_not_zero;
    under = lt_of_lt_of_le (less w (rounded_apart l t) (2 ^ 126 * unit) (whole_step w) (lit< tt)
        (size_le (negative t) (magnitude t) (not (negative l.offset)) (magnitude l.offset) (2 ^ 126 * unit) g.threshold_size g.offset_size)) (lit≤ tt);
  }

  num_is : num l t ≡ signed (sign l t) (8192 * w)
  num_is =
      ap (λ (z : ℤ). turned (negative l.slope) (pos 8192 *ℤ z)) (apart_is t l.offset)
      ∙ ap (λ (z : ℤ). turned (negative l.slope) z) (scaled 8192 (apart_sign t l.offset) w)
      ∙ turn (apart_sign t l.offset) (negative l.slope) (8192 * w)

  fact : Facts w (volts l t) (shares l t) s unit half
  fact =
      facts w (rounded_apart l t) (volts l t) (shares l t) s half unit refl (pow_pos 148) (lit≤ tt) (whole_step w)
      (half_step (rounded_apart l t) s g.slope_not_zero) (half_step (volts l t) (5 * half) (lit< tt)) g.slope_not_zero

  -- ---- the two halves, from inequalities of numbers

  counted : (b : Bool) → sign l t ≡ b → num l t ≡ signed b (8192 * w)
  counted b e = num_is ∙ ap (λ (z : Bool). signed z (8192 * w)) e

  close : (c : ℕ) → sign l t ≡ false → c * (5 * s) ≡ 5 * (c * s) → 5120 * (c * s) ≤ 8388608 * w + 5 * s → 8388608 * w < 5120 * (c * s) + 5125 * s → Close l t c
  close c e x m n = record { above = rw (counted false e) (lt_pos (omega arith)); at_most = rw (counted false e) (le_pos (omega arith)) }

  close_zero : sign l t ≡ true → 0 * (5 * s) ≡ 0 → 8388608 * w ≤ 5 * s → 0 < s → Close l t 0
  close_zero e x m p = record {
    above = rw (counted true e, scaled 1024 true (8192 * w)) (lt_signed (1024 * (8192 * w)) (1024 * (0 * (5 * s)) + 1025 * (5 * s)) (omega arith));
    at_most = rw (counted true e, scaled 1024 true (8192 * w)) (le_less (1024 * (0 * (5 * s))) (1024 * (8192 * w)) (5 * s) (omega arith));
  }

  out_above : sign l t ≡ false → 20971515 * s < 8388608 * w → OutOfRange l t
  out_above e h = inr (rw (counted false e) (lt_pos (omega arith)))

  out_below : sign l t ≡ true → 0 < w → OutOfRange l t
  out_below e h = inl (rw (counted true e) (lt_zero (8192 * w) (omega arith)))

  -- ---- volts that do not overflow: a number r of so many steps

  part : (q c : ℕ) → c ≡ q * 2 ^ 12 / unit → WholePart unit q c
  part q c is = record {
    low = subst (λ (z : ℕ). z * unit ≤ q * 4096) (sym is) (div-mul-le_self (q * 4096) unit);
    high = (div-lt_iff_lt-mul (pow_pos 149)).0 (subst (λ (z : ℕ). z < suc c) is (lt-suc_self c));
  }

  module _ (r : Float) (is_sign : negative r ≡ sign l t) (is_size : magnitude r ≡ volts l t) where
    answers : {a : Option ℕ} → Outcome r a → Answers l t a
    answers (sent e h q c is) =
        let p = part (shares l t) c (rw (share_is l t r is_size) at is) in
        let within = rw (share_is l t r is_size) at q in
        close c (sym is_sign ∙ e) (mul_left_comm c 5 s) (fact.code_at_most c p within) (fact.code_above c p within)
    answers (nothing e z) = close_zero (sym is_sign ∙ e) (zero-mul (5 * s)) (fact.vanished (sym is_size ∙ z)) g.slope_not_zero
    answers (below e h) = out_below (sym is_sign ∙ e) (fact.some_level (rw is_size at h))
    answers (above e h) = out_above (sym is_sign ∙ e) (fact.volts_out (rw is_size at h))
    answers (whole e h) = out_above (sym is_sign ∙ e) (fact.share_out (rw (share_is l t r is_size) at h))

  -- ---- volts that overflow are refused, whatever their sign

  overflowed : overflow binary32 ≤ volts l t → (b : Bool) → sign l t ≡ b → OutOfRange l t
  overflowed h false e = out_above e (fact.volts_out (lt_of_lt_of_le (lit< tt) h))
  overflowed h true e = out_below e (fact.some_level (lt_of_lt_of_le (lit< tt) h))

  right : Answers l t (ad5627_code (invert_of l t))
  right = go (dec_lt (volts l t) (overflow binary32))
    where
      r : Float
      r = round binary32 (sign l t) (rounded_apart l t) s

      go : Dec (volts l t < overflow binary32) → Answers l t (ad5627_code (invert_of l t))
      go (yes h) = let (number, is_sign, is_size) = rounded (sign l t) (rounded_apart l t) s h in rw (volts_are l t way) (answers r is_sign is_size (outcome r number))
      go (no h) = let over = le_of_suc-le-suc (lt_of_not-le h) in rw (volts_are l t way, round_over (sign l t) (rounded_apart l t) s over, infinite (sign l t)) (overflowed over (sign l t) refl)

pub demand_3 : Demand3 level_code
demand_3 l t g = right l t g
