-- What a converter sends for a number of volts, in whole numbers: with Q the steps of v / scale rounded once, the code is the whole part of 4096 x Q steps (`code_at`), and 0 below zero (`code_below`). For any scale.
-- The ads7924's code is the whole part of v / lsb rounded once (`limit_at`). Each cites the truncation law of `steps`.
-- Below its scale a voltage never gets the code 4096 (`below_scale`), so that the dac7571's mask with 0xFFF changes nothing (`mask_nothing`). Assumes nothing.
use mathlib.Core.Path.{◌≡◌, refl, sym, ap, ◌∙◌, subst}
use Prim.Native.Nat.{ℕ, ◌-◌, ◌*◌, ◌/◌, ◌^◌, ◌≤◌, ◌<◌, min}
use native.Mathlib.Nat.{lt_of_le_of_lt, lt_trans, mul-le-mul_right, div-lt_iff_lt-mul, mod-eq_of_lt}
use native.Mathlib.Omega.{arith}
use mathlib.Core.Bool.{Bool, true, false, true≢false}
use lib.IntN.{pos}
use lib.Dec.{T, lit<, lit≤}
use lib.Pow.{pow_pos}
use lib.Bits.{bit_and, and_mask}
use lib.Ieee.{Float, nan, inf, fin, binary32, unlike, round, lt, le, mul, div, to_unsigned, of_bits, fits, size}
use lib.Ieee.Exact.{HasValue}
use lib.Ieee.Scale.{grid, overflow, finite}
use Rattle.steps.specs.Steps.{unit, magnitude, negative, IsNumber}
use Rattle.steps.proofs.Round.{round_at}
use Rattle.steps.proofs.Operations.{rounded, plain, quotient, times_power}
use Rattle.steps.proofs.Apart.{below_one}
use Rattle.steps.proofs.Compare.{nil, steps_of_not_le, not_below_zero}
use Rattle.steps.proofs.Truncation.{truncates, truncates_below}
use Rattle.conversions.specs.Constants.{zero, codes, v2_5, v3_3}
use Rattle.conversions.specs.Codes.{code_of, limit_of, lsb}

-- ---- a scale: a number above zero

pub record Scale (f : Float) : Type 0 where
  pub number : IsNumber f
  pub not_negative : negative f ≡ false
  pub above_zero : 0 < magnitude f

-- the steps of v / scale, rounded once
abbrev pub share : Float → Float → ℕ
share f v = grid binary32 (magnitude v) (magnitude f)

codes_is : codes ≡ fin false 1 (pos 12)
unfolding of_bits
codes_is = refl

-- v / scale is one rounding
divided_is : (f v : Float) → Scale f → IsNumber v → div binary32 v f ≡ round binary32 (negative v) (magnitude v) (magnitude f)
divided_is f v s n =
    quotient v f n s.number s.above_zero
    ∙ ap (λ (t : Bool). round binary32 (unlike (negative v) t) (magnitude v) (magnitude f)) s.not_negative
    ∙ ap (λ (t : Bool). round binary32 t (magnitude v) (magnitude f)) (plain (negative v))

-- v / scale x 4096
scaled_at : (f v : Float) → Scale f → IsNumber v → share f v * 2 ^ 12 < overflow binary32 → HasValue (mul binary32 (div binary32 v f) codes) (negative v) (share f v * 2 ^ 12) unit
scaled_at f v s n h =
    let q : share f v < overflow binary32 = lt_of_le_of_lt (more (share f v)) h in
    let (number, sign, size) = rounded (negative v) (magnitude v) (magnitude f) q in
    let there = times_power (round binary32 (negative v) (magnitude v) (magnitude f)) 12 number (rw size h) in
    rw (divided_is f v s n, codes_is) (rw (sign, size) at there)
  where
    more : (x : ℕ) → x ≤ x * 2 ^ 12
    more x = omega arith

-- ---- the codes

pub code_at : (f v : Float) → Scale f → IsNumber v → negative v ≡ false → share f v * 2 ^ 12 < overflow binary32 → code_of f v ≡ min (share f v * 2 ^ 12 / unit) (2 ^ 16 - 1)
code_at f v s n e h =
    truncates 16 (mul binary32 (div binary32 v f) codes) (share f v * 2 ^ 12) unit (pow_pos 149) (rw e at (scaled_at f v s n h))

pub code_below : (f v : Float) → Scale f → IsNumber v → negative v ≡ true → share f v * 2 ^ 12 < overflow binary32 → code_of f v ≡ 0
code_below f v s n e h = truncates_below 16 (mul binary32 (div binary32 v f) codes) (share f v * 2 ^ 12) unit (rw e at (scaled_at f v s n h))

-- ---- below its scale a voltage gets one of the 4096 codes

few : (q : ℕ) → q ≤ 16777215 * 2 ^ 125 → q * 2 ^ 12 < 4096 * unit
few q h = lt_of_le_of_lt (mul-le-mul_right (2 ^ 12) h) (lit< tt)

pub below_scale : (f v : Float) → Scale f → IsNumber v → negative v ≡ false → magnitude v < magnitude f → code_of f v ≤ 4095
below_scale f v s n e h =
    let q = few (share f v) (below_one v f n s.number h) in
    let c : share f v * 2 ^ 12 / unit < 4096 = (div-lt_iff_lt-mul (pow_pos 149)).1 q in
    rw (code_at f v s n e (lt_trans q (lit< tt))) (capped (share f v * 2 ^ 12 / unit) c)
  where
    capped : (x : ℕ) → x < 4096 → min x 65535 ≤ 4095
    capped x h = omega arith

-- ---- the scales that are in use

scale : (f : Float) (m : ℕ) → T (fits binary32 f) → T (finite f) → negative f ≡ false → magnitude f ≡ m → 0 < m → Scale f
scale f m a b c d e = record { number = (a, b); not_negative = c; above_zero = subst (λ (z : ℕ). 0 < z) (sym d) e }

pub scale_2_5 : Scale v2_5
unfolding of_bits fits negative magnitude
scale_2_5 = scale v2_5 (5 * 2 ^ 148) tt tt refl refl (lit< tt)

pub scale_3_3 : Scale v3_3
unfolding of_bits fits negative magnitude
scale_3_3 = scale v3_3 (13841203 * 2 ^ 127) tt tt refl refl (lit< tt)

-- ---- the dac7571's mask

pub zero_is : zero ≡ nil
unfolding of_bits
zero_is = refl

-- what the dac7571 accepts has a code of twelve bits, a NaN and -0.0 included
accepted_number : (v : Float) (s : Bool) → IsNumber v → negative v ≡ s → le v3_3 v ≡ false → lt v zero ≡ false → code_of v3_3 v ≤ 4095
accepted_number v false n e a b = below_scale v3_3 v scale_3_3 n e (steps_of_not_le v3_3 v scale_3_3.number n scale_3_3.not_negative e a)
accepted_number v true n e a b =
    let none : magnitude v ≡ 0 = not_below_zero v n e (rw zero_is at b) in
    let under : magnitude v < magnitude v3_3 = subst (λ (z : ℕ). z < magnitude v3_3) (sym none) scale_3_3.above_zero in
    let q = few (share v3_3 v) (below_one v v3_3 n scale_3_3.number under) in
    rw (code_below v3_3 v scale_3_3 n e (lt_trans q (lit< tt))) (lit≤ tt)

pub dac_small : (v : Float) → T (fits binary32 v) → le v3_3 v ≡ false → lt v zero ≡ false → code_of v3_3 v ≤ 4095
unfolding le lt of_bits to_unsigned mul div
dac_small nan t a b = lit≤ tt
dac_small (inf true) t a b = absurd (true≢false b)
dac_small (inf false) t a b = absurd (true≢false a)
dac_small (fin s m e) t a b = accepted_number (fin s m e) (negative (fin s m e)) (t, tt) refl a b

-- and the mask with 0xFFF leaves it as it is
pub mask_nothing : (n : ℕ) → n ≤ 4095 → bit_and n 4095 ≡ n
mask_nothing n h = and_mask n 12 ∙ mod-eq_of_lt (omega arith)

-- ---- the ads7924's limits

scale_lsb : Scale lsb
unfolding of_bits div round fits negative magnitude size
scale_lsb = scale lsb (magnitude lsb) tt tt refl refl (lit< tt)

pub limit_at : (v : Float) → IsNumber v → negative v ≡ false → share lsb v < overflow binary32 → limit_of v ≡ min (share lsb v / unit) (2 ^ 16 - 1)
limit_at v n e h = truncates 16 (div binary32 v lsb) (share lsb v) unit (pow_pos 149) (rw (divided_is lsb v scale_lsb n, e) (round_at false (magnitude v) (magnitude lsb) h))
