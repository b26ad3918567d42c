-- How a program tells a NaN: only a NaN differs from itself, and of the patterns those above the infinity's are NaNs'. Assumes nothing.
use mathlib.Core.Path.{◌≡◌, refl, sym, ◌∙◌}
use mathlib.Core.Bool.{true, false, true≢false}
use Prim.Native.Nat.{ℕ, ◌%◌, ◌^◌, ◌≤◌, ◌<◌}
use lib.Ieee.{Float, nan, inf, fin, binary32, is_nan, nan_bits, ne, of_bits}
use lib.Ieee.Bits.{nan_bits_is, nan_bits_above}
use borrow.Author.Tests.{lt-ltb, le-ltb}

pub equals_itself : (x : Float) → ne x x ≡ false → is_nan x ≡ false
unfolding ne is_nan
equals_itself nan h = h
equals_itself (inf s) h = refl
equals_itself (fin s m e) h = refl

is_nan_lem : (x : Float) → is_nan x ≡ true → x ≡ nan
unfolding is_nan
is_nan_lem nan h = refl
is_nan_lem (inf s) h = absurd (true≢false (sym h))
is_nan_lem (fin s m e) h = absurd (true≢false (sym h))

pub above_infinity : (n : ℕ) → 0x7f80_0000 < n % 2 ^ 31 → of_bits binary32 n ≡ nan
above_infinity n h = is_nan_lem (of_bits binary32 n) (sym (nan_bits_is binary32 n) ∙ nan_bits_above binary32 n ∙ lt-ltb _ _ h)

pub up_to_infinity : (n : ℕ) → n % 2 ^ 31 ≤ 0x7f80_0000 → nan_bits binary32 n ≡ false
up_to_infinity n h = nan_bits_above binary32 n ∙ le-ltb _ _ h
