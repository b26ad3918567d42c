-- `cut::cut` meets its contract. Only a NaN differs from itself. Any other f32 is what its pattern is read as, and the pattern is no NaN's, so without the sign it is the infinity's or less.
-- Assumes nothing.
use mathlib.Core.Path.{◌≡◌, sym, ap, ◌∙◌, subst}
use mathlib.Core.Bool.{true, false}
use Prim.Native.Nat.{◌%◌, ◌^◌}
use native.Mathlib.Omega.{arith}
use lib.Dec.{T}
use lib.Ieee.{Float, binary32, fits, is_nan, to_bits, of_bits, to_unsigned}
use lib.Ieee.Bits.{of_bits-to_bits, nan_bits_is, nan_bits_above}
use lib.Ieee.Compare.{differs_from_itself}
use borrow.Author.Tests.{ltb-false}
use Rattle.pattern.proofs.Nan.{equals_itself}
use Rattle.cut.proofs.Fields.{sign_set}
use Rattle.cut.proofs.cut.Goals as goal

-- what owning an f32 tells: the format holds it, so it is what its pattern is read as
own_pattern : (x : Float) → fits binary32 x ≡ true → of_bits binary32 (to_bits binary32 x) ≡ x
own_pattern x own = of_bits-to_bits binary32 x (subst T (sym own) tt)

pub returns-then-x : goal.returns-then-x
unfolding to_unsigned
returns-then-x c = sym (ap (to_unsigned 16) (differs_from_itself c.args.x (subst T (sym c.if-x.true) tt)))

pub float_to_bits-bits : goal.float_to_bits-bits
float_to_bits-bits c = rw (equals_itself c.args.x c.if-x.false) tt

pub whole_part-requires : goal.whole_part-requires
whole_part-requires c = let x = c.args.x in
    let b = to_bits binary32 x in
    let no_nan : is_nan (of_bits binary32 b) ≡ false = rw (own_pattern c.args.x c.well_formed.0.1) (equals_itself x c.if-x.false) in
    omega (arith, ltb-false 0x7f80_0000 (b % 2 ^ 31) (sym (nan_bits_above binary32 b) ∙ nan_bits_is binary32 b ∙ no_nan))

pub returns-then-bits-lt2147483648 : goal.returns-then-bits-lt2147483648
returns-then-bits-lt2147483648 c = rw (own_pattern c.args.x c.well_formed.0.1) at c.whole_part.ensures

pub returns-else-bits-lt2147483648 : goal.returns-else-bits-lt2147483648
returns-else-bits-lt2147483648 c = sym (rw (own_pattern c.args.x c.well_formed.0.1) at (sign_set (to_bits binary32 c.args.x) c.if-bits-lt2147483648.false))
