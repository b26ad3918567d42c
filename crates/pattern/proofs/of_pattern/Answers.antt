-- `pattern::of_pattern` meets its contract. Assumes nothing.
use mathlib.Core.Path.{sym}
use lib.Ieee.{div, of_bits}
use Rattle.pattern.proofs.Nan.{above_infinity, up_to_infinity}
use Rattle.pattern.proofs.of_pattern.Goals as goal

pub float_from_bits-result : goal.float_from_bits-result
float_from_bits-result c = rw (up_to_infinity c.args.bits c.if-bits-gt2139095040.false) tt

pub returns-then-bits-gt2139095040 : goal.returns-then-bits-gt2139095040
unfolding div of_bits
returns-then-bits-gt2139095040 c = sym (above_infinity c.args.bits c.if-bits-gt2139095040.true)
