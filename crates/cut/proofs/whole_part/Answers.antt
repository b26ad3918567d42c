-- `cut::whole_part` meets its contract, by what `proofs/Fields.antt` says of the fields of `bits`. What is cast is the result of `as u16`, so it fits.
-- Assumes nothing.
use mathlib.Core.Path.{sym}
use native.Mathlib.Omega.{arith}
use lib.Ieee.{binary32, of_bits}
use lib.Ieee.Casts.{to_unsigned-lt}
use Rattle.cut.proofs.Fields.{is_nothing, is_dropped, is_most}
use Rattle.cut.proofs.whole_part.Goals as goal

pub returns-then-exponent-lt127 : goal.returns-then-exponent-lt127
returns-then-exponent-lt127 c = sym (is_nothing c.args.bits c.requires (omega arith))

pub returns-then-exponent-lt143 : goal.returns-then-exponent-lt143
returns-then-exponent-lt143 c = sym (is_dropped c.args.bits c.requires (omega arith) (omega arith))

pub overflow_cast-result : goal.overflow_cast-result
overflow_cast-result c = omega (arith, is_dropped c.args.bits c.requires (omega arith) (omega arith), to_unsigned-lt 16 (of_bits binary32 c.args.bits))

pub returns-else-exponent-lt143 : goal.returns-else-exponent-lt143
returns-else-exponent-lt143 c = sym (is_most c.args.bits c.requires (omega arith))
