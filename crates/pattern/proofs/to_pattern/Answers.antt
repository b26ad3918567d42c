-- `pattern::to_pattern` meets its contract. Assumes nothing.
use mathlib.Core.Path.{sym, ap, subst}
use lib.Dec.{T}
use lib.Ieee.{binary32, to_bits}
use lib.Ieee.Compare.{differs_from_itself}
use Rattle.pattern.proofs.Nan.{equals_itself}
use Rattle.pattern.proofs.to_pattern.Goals as goal

pub float_to_bits-result : goal.float_to_bits-result
float_to_bits-result c = rw (equals_itself c.args.x c.if-x.false) tt

pub returns-then-x : goal.returns-then-x
unfolding to_bits
returns-then-x c = sym (ap (to_bits binary32) (differs_from_itself c.args.x (subst T (sym c.if-x.true) tt)))
