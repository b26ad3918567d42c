-- `field::number` meets its contract. The loop's invariant: what is left is read, after n, as the whole is. Assumes nothing.
use Rattle.std.proofs.Common.{◌≡◌, drop}
use Rattle.field.specs.Field.{number_from}
use Rattle.field.proofs.number.Given as goal

abbrev pub invariant-loop-b : goal.invariant-loop-b
invariant-loop-b l = number_from l.base 0 l.s ≡ number_from l.base l.n (drop l.b-index l.s)
