-- `entry::is_finite` meets its contract: a NaN is on no side of an infinity. Assumes nothing.
use mathlib.Core.Path.{sym, ◌∙◌}
use lib.Ieee.{div, neg, of_bits}
use Rattle.entry.proofs.Laws.{above, not_below}
use Rattle.entry.proofs.is_finite.Goals as goal

pub returns-then-x-infinity : goal.returns-then-x-infinity
unfolding div neg of_bits
returns-then-x-infinity c = above _ c.if-x-infinity.true

pub returns-else-x-infinity : goal.returns-else-x-infinity
unfolding div of_bits
returns-else-x-infinity c = c.if-x-infinity.false ∙ sym (not_below _ c.if-x-infinity.false)
