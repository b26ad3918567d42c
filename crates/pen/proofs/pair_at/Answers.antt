-- `pen::pair_at` meets its contract: the low digit stands behind the high one. Assumes nothing.
use Prim.Native.Nat.{◌/◌, ◌%◌}
use mathlib.Core.Path.{◌≡◌}
use native.Mathlib.Omega.{arith}
use Rattle.pen.proofs.Laws.{behind}
use Rattle.pen.proofs.pair_at.Goals as goal

pub returns : goal.returns
returns c = let b = c.args.b in
    let high : b / 16 % 16 ≡ b / 16 = omega (arith, c.ranges.b) in
    let first = rw (c.digit-high.ensures, high) at c.byte_at-past.ensures in
    let second = rw c.digit-low.ensures at c.byte_at.ensures in
    behind first second
