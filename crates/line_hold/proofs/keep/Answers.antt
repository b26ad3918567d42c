-- `line_hold::keep` meets its contract: the test for room is the definition's. Assumes nothing.
use native.Mathlib.Omega.{arith}
use mathlib.Core.Path.{refl}
use borrow.Author.Tests.{le-leb, lt-leb}
use Rattle.line_hold.specs.Hold.{held_after, kept_in}
use Rattle.line_hold.proofs.keep.Goals as goal

pub returns-then-held-ge-ROOM : goal.returns-then-held-ge-ROOM
unfolding held_after kept_in
returns-then-held-ge-ROOM c = rw (le-leb 514 c.args.held (omega arith)) (refl, refl)

pub returns : goal.returns
unfolding held_after kept_in
returns c = rw (lt-leb 514 c.args.held (omega arith)) (refl, refl)
