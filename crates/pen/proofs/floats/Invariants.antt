-- `pen::floats` meets its contract. The loop's invariant: the first i floats are written. Assumes nothing.
use mathlib.Core.Path.{◌≡◌}
use lib.ListN.{take}
use Rattle.pen.specs.Ink.{each, float_text}
use Rattle.pen.specs.Pens.{Inks}
use Rattle.pen.proofs.floats.Given as goal

abbrev pub invariant-loop-x : goal.invariant-loop-x
invariant-loop-x l = (l.writer.out.ghost_name ≡ l.initial.writer.out.ghost_name) × Inks l.initial.writer l.writer (each float_text (take l.x-index l.xs))
