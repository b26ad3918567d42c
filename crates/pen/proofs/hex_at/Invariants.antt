-- `pen::hex_at` meets its contract. The loop's invariant: the first i bytes are written as digits. Assumes nothing.
use lib.ListN.{take}
use Rattle.pen.specs.Ink.{Inked, hex_text}
use Rattle.pen.proofs.hex_at.Given as goal

abbrev pub invariant-loop-b : goal.invariant-loop-b
invariant-loop-b l = Inked l.initial.out l.at l.out l.past (hex_text (take l.b-index l.s))
