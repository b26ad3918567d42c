-- `field::number` meets its contract, digit by digit. Assumes nothing.
use Rattle.std.proofs.Common.{sym, ◌∙◌, arith}
use Rattle.field.proofs.Laws.{goes_on_lem, stops_at, at_end}
use Rattle.field.proofs.number.Goals as goal

pub returns-in_err-n : goal.returns-in_err-n
returns-in_err-n c = rw c.from_residual.ensures (sym (c.loop-b.invariant ∙ stops_at c.args.base c.args.s.now c.loop-b.b-index c.loop-b.n (omega arith) (sym c.in_err-n.ensures)))

pub loop-b-preserved : goal.loop-b-preserved
loop-b-preserved c = c.loop-b.invariant ∙ goes_on_lem c.args.base c.args.s.now c.loop-b.b-index c.loop-b.n _ (omega arith) (sym c.in_ok-n.ensures)

pub returns : goal.returns
returns c = sym (c.loop-b.invariant ∙ at_end c.args.base c.args.s.now c.loop-b.b-index c.loop-b.n (omega arith))
