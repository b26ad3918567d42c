-- `pen::bytes` meets its contract: there is no room, or for some of the text. Assumes nothing.
use Rattle.pen.proofs.Laws.{nothing_inked, front_inked}
use Rattle.pen.proofs.bytes.Goals as goal

pub returns-then-writer-clause-text : goal.returns-then-writer-clause-text
returns-then-writer-clause-text c = nothing_inked c.args.writer.now c.args.s.now c.if-writer.true

pub returns-clause-text : goal.returns-clause-text
returns-clause-text c = front_inked c.min.result c.args.s.now c.if-writer.false c.min.ensures c.put_bytes.ensures.text
