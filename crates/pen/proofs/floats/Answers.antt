-- `pen::floats` meets its contract: no float, and a float more. Assumes nothing.
use lib.Ieee.{nan}
use borrow.Author.Rules.{rules}
use Rattle.pen.specs.Ink.{float_text}
use Rattle.pen.proofs.Laws.{each_none, each_more}
use Rattle.pen.proofs.floats.Goals as goal

pub loop-x-init : goal.loop-x-init
loop-x-init c = (search rules, each_none float_text c.args.writer.now)

pub loop-x-preserved : goal.loop-x-preserved
loop-x-preserved c = let turn = c.loop-x in
    (search rules, each_more float_text nan c.args.xs.now turn.x-index (search rules) turn.invariant.1 c.float.ensures.text)
