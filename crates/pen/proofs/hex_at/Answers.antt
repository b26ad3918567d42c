-- `pen::hex_at` meets its contract: no byte, and a byte more. Assumes nothing.
use borrow.Author.Rules.{rules}
use Rattle.pen.specs.Ink.{pair_text}
use Rattle.pen.proofs.Laws.{each_none_at, each_more}
use Rattle.pen.proofs.hex_at.Goals as goal

pub loop-b-init : goal.loop-b-init
loop-b-init c = each_none_at pair_text c.args.out.now c.args.at

pub loop-b-preserved : goal.loop-b-preserved
loop-b-preserved c = let turn = c.loop-b in
    each_more pair_text 0 c.args.s.now turn.b-index (search rules) turn.invariant c.pair_at-past.ensures
