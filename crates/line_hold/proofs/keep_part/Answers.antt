-- `line_hold::keep_part` meets its contract: a byte more, and the end of the part. Assumes nothing.
use Rattle.std.proofs.Common.{sym, ◌∙◌}
use Rattle.line_hold.proofs.Laws.{held_more, kept_more, held_all, kept_all}
use Rattle.line_hold.proofs.keep_part.Goals as goal

pub loop-b-preserved : goal.loop-b-preserved
loop-b-preserved c = let part = c.args.part.now in
    let turn = c.loop-b in
    let within = c.loop-b-test.true in (
      rw c.keep-held.ensures.0 (held_more part turn.b-index turn.held within ∙ turn.invariant.0),
      rw (c.keep-held.ensures.0, c.keep-held.ensures.1) (kept_more part turn.b-index turn.hold turn.held within ∙ turn.invariant.1),
    )

pub returns : goal.returns
returns c = let part = c.args.part.now in
    let turn = c.loop-b in
    let over = c.loop-b-test.false in
    (sym (held_all part turn.b-index turn.held over) ∙ turn.invariant.0, sym (kept_all part turn.b-index turn.hold turn.held over) ∙ turn.invariant.1)
