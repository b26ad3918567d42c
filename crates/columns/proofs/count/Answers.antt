-- `columns::count` meets its contract: a comma is a column more, any other byte none, and behind the line's end is one. Assumes nothing.
use Rattle.std.proofs.Common.{arith}
use Rattle.columns.proofs.Laws.{count_comma, count_other, count_end}
use Rattle.columns.proofs.count.Goals as goal
use Rattle.columns.proofs.count.Goals.{then-b-eq-COMMA, else-b-eq-COMMA}

pub loop-b-preserved : goal.loop-b-preserved
loop-b-preserved c = let s = c.args.s.now in
    let i = c.loop-b.b-index in
    let more = c.loop-b-test.true in
    elim c.if-b-eq-COMMA.branch [
      | then-b-eq-COMMA w ↦ omega (arith, w.n-is, count_comma s i more w.if-b-eq-COMMA.true)
      | else-b-eq-COMMA w ↦ omega (arith, w.n-is, count_other s i more w.if-b-eq-COMMA.false)
    ]

pub returns : goal.returns
returns c = omega (arith, count_end c.args.s.now c.loop-b.b-index c.loop-b-test.false)
