-- `columns::column` meets its contract: a comma passed leaves a column less, and without one there is none. Assumes nothing.
use Rattle.std.proofs.Common.{◌≡◌, ◌+◌, ◌-◌, ◌∙◌, sym, arith}
use Rattle.columns.proofs.Laws.{first, passed, none}
use Rattle.columns.proofs.column.Goals as goal

pub returns-then-comma-s : goal.returns-then-comma-s
returns-then-comma-s c = let l = c.loop in
    let e = c.find-comma.result in
    let no : e - e ≡ 0 = omega arith in
    record { order = omega arith; within = omega arith; part = rw no (sym (none c.args.s.now l.start e l.invariant.0 c.find-comma.ensures.place (c.args.k - l.counter) (omega arith) c.if-comma-s.true) ∙ l.invariant.2) }

pub loop-preserved : goal.loop-preserved
loop-preserved c = let l = c.loop in
    let less : c.args.k - (l.counter + 1) ≡ c.args.k - l.counter - 1 = omega arith in
    (omega arith, omega arith, rw less (sym (passed c.args.s.now l.start c.find-comma.result l.invariant.0 c.find-comma.ensures.place (c.args.k - l.counter) (omega arith) (omega arith)) ∙ l.invariant.2))

pub returns : goal.returns
returns c = let l = c.loop in
    let past : c.args.k - l.counter ≡ 0 = omega arith in
    record { order = omega (arith, c.find-end.ensures.place); within = c.find-end.ensures.bound; part = first c.args.s.now l.start c.find-end.result l.invariant.0 c.find-end.ensures.place ∙ rw past at l.invariant.2 }
