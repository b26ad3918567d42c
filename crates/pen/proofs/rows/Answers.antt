-- `pen::rows` meets its contract: the log has the rows, or nothing is written. Assumes nothing.
use Rattle.std.proofs.Common.{◌/◌, length}
use borrow.Author.Tests.{le-leb, lt-leb}
use Rattle.pen.specs.Ink.{rows_text}
use Rattle.pen.proofs.Laws.{inked_none}
use Rattle.pen.proofs.rows.Goals as goal
use Rattle.pen.proofs.rows.Goals.{then-log-used-via-then-log-used, then-log-used-via-else-log-used+then-used-from}

pub returns-then-log-used-clause-text : goal.returns-then-log-used-clause-text
unfolding rows_text
returns-then-log-used-clause-text c = let given = c.args in
    elim c.then-log-used.branch [
      | then-log-used-via-then-log-used w ↦ rw (lt-leb given.used (length given.log.now / 16) w.if-log-used.true) (inked_none given.writer.now)
      | then-log-used-via-else-log-used+then-used-from w ↦ rw (le-leb given.used (length given.log.now / 16) w.if-log-used.false, lt-leb given.from given.used w.if-used-from.true) (inked_none given.writer.now)
    ]

pub returns-clause-text : goal.returns-clause-text
unfolding rows_text
returns-clause-text c = let given = c.args in
    rw (le-leb given.used (length given.log.now / 16) c.if-log-used.false, le-leb given.from given.used c.if-used-from.false) c.hex.ensures.text
