-- `line_hold::without_cr` meets its contract: the line has a CR at its end, or none. Assumes nothing.
use Rattle.line_hold.proofs.Laws.{without_suffix}
use Rattle.line_hold.proofs.without_cr.Goals as goal

pub returns : goal.returns
returns c = rw c.unwrap_or.ensures (without_suffix c.args.s c.strip_suffix.result c.strip_suffix.ensures.cases)
