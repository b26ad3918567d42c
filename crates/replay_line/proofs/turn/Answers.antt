-- `replay_line::turn` meets its contract: it is a call on slot 0. Assumes nothing.
use Rattle.replay_line.specs.Line.{turned}
use Rattle.replay_line.proofs.turn.Goals as goal

pub returns : goal.returns
unfolding turned
returns c = c.call.ensures.0
