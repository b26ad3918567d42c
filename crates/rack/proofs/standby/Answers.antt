-- `rack::standby` meets its contract: it is a call that leaves no numbers. Assumes nothing.
use Rattle.rack.proofs.standby.Goals as goal

pub returns : goal.returns
returns c = c.call.ensures.0
