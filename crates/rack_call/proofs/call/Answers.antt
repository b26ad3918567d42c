-- `rack_call::call` meets its contract: the slot is read, stepped and put back. Assumes nothing.
use Rattle.rack_call.proofs.Laws.{leaves}
use Rattle.rack_call.proofs.call.Goals as goal

pub returns : goal.returns
returns c = leaves c.args.rack c.args.slot c.args.call c.args.used c.args.log.now c.args.replies.now c.args.numbers.now c.slot_at-standing.ensures c.step-stepped.ensures c.put_at-rack.ensures
