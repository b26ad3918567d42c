-- `state_name::put_state` meets its contract: no name is too long. Assumes nothing.
use Rattle.std.proofs.Common.{arith}
use Rattle.state_name.proofs.Lengths.{name_length}
use Rattle.state_name.proofs.put_state.Goals as goal

pub put_bytes-requires : goal.put_bytes-requires
put_bytes-requires c = rw c.name.ensures (omega (arith, name_length c.args.state))

pub returns-clause-text : goal.returns-clause-text
returns-clause-text c = rw c.name.ensures at c.put_bytes.ensures.text
