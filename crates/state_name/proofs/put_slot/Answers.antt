-- `state_name::put_slot` meets its contract: each arm writes the name of what stands in the slot. Assumes nothing.
use Rattle.state_name.specs.Names.{state_text}
use Rattle.state_name.proofs.put_slot.Goals as goal

pub returns-in-Empty-clause-text : goal.returns-in-Empty-clause-text
unfolding state_text
returns-in-Empty-clause-text c = rw c.in-Empty.is c.put_bytes.ensures.text

pub returns-in-Halted-clause-text : goal.returns-in-Halted-clause-text
unfolding state_text
returns-in-Halted-clause-text c = rw c.in-Halted.is c.put_bytes-in-Halted.ensures.text

pub returns-in-Channel-clause-text : goal.returns-in-Channel-clause-text
unfolding state_text
returns-in-Channel-clause-text c = rw c.in-Channel.is c.put_state.ensures.text
