-- No name is longer than 25 bytes. Assumes nothing.
use Prim.Native.Nat.{◌≤◌}
use lib.Dec.{lit≤}
use lib.ListN.{length}
use Rattle.text.specs.Texts.{bytes_of}
use Rattle.rf_channel.specs.declared.ChannelFault.TheVariants.{OverTemperature, UnderTemperature, SupplyAlert}
use Rattle.rf_channel.specs.declared.Interlock.TheVariants.{Input, Output, Reflected}
use Rattle.rf_channel.specs.declared.States.{States}
use Rattle.rf_channel.specs.declared.States.TheVariants as S
use Rattle.rf_call.specs.declared.Slot.{Slot}
use Rattle.rf_call.specs.declared.Slot.TheVariants.{Empty, Halted, Channel}
use Rattle.state_name.specs.Names.{state_name, state_text}

pub name_length : (s : States) → length (bytes_of (state_name s)) ≤ 25
name_length (S.Blocked OverTemperature) = lit≤ tt
name_length (S.Blocked UnderTemperature) = lit≤ tt
name_length (S.Blocked SupplyAlert) = lit≤ tt
name_length S.Off = lit≤ tt
name_length (S.Powerup deadline) = lit≤ tt
name_length S.Powered = lit≤ tt
name_length S.Enabled = lit≤ tt
name_length (S.Tripped Input) = lit≤ tt
name_length (S.Tripped Output) = lit≤ tt
name_length (S.Tripped Reflected) = lit≤ tt
name_length (S.Powerdown deadline) = lit≤ tt

pub state_length : (slot : Slot) → length (state_text slot) ≤ 25
unfolding state_text
state_length Empty = lit≤ tt
state_length (Halted cause) = lit≤ tt
state_length (Channel c) = name_length c.state
