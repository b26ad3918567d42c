-- The names of the states, as document 01 gives them. Definitions only.
use Rattle.std.specs.Prelude.{ℕ, List}
use Prim.Native.String.{String}
use Rattle.text.specs.Texts.{bytes_of}
use Rattle.rf_channel.specs.declared.ChannelFault.TheVariants.{OverTemperature, UnderTemperature, SupplyAlert}
use Rattle.rf_channel.specs.declared.Interlock.TheVariants.{Input, Output, Reflected}
use Rattle.rf_channel.specs.declared.States.{States}
use Rattle.rf_channel.specs.declared.States.TheVariants as S
use Rattle.rf_call.specs.declared.Slot.{Slot}
use Rattle.rf_call.specs.declared.Slot.TheVariants.{Empty, Halted, Channel}

abbrev pub state_name : States → String
state_name (S.Blocked OverTemperature) = "Blocked(OverTemperature)"
state_name (S.Blocked UnderTemperature) = "Blocked(UnderTemperature)"
state_name (S.Blocked SupplyAlert) = "Blocked(SupplyAlert)"
state_name S.Off = "Off"
state_name (S.Powerup deadline) = "Powerup"
state_name S.Powered = "Powered"
state_name S.Enabled = "Enabled"
state_name (S.Tripped Input) = "Tripped(Input)"
state_name (S.Tripped Output) = "Tripped(Output)"
state_name (S.Tripped Reflected) = "Tripped(Reflected)"
state_name (S.Powerdown deadline) = "Powerdown"

abbrev pub slot_name : Slot → String
slot_name Empty = "Empty"
slot_name (Halted cause) = "Halted"
slot_name (Channel c) = state_name c.state

unfoldable pub state_text : Slot → List ℕ
state_text slot = bytes_of (slot_name slot)
