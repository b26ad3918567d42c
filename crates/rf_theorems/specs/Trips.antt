-- No trip test after a fault in the same update. Definitions only.
use Rattle.std.specs.Prelude.{ℕ, ◌≡◌, List, Some, Ok}
use Rattle.bus.specs.Run.{bind}
use Rattle.rf_channel.specs.declared.ChannelFault.{ChannelFault}
use Rattle.rf_channel.specs.declared.Events.TheVariants.{Fault}
use Rattle.rf_channel.specs.declared.RfChannel.{RfChannel}
use Rattle.rf_call.specs.declared.Givens.{Givens}
use Rattle.rf_tests.specs.Tests.{check_faults}
use Rattle.rf_update.specs.Update.{raising, after_stage, finishing, updating}

-- where the fault test finds a fault, the update is the fault's event and then the Update event: the input power is not read and no trip is raised
abbrev pub NoTripAfterFault : Type 0
NoTripAfterFault = (c : RfChannel) (g : Givens) (f : ChannelFault) → check_faults g ≡ Ok (Some f) → (replies : List ℕ) (slot taken : ℕ) → updating c g replies slot taken ≡ bind (raising c (Fault f) g) (after_stage (finishing g)) replies slot taken
