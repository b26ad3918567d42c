-- Where the original unwraps the result of an event, the table has a line for it and the line's guard holds. Definitions only.
use Rattle.std.specs.Prelude.{ℕ, ◌≡◌, Bool, List, Some, Ok}
use Rattle.rf_channel.specs.declared.Action.TheVariants.{HandleFault, HandleTrip}
use Rattle.rf_channel.specs.declared.ChannelFault.{ChannelFault}
use Rattle.rf_channel.specs.declared.ChannelSettings.{ChannelSettings}
use Rattle.rf_channel.specs.declared.Events.{Events}
use Rattle.rf_channel.specs.declared.Events.TheVariants as E
use Rattle.rf_channel.specs.declared.Interlock.{Interlock}
use Rattle.rf_channel.specs.declared.Plan.{Plan}
use Rattle.rf_channel.specs.declared.Plan.TheVariants.{NoTransition, GuardFalse, Go}
use Rattle.rf_channel.specs.declared.RfChannel.{RfChannel}
use Rattle.rf_channel.specs.declared.States.TheVariants as S
use Rattle.rf_plan.specs.Table.{table}
use Rattle.rf_plan.specs.Plan.{fault_of, planned}
use Rattle.rf_changes.specs.Changes.{event_of}
use Rattle.rf_settings.specs.Settings.{apply_settings}

-- a transition: the event is listed, and its guard holds
unfoldable pub Moves : Plan → Type 0
Moves NoTransition = ⊥
Moves GuardFalse = ⊥
Moves (Go action state) = Unit

-- the original unwraps the result of a fault, of a trip in Enabled, and of every event that the channel's settings raise but Disable, whose result it drops
pub record Unwrapped (c : RfChannel) (tick : ℕ) (watchdog : Bool) : Type 0 where
  pub fault : (f : ChannelFault) → Moves (planned table c (E.Fault f) tick watchdog)
  pub trip : (i : Interlock) → c.state ≡ S.Enabled → Moves (planned table c (E.Trip i) tick watchdog)
  pub settings : (e : Events) → event_of c.state c.settings.state ≡ Some e → (e ≡ E.Disable → ⊥) → Moves (planned table c e tick watchdog)

abbrev pub EveryUnwrapMoves : Type 0
EveryUnwrapMoves = (c : RfChannel) (tick : ℕ) (watchdog : Bool) → Unwrapped c tick watchdog

-- .. and the event of a call with settings is that of the settings which the channel then holds: settings that are taken leave the wanted state in the channel, whether they are stored or equal to the old ones
abbrev pub WantedIsHeld : Type 0
WantedIsHeld = (c : RfChannel) (s : ChannelSettings) (replies : List ℕ) (slot taken : ℕ) (c' : RfChannel) → (apply_settings c s replies slot taken).ans ≡ Ok c' → c'.settings.state ≡ s.state

-- what a fault and a trip lead to
abbrev pub FaultBlocks : Type 0
FaultBlocks = (c : RfChannel) (tick : ℕ) (watchdog : Bool) (f : ChannelFault) → planned table c (E.Fault f) tick watchdog ≡ Go HandleFault (S.Blocked (fault_of c.state f))

abbrev pub TripTrips : Type 0
TripTrips = (c : RfChannel) (tick : ℕ) (watchdog : Bool) (i : Interlock) → c.state ≡ S.Enabled → planned table c (E.Trip i) tick watchdog ≡ Go HandleTrip (S.Tripped i)
