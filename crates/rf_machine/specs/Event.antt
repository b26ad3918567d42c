-- What an event does to a channel: the table's plan, the hardware, and the channel in its next state. Definitions only.
use Rattle.std.specs.Prelude.{ℕ, Bool, true, false, Result, Ok, Err}
use Rattle.bus.specs.Run.{Run, done, mapped}
use Rattle.rf_channel.specs.declared.Action.{Action}
use Rattle.rf_channel.specs.declared.Action.TheVariants.{Nothing, StartPowerup, ResetInterlocks, EnableOutput, StartDisable, HandleFault, HandleTrip, DisableRfSwitch}
use Rattle.rf_channel.specs.declared.Events.{Events}
use Rattle.rf_channel.specs.declared.Plan.{Plan}
use Rattle.rf_channel.specs.declared.Plan.TheVariants.{NoTransition, GuardFalse, Go}
use Rattle.rf_channel.specs.declared.RfChannel.{RfChannel}
use Rattle.rf_channel.specs.declared.States.{States}
use Rattle.rf_plan.specs.Table.{table}
use Rattle.rf_plan.specs.Plan.{planned}
use Rattle.rf_machine.specs.declared.Told.TheVariants.{Moved, NoTransition as NotListed, GuardFalse as NotAllowed}
use Rattle.rf_machine.specs.Hardware.{hardware}
use Rattle.rf_machine.specs.declared.Cause.{Cause}
use Rattle.rf_machine.specs.declared.Told.{Told}

-- ---- the level at which an action leaves each pin

abbrev pub signal_after : Action → Bool → Bool
signal_after Nothing level = level
signal_after StartPowerup level = level
signal_after ResetInterlocks level = false
signal_after EnableOutput level = true
signal_after StartDisable level = false
signal_after HandleFault level = false
signal_after HandleTrip level = false
signal_after DisableRfSwitch level = false

abbrev pub power_after : Action → Bool → Bool
power_after Nothing level = level
power_after StartPowerup level = true
power_after ResetInterlocks level = level
power_after EnableOutput level = level
power_after StartDisable level = false
power_after HandleFault level = false
power_after HandleTrip level = level
power_after DisableRfSwitch level = level

-- ---- the event

-- the channel in its next state
abbrev pub moved : RfChannel → Action → States → RfChannel
moved c action state =
    record {
      settings = c.settings;
      state = state;
      signal_on = signal_after action c.signal_on;
      enable_power = power_after action c.enable_power;
    }

abbrev pub arrived : RfChannel → Action → States → Result (Unit {0}) Cause → Result (RfChannel × Told) Cause
arrived c action state (Ok tt) = Ok ((moved c action state), Moved)
arrived c action state (Err cause) = Err cause

unfoldable pub carry : RfChannel → Plan → Run (Result (RfChannel × Told) Cause)
carry c NoTransition = done (Ok (c, NotListed))
carry c GuardFalse = done (Ok (c, NotAllowed))
carry c (Go action state) = mapped (arrived c action state) (hardware action c.settings)

unfoldable pub process_event : RfChannel → Events → ℕ → Bool → Run (Result (RfChannel × Told) Cause)
process_event c e tick watchdog = carry c (planned table c e tick watchdog)
