-- The start of a channel, in document 01's order. Definitions only.
use Rattle.std.specs.Prelude.{Bool, false, cond, eqb, Result, Ok, Err, ℕ, Float}
use Rattle.conversions.specs.Constants.{v3_3}
use Rattle.bus.specs.declared.Note.TheVariants.{SignalOn, EnablePower}
use Rattle.bus.specs.Run.{Run, done, bind, mapped}
use Rattle.ads7924.specs.declared.Channel.TheVariants.{Three}
use Rattle.ads7924.specs.Calls as Ads7924
use Rattle.ad5627.specs.Opening as Ad5627
use Rattle.mcp3221.specs.Voltage as Mcp3221
use Rattle.rf_channel.specs.declared.ChannelSettings.{ChannelSettings}
use Rattle.rf_channel.specs.declared.RfChannel.{RfChannel}
use Rattle.rf_channel.specs.declared.States.TheVariants.{Off}
use Rattle.rf_machine.specs.declared.Cause.TheVariants.{Bus, Alarm as Alarmed, Threshold}
use Rattle.rf_machine.specs.Hardware.{◌and_then◌, pin, pinch_off}
use Rattle.rf_devices.specs.Devices.{highest_reflected, apply_output, set_reflected}
use Rattle.rf_call.specs.declared.Answer.TheVariants.{Done}
use Rattle.rf_call.specs.declared.Outcome.{Outcome}
use Rattle.rf_call.specs.declared.Outcome.TheVariants.{Live, Absent as NoModule}
use Rattle.rf_call.specs.declared.Report.TheVariants.{Plain}
use Rattle.rf_call.specs.Calls.{or_halt}
use Rattle.rf_start.specs.declared.Presence.{Presence}
use Rattle.rf_start.specs.declared.Presence.TheVariants.{Present, Absent}
use Rattle.rf_machine.specs.declared.Cause.{Cause}
use Rattle.bus.specs.declared.Failed.{Failed}
use Rattle.bus.specs.declared.Error.{Error}
use Rattle.bus.specs.declared.Error.TheVariants as Chip

-- ---- the mainboard: what fails here halts

-- signal_on low, enable_power low, bias 3.2
unfoldable pub beginning : Run (Result (Unit {0}) Cause)
beginning = pin (SignalOn false) and_then pin (EnablePower false) and_then pinch_off

-- the power monitor's answers: a bus failure is cause 1, an alarm cause 2
abbrev pub ready : Result (Unit {0}) Failed → Result (Unit {0}) Cause
ready (Ok tt) = (Ok tt)
ready (Err e) = Err Bus

abbrev pub heard : Result Float Failed → Result (Unit {0}) Cause
heard (Ok v) = (Ok tt)
heard (Err e) = Err Bus

abbrev pub quiet : Result ℕ Failed → Result (Unit {0}) Cause
quiet (Ok mask) = cond (eqb mask 0) (Ok tt) (Err Alarmed)
quiet (Err e) = Err Bus

-- its opening, the voltage of channel 3, the alarm
unfoldable pub monitor : Run (Result (Unit {0}) Cause)
monitor = mapped ready Ads7924.opening and_then mapped heard (Ads7924.get_voltage Three) and_then mapped quiet Ads7924.clear_alarm

unfoldable pub preparing : Run (Result (Unit {0}) Cause)
preparing = beginning and_then monitor

-- ---- the module: what fails here is an absent module

unfoldable pub on_present : Run Presence → Presence → Run Presence
on_present k Present = k
on_present k Absent = done Absent

abbrev pub opened : Result (Unit {0}) Failed → Presence
opened (Ok tt) = Present
opened (Err e) = Absent

abbrev pub there : Result Float Failed → Presence
there (Ok v) = Present
there (Err e) = Absent

-- the interlock chip's opening, the flag for EEPROM and temperature chip, the input power's chip
unfoldable pub module_there : Bool → Run Presence
module_there present = bind (mapped opened Ad5627.opening) (on_present (cond present (mapped there (Mcp3221.get_voltage v3_3)) (done Absent)))

-- ---- the trip levels: one refused is cause 4, a failed write cause 1

abbrev pub level_set : Result Float Error → Result (Unit {0}) Cause
level_set (Ok v) = (Ok tt)
level_set (Err Chip.Range) = Err Threshold
level_set (Err Chip.Bus) = Err Bus

unfoldable pub levels : ChannelSettings → Run (Result (Unit {0}) Cause)
levels s = mapped level_set (apply_output s) and_then mapped level_set (set_reflected s highest_reflected)

-- ---- the start

-- the state is Off, and both pins are low
abbrev pub fresh : ChannelSettings → RfChannel
fresh s = record { settings = s; state = Off; signal_on = false; enable_power = false }

unfoldable pub settling : ChannelSettings → Run Outcome
settling s = bind (levels s) (or_halt (done (Live (fresh s) (Done Plain))))

unfoldable pub if_present : Run Outcome → Presence → Run Outcome
if_present k Present = k
if_present k Absent = done NoModule

unfoldable pub starting : ChannelSettings → Bool → Run Outcome
starting s present = bind preparing (or_halt (bind (module_there present) (if_present (settling s))))
