-- What each action does to the hardware: pins, waits and the bias chip, one after the other. Definitions only.
use Rattle.std.specs.Prelude.{true, false, cond, Float, Result, Ok, Err}
use Rattle.std.specs.Float.{binary32}
use Rattle.std.specs.Float.Ieee.{of_bits, lt, neg}
use Rattle.bus.specs.declared.Note.{Note}
use Rattle.bus.specs.declared.Note.TheVariants.{SignalOn, EnablePower, Wait}
use Rattle.bus.specs.Run.{Run, done, bind, mapped, note}
use Rattle.dac7571.specs.Voltage.{set_voltage}
use Rattle.rf_channel.specs.declared.Action.{Action}
use Rattle.rf_channel.specs.declared.Action.TheVariants.{Nothing, StartPowerup, ResetInterlocks, EnableOutput, StartDisable, HandleFault, HandleTrip, DisableRfSwitch}
use Rattle.rf_channel.specs.declared.ChannelSettings.{ChannelSettings}
use Rattle.rf_channel.specs.Guards.{lowest}
use Rattle.rf_machine.specs.declared.Cause.TheVariants.{Bus, Level, Bias}
use Rattle.rf_machine.specs.declared.Cause.{Cause}
use Rattle.bus.specs.declared.Error.{Error}
use Rattle.bus.specs.declared.Error.TheVariants as Chip

-- ---- one piece of work after another: the first that stops ends it

unfoldable pub on_did : Run (Result (Unit {0}) Cause) → Result (Unit {0}) Cause → Run (Result (Unit {0}) Cause)
on_did k (Ok tt) = k
on_did k (Err cause) = done (Err cause)

infixr 30 ◌and_then◌
abbrev pub ◌and_then◌ : Run (Result (Unit {0}) Cause) → Run (Result (Unit {0}) Cause) → Run (Result (Unit {0}) Cause)
m and_then k = bind m (on_did k)

-- ---- the pieces

-- a pin is set, or a time waited
unfoldable pub pin : Note → Run (Result (Unit {0}) Cause)
pin n = mapped (λ _. (Ok tt)) (note n)

-- 3.2 V: the amplifier is in pinch-off
abbrev pub v3_2 : Float
v3_2 = of_bits binary32 0x404c_cccd

-- the chip did not take it. Of 3.2 V it never refuses the range
abbrev pub pinched : Result Float Error → Result (Unit {0}) Cause
pinched (Ok v) = (Ok tt)
pinched (Err Chip.Range) = Err Bus
pinched (Err Chip.Bus) = Err Bus

unfoldable pub pinch_off : Run (Result (Unit {0}) Cause)
pinch_off = mapped pinched (set_voltage v3_2)

-- the bias is sent as its negation
unfoldable pub apply_bias : ChannelSettings → Run (Result Float Error)
apply_bias s = set_voltage (neg s.bias_voltage)

-- a bias that is not taken when the output is switched on: cause 6 for its range, cause 1 for the bus
abbrev pub enabled : Result Float Error → Result (Unit {0}) Cause
enabled (Ok v) = (Ok tt)
enabled (Err Chip.Range) = Err Bias
enabled (Err Chip.Bus) = Err Bus

-- ---- the actions

unfoldable pub start_powerup : Run (Result (Unit {0}) Cause)
start_powerup = pinch_off and_then pin (EnablePower true)

unfoldable pub reset_interlocks : Run (Result (Unit {0}) Cause)
reset_interlocks = pin (SignalOn true) and_then pin (Wait 1000) and_then pin (SignalOn false)

unfoldable pub disable_rf_switch : Run (Result (Unit {0}) Cause)
disable_rf_switch = pin (SignalOn false)

unfoldable pub start_disable : Run (Result (Unit {0}) Cause)
start_disable = disable_rf_switch and_then pinch_off and_then pin (EnablePower false)

-- the threshold must be above map(0.1), else cause 5
unfoldable pub enable_output : ChannelSettings → Run (Result (Unit {0}) Cause)
enable_output s = cond (lt (lowest s) s.output_interlock_threshold) (mapped enabled (apply_bias s) and_then pin (SignalOn true)) (done (Err Level))

unfoldable pub hardware : Action → ChannelSettings → Run (Result (Unit {0}) Cause)
hardware Nothing s = done (Ok tt)
hardware StartPowerup s = start_powerup
hardware ResetInterlocks s = reset_interlocks
hardware EnableOutput s = enable_output s
hardware StartDisable s = start_disable
hardware HandleFault s = start_disable
hardware HandleTrip s = disable_rf_switch
hardware DisableRfSwitch s = disable_rf_switch
