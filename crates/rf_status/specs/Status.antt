-- The status: four voltages, the temperature, the input power; then the flags and the state. Definitions only.
use Rattle.std.specs.Prelude.{not, Float, Option, Some, None, Result, Ok, Err}
use Rattle.bus.specs.Run.{Run, done, bind}
use Rattle.ads7924.specs.declared.Four.{Four}
use Rattle.ads7924.specs.Calls.{get_voltages}
use Rattle.rf_channel.specs.declared.ChannelSettings.{ChannelSettings}
use Rattle.rf_channel.specs.declared.RfChannel.{RfChannel}
use Rattle.rf_methods.specs.Methods.{detected}
use Rattle.rf_machine.specs.declared.Cause.TheVariants as Causes
use Rattle.rf_devices.specs.Devices.{get_input_power}
use Rattle.rf_call.specs.declared.Answer.TheVariants.{Done}
use Rattle.rf_call.specs.declared.ChannelStatus.{ChannelStatus}
use Rattle.rf_call.specs.declared.Givens.{Givens}
use Rattle.rf_call.specs.declared.Outcome.{Outcome}
use Rattle.rf_call.specs.declared.Outcome.TheVariants.{Live}
use Rattle.rf_call.specs.declared.Report.TheVariants.{Status}
use Rattle.rf_call.specs.Calls.{halting}
use Rattle.rf_status.specs.declared.Detectors.{Detectors}
use Rattle.rf_status.specs.declared.Numbers.{Numbers}
use Rattle.rf_status.specs.Numbers.{p28v_current_of, p5v_current_of, p5v_voltage_of}
use Rattle.rf_machine.specs.declared.Cause.{Cause}
use Rattle.bus.specs.declared.Failed.{Failed}

abbrev pub numbers_of : ChannelSettings → Detectors → Four → Float → Float → Numbers
numbers_of s d four temperature input =
    record {
      temperature = temperature;
      p28v_current = p28v_current_of four.v0;
      p5v_current = p5v_current_of four.v1;
      p5v_voltage = p5v_voltage_of four.v3;
      input_power = input;
      reflected_power = detected s.reflected_power_transform d.reflected;
      output_power = detected s.output_power_transform d.output;
    }

unfoldable pub on_input : (Float → Numbers) → Result Float Failed → Run (Result Numbers Cause)
on_input n (Ok power) = done (Ok (n power))
on_input n (Err e) = done (Err Causes.Bus)

-- the temperature is asked for before the input power
unfoldable pub on_temperature : ChannelSettings → Detectors → Four → Option Float → Run (Result Numbers Cause)
on_temperature s d four (Some t) = bind (get_input_power s) (on_input (numbers_of s d four t))
on_temperature s d four None = done (Err Causes.Temperature)

unfoldable pub on_voltages : ChannelSettings → Detectors → Option Float → Result Four Failed → Run (Result Numbers Cause)
on_voltages s d t (Ok four) = on_temperature s d four t
on_voltages s d t (Err e) = done (Err Causes.Bus)

unfoldable pub measuring : ChannelSettings → Detectors → Option Float → Run (Result Numbers Cause)
measuring s d t = bind get_voltages (on_voltages s d t)

-- ---- the call

-- the two overdrive pins, whether the alert pin is low, and the state
abbrev pub status_of : RfChannel → Givens → ChannelStatus
status_of c g = record { reflected_overdrive = g.reflected_overdrive; output_overdrive = g.output_overdrive; alert = not g.alert; state = c.state }

unfoldable pub on_measures : RfChannel → Givens → Result Numbers Cause → Run Outcome
on_measures c g (Ok n) = done (Live c (Done (Status (status_of c g))))
on_measures c g (Err cause) = halting cause

unfoldable pub getting_status : RfChannel → Detectors → Givens → Run Outcome
getting_status c d g = bind (measuring c.settings d g.temperature) (on_measures c g)
