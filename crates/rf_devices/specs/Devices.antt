-- The input power, and what is sent for the two trip levels. Definitions only.
use Rattle.std.specs.Prelude.{Float, Result, Ok, Err}
use Rattle.std.specs.Float.{binary32}
use Rattle.std.specs.Float.Ieee.{of_bits}
use Rattle.linear_transformation.specs.Line.{map_of}
use Rattle.conversions.specs.Constants.{v3_3}
use Rattle.interlock.specs.Level.{level_code}
use Rattle.bus.specs.Run.{Run, mapped}
use Rattle.mcp3221.specs.Voltage.{get_voltage}
use Rattle.ad5627.specs.declared.Dac.TheVariants.{A, B}
use Rattle.ad5627.specs.Voltage.{send_code}
use Rattle.rf_channel.specs.declared.ChannelSettings.{ChannelSettings}
use Rattle.bus.specs.declared.Failed.{Failed}
use Rattle.bus.specs.declared.Error.{Error}
use Rattle.bus.specs.Rows.{no_answer}

-- 30.0 dBm, the level of the reflected power
abbrev pub highest_reflected : Float
highest_reflected = of_bits binary32 0x41f0_0000

-- the detector's volts, mapped
abbrev pub dbm : ChannelSettings → Result Float Failed → Result Float Failed
dbm s (Ok v) = Ok (map_of s.input_power_transform v)
dbm s (Err e) = (Err no_answer)

unfoldable pub get_input_power : ChannelSettings → Run (Result Float Failed)
get_input_power s = mapped (dbm s) (get_voltage v3_3)

-- a trip level goes to the chip as its code, of which demand 3 speaks: the output power's as output B, the reflected power's as A
unfoldable pub apply_output : ChannelSettings → Run (Result Float Error)
apply_output s = send_code B (level_code s.output_power_transform s.output_interlock_threshold)

unfoldable pub set_reflected : ChannelSettings → Float → Run (Result Float Error)
set_reflected s power = send_code A (level_code s.reflected_power_transform power)
