-- Six rows are too few for a request: a status whose last reading fails has seven. Assumes nothing.
use Rattle.std.specs.Prelude.{Some}
use Prim.Native.Nat.{ℕ}
use native.Mathlib.Omega.{arith}
use mathlib.Core.Bool.{true, false}
use mathlib.Core.List.{List, ◌∷◌, ◌++◌}
use mathlib.Core.Path.{◌≡◌, refl}
use lib.Ieee.{binary32, of_bits}
use lib.ListN.{length, replicate}
use Rattle.linear_transformation.specs.declared.LinearTransformation.{LinearTransformation}
use Rattle.linear_transformation.specs.Line.{line}
use Rattle.bus.specs.Replies.{got_at, data_at}
use Rattle.bus.specs.Run.{done, bind, mapped, note, transfer, on_got}
use Rattle.mcp3221.specs.Voltage as Mcp3221
use Rattle.ads7924.specs.Calls as Ads7924
use Rattle.rf_channel.specs.declared.ChannelState.TheVariants.{Off}
use Rattle.rf_channel.specs.declared.RfChannel.{RfChannel}
use Rattle.rf_devices.specs.Devices.{get_input_power}
use Rattle.rf_call.specs.declared.Givens.{Givens}
use Rattle.rf_call.specs.Calls.{halting}
use Rattle.rf_status.specs.Status.{on_input, on_temperature, on_voltages, measuring, on_measures, getting_status}
use Rattle.rf_start.specs.Start.{fresh}
use Rattle.rf_calls.specs.declared.Request.TheVariants.{Status}
use Rattle.rf_calls.specs.Requests.{requested}
use Rattle.row_theorems.specs.Requests.{SixTooFew}

-- the fifth reply is a failure

zero_line : LinearTransformation
zero_line = line (of_bits binary32 0) (of_bits binary32 0)

abbrev channel : RfChannel
channel =
    fresh
    (record {
      output_interlock_threshold = of_bits binary32 0;
      bias_voltage = of_bits binary32 0;
      state = Off;
      input_power_transform = zero_line;
      output_power_transform = zero_line;
      reflected_power_transform = zero_line;
    })

abbrev givens : Givens
givens = record { tick = 0; alert = true; output_overdrive = false; reflected_overdrive = false; watchdog = false; temperature = Some (of_bits binary32 0x41c8_0000) }

abbrev replies : List ℕ
replies = replicate 36 0 ++ (1 ∷ replicate 98 0)

seven_rows : length (requested channel (Status (record { output = 0; reflected = 0 })) givens replies 0 0).rows ≡ 7
unfolding requested getting_status measuring on_voltages on_temperature on_input on_measures get_input_power halting Mcp3221.get_voltage Ads7924.get_voltages Ads7924.sample done bind mapped note transfer on_got got_at data_at
seven_rows = refl

pub six_too_few : SixTooFew
six_too_few h = let z = h channel (Status (record { output = 0; reflected = 0 })) givens replies 0 0 in omega (arith, z, seven_rows)
