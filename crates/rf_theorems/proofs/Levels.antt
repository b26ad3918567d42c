-- What the interlock chip gets for a level is the level's code, of which demand 3 holds; and 3.2 V is in the bias chip's range. Assumes nothing.
use Rattle.std.specs.Prelude.{Some}
use mathlib.Core.Path.{◌≡◌, refl}
use lib.Ieee.{of_bits, round, lt, le, mul, div, to_unsigned, of_int}
use Rattle.conversions.specs.Codes.{dac7571_code}
use Rattle.interlock.proofs.Demand3.{demand_3}
use Rattle.ad5627.specs.Voltage.{set_voltage}
use Rattle.rf_machine.specs.Hardware.{v3_2}
use Rattle.rf_devices.specs.Devices.{apply_output, set_reflected}
use Rattle.rf_theorems.specs.Levels.{LevelsSent}

pub levels_sent : LevelsSent
unfolding apply_output set_reflected set_voltage
levels_sent = record { output = λ s. refl; reflected = λ s power. refl; right = demand_3 }

pub pinch_off_in_range : dac7571_code v3_2 ≡ Some 0x0F83
unfolding of_bits lt le mul div round to_unsigned of_int
pinch_off_in_range = refl
