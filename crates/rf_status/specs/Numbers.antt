-- The seven numbers of a status and their places in the caller's slice. Definitions only.
use Rattle.std.specs.Prelude.{List, ◌∷◌, drop, Float, Result, Ok, Err}
use Rattle.std.specs.Float.{binary32}
use Rattle.std.specs.Float.Ieee.{of_bits, mul, div}
use Rattle.rf_status.specs.declared.Numbers.{Numbers}
use Rattle.rf_machine.specs.declared.Cause.{Cause}

-- ---- currents, the 5 V rail; every operation rounds

-- volts x (100.0 / 0.100 / sensor)
abbrev pub current_of : Float → Float → Float
current_of sensor volts = mul binary32 volts (div binary32 (div binary32 (of_bits binary32 0x42c8_0000) (of_bits binary32 0x3dcc_cccd)) sensor)

-- the sensors: 4300.0 and 6200.0
abbrev pub p28v_current_of : Float → Float
p28v_current_of volts = current_of (of_bits binary32 0x4586_6000) volts

abbrev pub p5v_current_of : Float → Float
p5v_current_of volts = current_of (of_bits binary32 0x45c1_c000) volts

-- volts x 2.5
abbrev pub p5v_voltage_of : Float → Float
p5v_voltage_of volts = mul binary32 volts (of_bits binary32 0x4020_0000)

-- ---- the slice

-- temperature, 28 V current, 5 V current, 5 V voltage, input, reflected, output power; places past the seventh stay
abbrev pub filled : Numbers → List Float → List Float
filled n l = n.temperature ∷ n.p28v_current ∷ n.p5v_current ∷ n.p5v_voltage ∷ n.input_power ∷ n.reflected_power ∷ n.output_power ∷ drop 7 l

-- only a whole status is shown
unfoldable pub shown_of : Result Numbers Cause → List Float → List Float
shown_of (Ok n) l = filled n l
shown_of (Err cause) l = l
