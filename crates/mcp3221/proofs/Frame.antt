-- What the mcp3221 is asked is one reading (`asked`), and of its two bytes the twelve bits of the code are taken, whatever stands in the four that are not used (`twelve_bits`). Assumes nothing.
use Rattle.std.specs.Prelude.{Ok, Err}
use mathlib.Core.Path.{◌≡◌, refl}
use Prim.Native.Nat.{ℕ, ◌<◌, ◌^◌}
use native.Mathlib.Omega.{arith}
use lib.Ieee.{Float}
use Rattle.bus.specs.declared.Eight.{Eight}
use Rattle.bus.specs.Run.{done, try}
use Rattle.conversions.specs.Codes.{volts_of}
use Rattle.mcp3221.specs.Layout.{reading, word, high, low}
use Rattle.mcp3221.specs.Voltage.{code_of, get_voltage}
use Rattle.bus.specs.Rows.{no_answer}

pub asked : (supply : Float) → get_voltage supply ≡ try reading (Err no_answer) (λ (d : Eight). done (Ok (volts_of supply (code_of d.b0 d.b1))))
unfolding get_voltage
asked supply = refl

pub twelve_bits : (unused code : ℕ) → code < 2 ^ 12 → code_of (high (word unused code)) (low (word unused code)) ≡ code
twelve_bits unused code h = omega arith
