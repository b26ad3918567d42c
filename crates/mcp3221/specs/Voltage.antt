-- mcp3221: what a measurement does on the bus, and its answer. Definitions only.
use Rattle.std.specs.Prelude.{ℕ, ◌+◌, ◌*◌, ◌%◌, Float, Result, Ok, Err}
use Rattle.bus.specs.declared.Eight.{Eight}
use Rattle.bus.specs.declared.Transfer.TheVariants.{Read}
use Rattle.bus.specs.Run.{Run, done, mapped, try}
use Rattle.conversions.specs.Codes.{volts_of}
use Rattle.conversions.specs.Constants.{v3_3}
use Rattle.bus.specs.declared.Failed.{Failed}
use Rattle.gate.specs.declared.Bar.{Bar}
use Rattle.bus.specs.Rows.{no_answer}

-- the word that two bytes make, the high byte first, mod 4096
abbrev pub code_of : ℕ → ℕ → ℕ
code_of high low = (256 * high + low) % 4096

-- two bytes from the address 0x4D, and the volts that they stand for
unfoldable pub get_voltage : Float → Run (Result Float Failed)
get_voltage supply = try (Read 0x4D 2) (Err no_answer) (λ (d : Eight). done (Ok (volts_of supply (code_of d.b0 d.b1))))

-- called by itself, at the default supply
unfoldable pub default_voltage : Run (Result (Result Float Failed) Bar)
default_voltage = mapped Ok (get_voltage v3_3)
