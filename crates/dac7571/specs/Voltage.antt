-- dac7571: what programming the output does on the bus, and its answer. Definitions only.
use Rattle.std.specs.Prelude.{ℕ, ◌/◌, ◌%◌, Float, Option, Some, None, Result, Ok, Err}
use Rattle.bus.specs.declared.Eight.{Eight}
use Rattle.bus.specs.declared.Transfer.TheVariants.{Write2}
use Rattle.bus.specs.Run.{Run, done, mapped, try}
use Rattle.conversions.specs.Codes.{volts_of, dac7571_code}
use Rattle.conversions.specs.Constants.{v3_3}
use Rattle.bus.specs.declared.Error.{Error}
use Rattle.gate.specs.declared.Bar.{Bar}
use Rattle.bus.specs.declared.Error.TheVariants as Chip

-- a refusal writes no row; a code goes to the address 0x4C, its high byte first, and is answered in volts
abbrev pub send_code : Option ℕ → Run (Result Float Error)
send_code None = done (Err Chip.Range)
send_code (Some code) = try (Write2 0x4C (code / 256) (code % 256)) (Err Chip.Bus) (λ (d : Eight). done (Ok (volts_of v3_3 code)))

unfoldable pub set_voltage : Float → Run (Result Float Error)
set_voltage voltage = send_code (dac7571_code voltage)

-- called by itself
unfoldable pub own_voltage : Float → Run (Result (Result Float Error) Bar)
own_voltage voltage = mapped Ok (set_voltage voltage)
