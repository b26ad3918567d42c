-- ad5627: what programming an output does on the bus, and its answer. Definitions only.
use Rattle.std.specs.Prelude.{ℕ, ◌*◌, ◌/◌, ◌%◌, Float, Option, Some, None, Result, Ok, Err}
use Rattle.bus.specs.declared.Eight.{Eight}
use Rattle.bus.specs.declared.Transfer.TheVariants.{Write3}
use Rattle.bus.specs.Run.{Run, done, mapped, try}
use Rattle.conversions.specs.Codes.{volts_of, ad5627_code}
use Rattle.conversions.specs.Constants.{v2_5}
use Rattle.ad5627.specs.declared.Dac.{Dac}
use Rattle.ad5627.specs.declared.Dac.TheVariants.{A, B, Both}
use Rattle.bus.specs.declared.Error.{Error}
use Rattle.gate.specs.declared.Bar.{Bar}
use Rattle.bus.specs.declared.Error.TheVariants as Chip

-- the first byte of a write to an output
abbrev pub dac_byte : Dac → ℕ
dac_byte A = 0
dac_byte B = 1
dac_byte Both = 7

-- a code goes to the address 0x0E after the output's byte, as code x 16 with the high byte first, and is answered in volts
abbrev pub write_code : Dac → ℕ → Run (Result Float Error)
write_code dac code = try (Write3 0x0E (dac_byte dac) (16 * code / 256) (16 * code % 256)) (Err Chip.Bus) (λ (d : Eight). done (Ok (volts_of v2_5 code)))

-- what a conversion answered: a refusal writes no row
abbrev pub send_code : Dac → Option ℕ → Run (Result Float Error)
send_code dac None = done (Err Chip.Range)
send_code dac (Some code) = write_code dac code

unfoldable pub set_voltage : Float → Dac → Run (Result Float Error)
set_voltage voltage dac = send_code dac (ad5627_code voltage)

-- called by itself
unfoldable pub own_voltage : Float → Dac → Run (Result (Result Float Error) Bar)
own_voltage voltage dac = mapped Ok (set_voltage voltage dac)
