-- ad5627: what the opening does on the bus, and its answer. Definitions only.
use Rattle.bus.specs.declared.Eight.{Eight}
use Rattle.bus.specs.declared.Transfer.TheVariants.{Write3}
use Rattle.bus.specs.Run.{Run, done, mapped, try}
use Rattle.std.specs.Prelude.{Result, Ok, Err}
use Rattle.bus.specs.declared.Failed.{Failed}
use Rattle.gate.specs.declared.Bar.{Bar}
use Rattle.bus.specs.Rows.{no_answer}

-- two writes to the address 0x0E, a reset and then the internal reference; the first that fails ends it
unfoldable pub opening : Run (Result (Unit {0}) Failed)
opening = try (Write3 0x0E 0x2F 0x00 0x00) (Err no_answer) (λ (d : Eight). try (Write3 0x0E 0x3F 0x00 0x01) (Err no_answer) (λ (e : Eight). done (Ok tt)))

-- called by itself
unfoldable pub own_opening : Run (Result (Result (Unit {0}) Failed) Bar)
own_opening = mapped Ok opening
