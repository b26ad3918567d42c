-- The AD5627R's frames, as its maker's datasheet lays them out: from the datasheet as known, not looked up. Definitions only.
use Rattle.std.specs.Prelude.{ℕ, ◌+◌, ◌*◌, ◌/◌, ◌%◌, ◌^◌}
use Rattle.bus.specs.declared.Transfer.{Transfer}
use Rattle.bus.specs.declared.Transfer.TheVariants.{Write3}
use Rattle.ad5627.specs.declared.Dac.{Dac}
use Rattle.ad5627.specs.declared.Dac.TheVariants.{A, B, Both}

-- seven bits, 0 0 0 1 1 1 0, the address pin not connected
abbrev pub address : ℕ
address = 0b000_1110

-- ---- the fields

-- C2 C1 C0: of the eight commands, those that are sent
pub data Command : Type 0 where
  write_input : Command
  reset : Command
  reference_setup : Command

abbrev pub command_bits : Command → ℕ
command_bits write_input = 0b000
command_bits reset = 0b101
command_bits reference_setup = 0b111

-- A2 A1 A0
abbrev pub address_bits : Dac → ℕ
address_bits A = 0b000
address_bits B = 0b001
address_bits Both = 0b111

-- D11 .. D0, and four bits that are not used
abbrev pub coded : ℕ → ℕ
coded code = 2 ^ 4 * code

-- the internal reference is switched by the lowest bit
abbrev pub reference_on : ℕ
reference_on = 0b1

-- ---- the input shift register, 24 bits: 0 0 C2 C1 C0 A2 A1 A0, and sixteen of data
abbrev pub register : Command → Dac → ℕ → ℕ
register command dac payload = 2 ^ 19 * command_bits command + 2 ^ 16 * address_bits dac + payload

-- the write of a register: three bytes, the high one first
abbrev pub frame : ℕ → Transfer
frame r = Write3 address (r / 2 ^ 16) (r / 2 ^ 8 % 2 ^ 8) (r % 2 ^ 8)
