-- The MCP3221's reply, as its maker's datasheet lays it out: from the datasheet as known, not looked up. Definitions only.
use Rattle.std.specs.Prelude.{ℕ, ◌*◌, ◌+◌, ◌/◌, ◌%◌, ◌^◌}
use Rattle.bus.specs.declared.Transfer.{Transfer}
use Rattle.bus.specs.declared.Transfer.TheVariants.{Read}

-- seven bits, 1 0 0 1 A2 A1 A0, of the part with the address bits 1 0 1
abbrev pub address : ℕ
address = 0b100_1101

-- a reading: two bytes, the high one first
abbrev pub reading : Transfer
reading = Read address 2

-- sixteen bits: four that are not used, and the code D11 .. D0
abbrev pub word : ℕ → ℕ → ℕ
word unused code = 2 ^ 12 * unused + code

abbrev pub high : ℕ → ℕ
high w = w / 2 ^ 8

abbrev pub low : ℕ → ℕ
low w = w % 2 ^ 8
