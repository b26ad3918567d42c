-- The DAC7571's frame, as its maker's datasheet lays it out: from the datasheet as known, not looked up. Definitions only.
use Rattle.std.specs.Prelude.{ℕ, ◌+◌, ◌*◌, ◌/◌, ◌%◌, ◌^◌}
use Rattle.bus.specs.declared.Transfer.{Transfer}
use Rattle.bus.specs.declared.Transfer.TheVariants.{Write2}

-- seven bits, 1 0 0 1 1 0 A0, the pin A0 held low
abbrev pub address : ℕ
address = 0b100_1100

-- PD1 PD0: 0 0 is normal operation
abbrev pub normal : ℕ
normal = 0b00

-- sixteen bits, 0 0 PD1 PD0 D11 .. D0
abbrev pub word : ℕ → ℕ → ℕ
word pd code = 2 ^ 12 * pd + code

-- the write of a word: two bytes, the high one first
abbrev pub frame : ℕ → Transfer
frame w = Write2 address (w / 2 ^ 8) (w % 2 ^ 8)
