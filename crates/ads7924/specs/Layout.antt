-- ads7924: the chip's registers and their fields. That the bytes made from them are document 01's is in Listed.
-- The layout is the datasheet's as known. The datasheet was not looked up. Definitions only.
use Rattle.std.specs.Prelude.{cond, ℕ, ◌+◌, ◌*◌, ◌/◌, ◌%◌, eqb}
use Rattle.std.specs.Int.Bits.{bit_and}
use Rattle.ads7924.specs.declared.Channel.{Channel}
use Rattle.ads7924.specs.declared.Channel.TheVariants.{Zero, One, Two, Three}

-- on the bus, with A0 high
abbrev pub address : ℕ
address = 0x49

abbrev pub number : Channel → ℕ
number Zero = 0
number One = 1
number Two = 2
number Three = 3

-- ---- the registers' numbers

abbrev pub mode_control : ℕ
mode_control = 0x00

abbrev pub interrupt_control : ℕ
interrupt_control = 0x01

-- a channel's word: the upper byte, and the lower in the next register
abbrev pub word_of : Channel → ℕ
word_of channel = 0x02 + 2 * number channel

-- a channel's limits: the upper, and the lower in the next register
abbrev pub limits_of : Channel → ℕ
limits_of channel = 0x0A + 2 * number channel

abbrev pub interrupt_config : ℕ
interrupt_config = 0x12

abbrev pub reset : ℕ
reset = 0x16

-- ---- what is written

-- the command byte for a register and those after it: the INC bit, and the register's number
abbrev pub from : ℕ → ℕ
from register = 128 + register

-- mode control: the mode in bits 7 to 2
abbrev pub mode : ℕ → ℕ
mode m = m * 4

abbrev pub idle : ℕ
idle = mode 0b000000

abbrev pub awake : ℕ
awake = mode 0b100000

-- auto-scan with sleep
abbrev pub scanning : ℕ
scanning = mode 0b111011

-- interrupt configuration: how often a limit is passed before the alarm, in bits 7 to 5
abbrev pub alarm_after : ℕ → ℕ
alarm_after times = times * 32

abbrev pub reset_code : ℕ
reset_code = 0xAA

-- a limit register holds the upper eight of a code's twelve bits
abbrev pub limit : ℕ → ℕ
limit code = code / 16

-- interrupt control: bit k of the lower half lets channel k raise the alarm
abbrev pub bit : Channel → ℕ
bit Zero = 0b0001
bit One = 0b0010
bit Two = 0b0100
bit Three = 0b1000

-- the byte with a channel's bit set: it is added where it is clear
abbrev pub enabling : Channel → ℕ → ℕ
enabling channel byte = cond (eqb (byte / bit channel % 2) 0) (byte + bit channel) byte

-- ---- what is read

-- a word's code: twelve bits, the most significant first; the lower byte's lower half is not used
abbrev pub code_of : ℕ → ℕ → ℕ
code_of upper lower = (256 * upper + lower) / 16

-- interrupt control: the channels that may raise the alarm, in the lower half, and that have passed a limit, in the upper
abbrev pub alarmed : ℕ → ℕ
alarmed byte = bit_and (byte % 16) (byte / 16)
