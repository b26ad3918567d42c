-- The ad5627 in document 01's own bytes: the opening, and voltages that are sent, sent in vain or refused, in slot 3, with the rows that each adds (`listed`), and the number of each answer (`opening_numbered`, `numbered`). antt computes both sides.
use Rattle.std.specs.Prelude.{◌≡◌, refl, List, [], ◌∷◌, map, Float, Result, Ok, Err}
use Rattle.std.specs.Float.{nan}
use Rattle.std.specs.Float.Ieee.{round, neg, of_bits, to_bits, to_unsigned, of_int, div, mul, le}
use Rattle.bus.specs.Rows.{bytes, laid}
use Rattle.bus.specs.Replies.{got_at, data_at}
use Rattle.bus.specs.Run.{done, bind, mapped, transfer, on_got}
use Rattle.gate.specs.declared.Bar.TheVariants.{Slot, Log, Replies}
use Rattle.gate.specs.Gate.{answer_number, failed_number, error_number}
use Rattle.listing.specs.Case.{Case, Listed, case, acked, failed, f32, decimal, just_below}
use Rattle.ad5627.specs.declared.Dac.TheVariants.{A, B, Both}
use Rattle.ad5627.specs.Opening.{opening, own_opening}
use Rattle.ad5627.specs.Voltage.{set_voltage, own_voltage}
use Rattle.bus.specs.declared.Failed.{Failed}
use Rattle.bus.specs.declared.Error.{Error}
use Rattle.gate.specs.declared.Bar.{Bar}
use Rattle.bus.specs.declared.Error.TheVariants as Chip
use Rattle.bus.specs.Rows.{no_answer}

-- a row: 16 x slot + kind, address, bytes out, bytes in, status, three bytes out, eight bytes in
pub openings : List (Case (Result (Result (Unit {0}) Failed) Bar))
openings =
    -- 'Address 0x0E. Opening writes `2F 00 00`, `3F 00 01`'
    case own_opening (acked ∷ acked ∷ []) (Ok (Ok tt)) (
    0x31_0e_03_00_00_2f0000_0000000000000000 ∷
    0x31_0e_03_00_00_3f0001_0000000000000000 ∷ [])
    -- the first that fails ends it
    ∷ case own_opening (failed ∷ acked ∷ []) (Ok (Err no_answer)) (
    0x31_0e_03_00_01_2f0000_0000000000000000 ∷ [])
    ∷ case own_opening (acked ∷ failed ∷ []) (Ok (Err no_answer)) (
    0x31_0e_03_00_00_2f0000_0000000000000000 ∷
    0x31_0e_03_00_01_3f0001_0000000000000000 ∷ [])
    ∷ []

pub voltages : List (Case (Result (Result Float Error) Bar))
voltages =
    -- 'Write: first byte 0 for A (reflected), 1 for B (output), 7 for both, then code x 16 big-endian. Result = code / 4096 x 2.5'; bench case 1, 1.25 is `00 80 00` on A
    case (own_voltage (decimal 125 100) A) (acked ∷ []) (Ok (Ok (f32 0x3fa0_0000))) (
    0x31_0e_03_00_00_008000_0000000000000000 ∷ [])
    ∷ case (own_voltage (decimal 125 100) B) (acked ∷ []) (Ok (Ok (f32 0x3fa0_0000))) (
    0x31_0e_03_00_00_018000_0000000000000000 ∷ [])
    ∷ case (own_voltage (decimal 125 100) Both) (0x00_ffffffffffffffff ∷ []) (Ok (Ok (f32 0x3fa0_0000))) (
    0x31_0e_03_00_00_078000_0000000000000000 ∷ [])
    -- bench case 3, the f32 just below 2.5: code 4095, and 4095 / 4096 x 2.5
    ∷ case (own_voltage (just_below (decimal 25 10)) A) (acked ∷ []) (Ok (Ok (f32 0x401f_f600))) (
    0x31_0e_03_00_00_00fff0_0000000000000000 ∷ [])
    -- bench case 4, -0.0: code 0
    ∷ case (own_voltage (neg (decimal 0 1)) B) (acked ∷ []) (Ok (Ok (f32 0x0000_0000))) (
    0x31_0e_03_00_00_010000_0000000000000000 ∷ [])
    -- a write that fails
    ∷ case (own_voltage (decimal 125 100) B) (0xff_0000000000000000 ∷ []) (Ok (Err Chip.Bus)) (
    0x31_0e_03_00_01_018000_0000000000000000 ∷ [])
    -- 'Accepted if 0 <= v <= 2.5 and the code, v / 2.5 x 4096 cut, is at most 4095; NaN refused', with no row
    ∷ case (own_voltage (decimal 25 10) A) (acked ∷ []) (Ok (Err Chip.Range)) []
    ∷ case (own_voltage (decimal 26 10) A) (acked ∷ []) (Ok (Err Chip.Range)) []
    ∷ case (own_voltage (neg (decimal 1 10)) B) (acked ∷ []) (Ok (Err Chip.Range)) []
    ∷ case (own_voltage nan Both) (acked ∷ []) (Ok (Err Chip.Range)) []
    ∷ []

pub listed : Listed openings × Listed voltages
unfolding openings voltages round neg of_bits to_bits to_unsigned of_int div mul le opening own_opening set_voltage own_voltage mapped done bind transfer on_got got_at data_at bytes laid
listed = (refl, refl)

-- 0 done, 11 value out of range, 12 interlock chip failed; at the gate 1 slot above 7, 5 log, 6 replies
pub opening_numbered : map (answer_number {A = Unit {0}} failed_number) (Ok (Ok (tt {0})) ∷ Ok (Err no_answer) ∷ Err Slot ∷ Err Log ∷ Err Replies ∷ []) ≡ 0 ∷ 12 ∷ 1 ∷ 5 ∷ 6 ∷ []
opening_numbered = refl

pub numbered : (v : Float) → map (answer_number error_number) (Ok (Ok v) ∷ Ok (Err Chip.Range) ∷ Ok (Err Chip.Bus) ∷ Err Slot ∷ Err Log ∷ Err Replies ∷ []) ≡ 0 ∷ 11 ∷ 12 ∷ 1 ∷ 5 ∷ 6 ∷ []
numbered v = refl
