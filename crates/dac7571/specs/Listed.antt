-- The dac7571 in document 01's own bytes: voltages that are sent, sent in vain or refused, in slot 3, with the row that each adds (`listed`), and the number of each answer (`numbered`). antt computes both sides.
use Rattle.std.specs.Prelude.{◌≡◌, refl, List, [], ◌∷◌, map, Float, Result, Ok, Err}
use Rattle.std.specs.Float.{nan}
use Rattle.std.specs.Float.Ieee.{round, neg, of_bits, to_bits, to_unsigned, of_int, div, mul, le, lt}
use Rattle.bus.specs.Rows.{bytes, laid}
use Rattle.bus.specs.Replies.{got_at, data_at}
use Rattle.bus.specs.Run.{done, bind, mapped, transfer, on_got}
use Rattle.gate.specs.declared.Bar.TheVariants.{Slot, Log, Replies}
use Rattle.gate.specs.Gate.{answer_number, error_number}
use Rattle.listing.specs.Case.{Case, Listed, case, acked, failed, f32, decimal, just_below}
use Rattle.dac7571.specs.Voltage.{set_voltage, own_voltage}
use Rattle.bus.specs.declared.Error.{Error}
use Rattle.gate.specs.declared.Bar.{Bar}
use Rattle.bus.specs.declared.Error.TheVariants as Chip

-- a row: 16 x slot + kind, address, bytes out, bytes in, status, three bytes out, eight bytes in
pub cases : List (Case (Result (Result Float Error) Bar))
cases =
    -- 'Address 0x4C. Code = v / 3.3 x 4096 cut to a whole number; 2 bytes big-endian. Result = code / 4096 x 3.3': bench case 5, 3.2 is `0F 83` (3971 / 4096 x 3.3), 1.65 is `08 00` (1.65)
    case (own_voltage (decimal 32 10)) (acked ∷ []) (Ok (Ok (f32 0x404c_c133))) (
    0x31_4c_02_00_00_0f8300_0000000000000000 ∷ [])
    ∷ case (own_voltage (decimal 165 100)) (0x00_ffffffffffffffff ∷ []) (Ok (Ok (f32 0x3fd3_3333))) (
    0x31_4c_02_00_00_080000_0000000000000000 ∷ [])
    -- the last code, 4095 / 4096 x 3.3
    ∷ case (own_voltage (just_below (decimal 33 10))) (acked ∷ []) (Ok (Ok (f32 0x4053_2600))) (
    0x31_4c_02_00_00_0fff00_0000000000000000 ∷ [])
    -- 'NaN passes both comparisons and sends code 0'
    ∷ case (own_voltage nan) (acked ∷ []) (Ok (Ok (f32 0x0000_0000))) (
    0x31_4c_02_00_00_000000_0000000000000000 ∷ [])
    -- a write that fails
    ∷ case (own_voltage (decimal 32 10)) (failed ∷ []) (Ok (Err Chip.Bus)) (
    0x31_4c_02_00_01_0f8300_0000000000000000 ∷ [])
    -- 'Refused for range if v >= 3.3 or v < 0', with no row
    ∷ case (own_voltage (decimal 33 10)) (acked ∷ []) (Ok (Err Chip.Range)) []
    ∷ case (own_voltage (neg (decimal 1 10))) (acked ∷ []) (Ok (Err Chip.Range)) []
    ∷ []

pub listed : Listed cases
unfolding cases round neg of_bits to_bits to_unsigned of_int div mul le lt set_voltage own_voltage mapped done bind transfer on_got got_at data_at bytes laid
listed = refl

-- 0 done, 11 value out of range, 12 interlock chip failed; at the gate 1 slot above 7, 5 log, 6 replies
pub numbered : (v : Float) → map (answer_number error_number) (Ok (Ok v) ∷ Ok (Err Chip.Range) ∷ Ok (Err Chip.Bus) ∷ Err Slot ∷ Err Log ∷ Err Replies ∷ []) ≡ 0 ∷ 11 ∷ 12 ∷ 1 ∷ 5 ∷ 6 ∷ []
numbered v = refl
