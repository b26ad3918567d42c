-- The mcp3221 in document 01's own bytes: a measurement of slot 3 and of a chip that fails, with the row that each adds (`listed`), and the number of each answer (`numbered`). antt computes both sides.
use Rattle.std.specs.Prelude.{◌≡◌, refl, List, [], ◌∷◌, map, Float, Result, Ok, Err}
use Rattle.std.specs.Float.Ieee.{of_bits, of_int, div, mul}
use Rattle.bus.specs.Rows.{bytes, laid}
use Rattle.bus.specs.Replies.{got_at, data_at}
use Rattle.bus.specs.Run.{done, bind, mapped, transfer, on_got}
use Rattle.gate.specs.declared.Bar.TheVariants.{Slot, Log, Replies}
use Rattle.gate.specs.Gate.{answer_number, failed_number}
use Rattle.listing.specs.Case.{Case, Listed, case, f32}
use Rattle.mcp3221.specs.Voltage.{get_voltage, default_voltage}
use Rattle.bus.specs.declared.Failed.{Failed}
use Rattle.gate.specs.declared.Bar.{Bar}
use Rattle.bus.specs.Rows.{no_answer}

-- a row: 16 x slot + kind, address, bytes out, bytes in, status, three bytes out, eight bytes in
pub cases : List (Case (Result (Result Float Failed) Bar))
cases =
    -- 'Read 2 bytes at address 0x4D; code = big-endian word mod 4096; volts = code / 4096 x 3.3'; bench case 7, `F8 00`: f32 1.65
    case default_voltage (0x00_f800ffffffffffff ∷ []) (Ok (Ok (f32 0x3fd3_3333))) (
    0x33_4d_00_02_00_000000_f800000000000000 ∷ [])
    -- 'A failed read logs the count asked for and zero data'
    ∷ case default_voltage (0xff_f800000000000000 ∷ []) (Ok (Err no_answer)) (
    0x33_4d_00_02_01_000000_0000000000000000 ∷ [])
    ∷ []

pub listed : Listed cases
unfolding cases of_bits of_int div mul get_voltage default_voltage mapped done bind transfer on_got got_at data_at bytes laid
listed = refl

-- 0 done, 12 interlock chip failed; at the gate 1 slot above 7, 5 log, 6 replies
pub numbered : (v : Float) → map (answer_number failed_number) (Ok (Ok v) ∷ Ok (Err no_answer) ∷ Err Slot ∷ Err Log ∷ Err Replies ∷ []) ≡ 0 ∷ 12 ∷ 1 ∷ 5 ∷ 6 ∷ []
numbered v = refl
