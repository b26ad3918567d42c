-- The ads7924 in document 01's own bytes: each of its calls in slot 3, with its answer and the rows that it adds, for each channel, and where each transfer of it fails (`listed`). antt computes both sides.
use Rattle.std.specs.Prelude.{refl, false, List, [], ◌∷◌, Result, Ok, Err, ℕ, Float}
use Rattle.std.specs.Float.{nan, inf}
use Rattle.std.specs.Float.Ieee.{round, neg, of_bits, to_bits, to_unsigned, of_int, div, mul, lt}
use Rattle.bus.specs.Rows.{bytes, laid}
use Rattle.bus.specs.Replies.{got_at, data_at}
use Rattle.bus.specs.Run.{done, bind, mapped, note, transfer, on_got}
use Rattle.listing.specs.Case.{Case, Listed, case, acked, failed, f32, decimal, just_below}
use Rattle.ads7924.specs.declared.Channel.TheVariants.{Zero, One, Two, Three}
use Rattle.ads7924.specs.Calls.{opening, sample, get_voltage, get_voltages, clear_alarm, arm, set_thresholds}
use Rattle.bus.specs.declared.Failed.{Failed}
use Rattle.bus.specs.declared.Error.{Error}
use Rattle.ads7924.specs.declared.Four.{Four}
use Rattle.bus.specs.declared.Error.TheVariants as Chip
use Rattle.bus.specs.Rows.{no_answer}

-- a row: 16 x slot + kind, address, bytes out, bytes in, status, three bytes out, eight bytes in
pub openings : List (Case (Result (Unit {0}) Failed))
openings =
    -- 'Address 0x49. Opening: `16 AA`, wait 500 us, `00 80`, `12 20`, `00 EC`'; a wait's microseconds stand big-endian, and it takes no reply
    case opening (acked ∷ acked ∷ acked ∷ acked ∷ []) (Ok tt) (
    0x31_49_02_00_00_16aa00_0000000000000000 ∷
    0x34_00_02_00_00_01f400_0000000000000000 ∷
    0x31_49_02_00_00_008000_0000000000000000 ∷
    0x31_49_02_00_00_122000_0000000000000000 ∷
    0x31_49_02_00_00_00ec00_0000000000000000 ∷ [])
    -- the first transfer that fails ends it
    ∷ case opening (failed ∷ acked ∷ acked ∷ acked ∷ []) (Err no_answer) (
    0x31_49_02_00_01_16aa00_0000000000000000 ∷ [])
    ∷ case opening (acked ∷ failed ∷ acked ∷ acked ∷ []) (Err no_answer) (
    0x31_49_02_00_00_16aa00_0000000000000000 ∷
    0x34_00_02_00_00_01f400_0000000000000000 ∷
    0x31_49_02_00_01_008000_0000000000000000 ∷ [])
    ∷ case opening (acked ∷ acked ∷ failed ∷ acked ∷ []) (Err no_answer) (
    0x31_49_02_00_00_16aa00_0000000000000000 ∷
    0x34_00_02_00_00_01f400_0000000000000000 ∷
    0x31_49_02_00_00_008000_0000000000000000 ∷
    0x31_49_02_00_01_122000_0000000000000000 ∷ [])
    ∷ case opening (acked ∷ acked ∷ acked ∷ failed ∷ []) (Err no_answer) (
    0x31_49_02_00_00_16aa00_0000000000000000 ∷
    0x34_00_02_00_00_01f400_0000000000000000 ∷
    0x31_49_02_00_00_008000_0000000000000000 ∷
    0x31_49_02_00_00_122000_0000000000000000 ∷
    0x31_49_02_00_01_00ec00_0000000000000000 ∷ [])
    ∷ []

pub voltages : List (Case (Result Float Failed))
voltages =
    -- 'One voltage: `00 00`, read 2 bytes from command 0x82 + 2 x channel, `00 80`, `00 EC`. Volts = (word / 16, cut) x (3.434 / 4096)': bench case 8, `80 00` is 1.717; a half of it, a quarter and an eighth. What was not asked for is not kept
    case (get_voltage Zero) (acked ∷ 0x00_8000ffffffffffff ∷ acked ∷ acked ∷ []) (Ok (f32 0x3fdb_c6a8)) (
    0x31_49_02_00_00_000000_0000000000000000 ∷
    0x32_49_01_02_00_820000_8000000000000000 ∷
    0x31_49_02_00_00_008000_0000000000000000 ∷
    0x31_49_02_00_00_00ec00_0000000000000000 ∷ [])
    ∷ case (get_voltage One) (acked ∷ 0x00_400fffffffffffff ∷ acked ∷ acked ∷ []) (Ok (f32 0x3f5b_c6a8)) (
    0x31_49_02_00_00_000000_0000000000000000 ∷
    0x32_49_01_02_00_840000_400f000000000000 ∷
    0x31_49_02_00_00_008000_0000000000000000 ∷
    0x31_49_02_00_00_00ec00_0000000000000000 ∷ [])
    ∷ case (get_voltage Two) (acked ∷ 0x00_200fffffffffffff ∷ acked ∷ acked ∷ []) (Ok (f32 0x3edb_c6a8)) (
    0x31_49_02_00_00_000000_0000000000000000 ∷
    0x32_49_01_02_00_860000_200f000000000000 ∷
    0x31_49_02_00_00_008000_0000000000000000 ∷
    0x31_49_02_00_00_00ec00_0000000000000000 ∷ [])
    ∷ case (get_voltage Three) (acked ∷ 0x00_100fffffffffffff ∷ acked ∷ acked ∷ []) (Ok (f32 0x3e5b_c6a8)) (
    0x31_49_02_00_00_000000_0000000000000000 ∷
    0x32_49_01_02_00_880000_100f000000000000 ∷
    0x31_49_02_00_00_008000_0000000000000000 ∷
    0x31_49_02_00_00_00ec00_0000000000000000 ∷ [])
    -- a transfer of it that fails; a failed read logs the count asked for and zero data
    ∷ case (get_voltage Three) (failed ∷ acked ∷ acked ∷ acked ∷ []) (Err no_answer) (
    0x31_49_02_00_01_000000_0000000000000000 ∷ [])
    ∷ case (get_voltage Three) (acked ∷ 0x01_8000000000000000 ∷ acked ∷ acked ∷ []) (Err no_answer) (
    0x31_49_02_00_00_000000_0000000000000000 ∷
    0x32_49_01_02_01_880000_0000000000000000 ∷ [])
    ∷ case (get_voltage Three) (acked ∷ acked ∷ failed ∷ acked ∷ []) (Err no_answer) (
    0x31_49_02_00_00_000000_0000000000000000 ∷
    0x32_49_01_02_00_880000_0000000000000000 ∷
    0x31_49_02_00_01_008000_0000000000000000 ∷ [])
    ∷ case (get_voltage Three) (acked ∷ acked ∷ acked ∷ failed ∷ []) (Err no_answer) (
    0x31_49_02_00_00_000000_0000000000000000 ∷
    0x32_49_01_02_00_880000_0000000000000000 ∷
    0x31_49_02_00_00_008000_0000000000000000 ∷
    0x31_49_02_00_01_00ec00_0000000000000000 ∷ [])
    ∷ []

pub fours : List (Case (Result Four Failed))
fours =
    -- 'Four voltages: the same with 8 bytes from 0x82'
    case get_voltages (acked ∷ 0x00_8000400020001000 ∷ acked ∷ acked ∷ []) (Ok (record { v0 = f32 0x3fdb_c6a8; v1 = f32 0x3f5b_c6a8; v2 = f32 0x3edb_c6a8; v3 = f32 0x3e5b_c6a8 })) (
    0x31_49_02_00_00_000000_0000000000000000 ∷
    0x32_49_01_08_00_820000_8000400020001000 ∷
    0x31_49_02_00_00_008000_0000000000000000 ∷
    0x31_49_02_00_00_00ec00_0000000000000000 ∷ [])
    ∷ case get_voltages (failed ∷ acked ∷ acked ∷ acked ∷ []) (Err no_answer) (
    0x31_49_02_00_01_000000_0000000000000000 ∷ [])
    ∷ case get_voltages (acked ∷ 0x01_8000400020001000 ∷ acked ∷ acked ∷ []) (Err no_answer) (
    0x31_49_02_00_00_000000_0000000000000000 ∷
    0x32_49_01_08_01_820000_0000000000000000 ∷ [])
    ∷ case get_voltages (acked ∷ acked ∷ failed ∷ acked ∷ []) (Err no_answer) (
    0x31_49_02_00_00_000000_0000000000000000 ∷
    0x32_49_01_08_00_820000_0000000000000000 ∷
    0x31_49_02_00_01_008000_0000000000000000 ∷ [])
    ∷ case get_voltages (acked ∷ acked ∷ acked ∷ failed ∷ []) (Err no_answer) (
    0x31_49_02_00_00_000000_0000000000000000 ∷
    0x32_49_01_08_00_820000_0000000000000000 ∷
    0x31_49_02_00_00_008000_0000000000000000 ∷
    0x31_49_02_00_01_00ec00_0000000000000000 ∷ [])
    ∷ []

pub alarms : List (Case (Result ℕ Failed))
alarms =
    -- 'Alarm: 1 byte from 0x01; low half AND high half'
    case clear_alarm (0x00_5300000000000000 ∷ []) (Ok 0x1) (
    0x32_49_01_01_00_010000_5300000000000000 ∷ [])
    ∷ case clear_alarm (0x00_aeffffffffffffff ∷ []) (Ok 0xa) (
    0x32_49_01_01_00_010000_ae00000000000000 ∷ [])
    ∷ case clear_alarm (0x00_f000000000000000 ∷ []) (Ok 0x0) (
    0x32_49_01_01_00_010000_f000000000000000 ∷ [])
    ∷ case clear_alarm (0x01_ff00000000000000 ∷ []) (Err no_answer) (
    0x32_49_01_01_01_010000_0000000000000000 ∷ [])
    ∷ []

pub thresholds : List (Case (Result (Unit {0}) Error))
thresholds =
    -- 'Thresholds: code = v / (3.434 / 4096), cut; write `8A + 2 x channel`, high code / 16, low code / 16; read 0x01, set the channel's bit, write it back to 0x01': 0.8585 is code 1024, 1.717 code 2048, 1.0 code 1192, 3.0 code 3578
    case (set_thresholds Zero (decimal 8585 10000) (decimal 1717 1000)) (acked ∷ acked ∷ acked ∷ []) (Ok tt) (
    0x31_49_03_00_00_8a8040_0000000000000000 ∷
    0x32_49_01_01_00_010000_0000000000000000 ∷
    0x31_49_02_00_00_010100_0000000000000000 ∷ [])
    ∷ case (set_thresholds One (decimal 1 1) (decimal 3 1)) (acked ∷ 0x00_0100000000000000 ∷ acked ∷ []) (Ok tt) (
    0x31_49_03_00_00_8cdf4a_0000000000000000 ∷
    0x32_49_01_01_00_010000_0100000000000000 ∷
    0x31_49_02_00_00_010300_0000000000000000 ∷ [])
    ∷ case (set_thresholds Two (decimal 0 1) (just_below (decimal 3434 1000))) (acked ∷ 0x00_f3ffffffffffffff ∷ acked ∷ []) (Ok tt) (
    0x31_49_03_00_00_8eff00_0000000000000000 ∷
    0x32_49_01_01_00_010000_f300000000000000 ∷
    0x31_49_02_00_00_01f700_0000000000000000 ∷ [])
    ∷ case (set_thresholds Three (decimal 1717 1000) (decimal 1717 1000)) (acked ∷ 0x00_0800000000000000 ∷ acked ∷ []) (Ok tt) (
    0x31_49_03_00_00_908080_0000000000000000 ∷
    0x32_49_01_01_00_010000_0800000000000000 ∷
    0x31_49_02_00_00_010800_0000000000000000 ∷ [])
    -- 'NaN to 0'
    ∷ case (set_thresholds Zero nan nan) (acked ∷ acked ∷ acked ∷ []) (Ok tt) (
    0x31_49_03_00_00_8a0000_0000000000000000 ∷
    0x32_49_01_01_00_010000_0000000000000000 ∷
    0x31_49_02_00_00_010100_0000000000000000 ∷ [])
    -- a transfer of it that fails
    ∷ case (set_thresholds One (decimal 1 1) (decimal 3 1)) (failed ∷ acked ∷ acked ∷ []) (Err Chip.Bus) (
    0x31_49_03_00_01_8cdf4a_0000000000000000 ∷ [])
    ∷ case (set_thresholds One (decimal 1 1) (decimal 3 1)) (acked ∷ 0x01_0100000000000000 ∷ acked ∷ []) (Err Chip.Bus) (
    0x31_49_03_00_00_8cdf4a_0000000000000000 ∷
    0x32_49_01_01_01_010000_0000000000000000 ∷ [])
    ∷ case (set_thresholds One (decimal 1 1) (decimal 3 1)) (acked ∷ acked ∷ failed ∷ []) (Err Chip.Bus) (
    0x31_49_03_00_00_8cdf4a_0000000000000000 ∷
    0x32_49_01_01_00_010000_0000000000000000 ∷
    0x31_49_02_00_01_010200_0000000000000000 ∷ [])
    -- 'Bounds if high < low or either < 0; Bounds if a code >= 4096', with no row; codes saturate at 65,535
    ∷ case (set_thresholds Zero (decimal 2 1) (decimal 1 1)) (acked ∷ acked ∷ acked ∷ []) (Err Chip.Range) []
    ∷ case (set_thresholds Zero (neg (decimal 1 10)) (decimal 1 1)) (acked ∷ acked ∷ acked ∷ []) (Err Chip.Range) []
    ∷ case (set_thresholds Zero (neg (decimal 2 10)) (neg (decimal 1 10))) (acked ∷ acked ∷ acked ∷ []) (Err Chip.Range) []
    ∷ case (set_thresholds Zero (decimal 1 1) (decimal 3434 1000)) (acked ∷ acked ∷ acked ∷ []) (Err Chip.Range) []
    ∷ case (set_thresholds Zero (decimal 1 1) (inf false)) (acked ∷ acked ∷ acked ∷ []) (Err Chip.Range) []
    ∷ []

pub listed : Listed openings × Listed voltages × Listed fours × Listed alarms × Listed thresholds
unfolding openings voltages fours alarms thresholds round neg of_bits to_bits to_unsigned of_int div mul lt opening sample get_voltage get_voltages clear_alarm arm set_thresholds mapped done bind note transfer on_got got_at data_at bytes laid
listed = (refl, refl, refl, refl, refl)
