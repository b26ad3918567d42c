-- The starred cases of the bench sheet, one table under one statement: a line for each, its case number first, then what the definitions give. A driver's line has the number of its answer, 0 or 11 for a refused range, before the volts or the bytes sent.
-- Volts stand as their pattern, beside that of the decimal which the sheet names. antt computes both sides.
use Rattle.std.specs.Prelude.{◌≡◌, refl, ℕ, ◌-◌, true, false, List, [], ◌∷◌, ◌++◌, get_or, take, drop, Float, Option, None, Some, Result, Ok, Err}
use Rattle.std.specs.Float.{nan, binary32}
use Rattle.std.specs.Float.Ieee.{round, neg, of_bits, to_bits, to_unsigned, of_int, add, mul, div, sub, le, lt}
use Rattle.linear_transformation.specs.Line.{line, map_of}
use Rattle.conversions.specs.Constants.{v2_5}
use Rattle.conversions.specs.Codes.{code_of}
use Rattle.bus.specs.Rows.{Row, bytes, laid, level_of}
use Rattle.bus.specs.Replies.{got_at, data_at}
use Rattle.bus.specs.Run.{Run, done, bind, mapped, note, transfer, on_got}
use Rattle.mcp3221.specs.Voltage as M
use Rattle.ads7924.specs.declared.Channel.TheVariants.{Zero}
use Rattle.ads7924.specs.Calls as P
use Rattle.dac7571.specs.Voltage as B
use Rattle.ad5627.specs.declared.Dac.TheVariants.{A}
use Rattle.ad5627.specs.Voltage.{set_voltage, own_voltage}
use Rattle.gate.specs.Gate.{answer_number, failed_number, error_number}
use Rattle.rf_channel.specs.declared.ChannelFault.{ChannelFault}
use Rattle.rf_channel.specs.declared.ChannelFault.TheVariants.{OverTemperature, UnderTemperature, SupplyAlert}
use Rattle.rf_channel.specs.declared.ChannelState.TheVariants.{Enabled}
use Rattle.rf_channel.specs.declared.Interlock.{Interlock}
use Rattle.rf_channel.specs.declared.Interlock.TheVariants.{Input, Output, Reflected}
use Rattle.rf_channel.specs.declared.RfChannel.{RfChannel}
use Rattle.rf_channel.specs.declared.States.TheVariants.{Powered}
use Rattle.rf_channel.specs.Guards.{late_of}
use Rattle.rf_plan.specs.Table.{table}
use Rattle.rf_plan.specs.Plan.{planned}
use Rattle.rf_machine.specs.declared.Cause.{Cause}
use Rattle.rf_machine.specs.Hardware.{enable_output, hardware}
use Rattle.rf_machine.specs.Event.{carry, process_event}
use Rattle.rf_devices.specs.Devices.{apply_output}
use Rattle.rf_call.specs.declared.Givens.{Givens}
use Rattle.rf_call.specs.declared.Outcome.{Outcome}
use Rattle.rf_call.specs.declared.Outcome.TheVariants.{Live, Absent, Halted}
use Rattle.rf_call.specs.Outcome.{cause_of}
use Rattle.rf_call.specs.Calls.{halting, after_event}
use Rattle.rf_tests.specs.Tests.{fault_of, overdrive_source}
use Rattle.rf_update.specs.Update.{on_check, fault_stage, trip_stage, after_stage, finishing, updating}
use Rattle.bus.specs.declared.Failed.{Failed}
use Rattle.bus.specs.declared.Error.{Error}
use Rattle.gate.specs.declared.Bar.{Bar}
use Rattle.bus.specs.Rows.{no_answer}

-- the f32 nearest to n / d, and the f32 just below a positive one
abbrev pub decimal : ℕ → ℕ → Float
decimal n d = round binary32 false n d

abbrev pub just_below : Float → Float
just_below x = of_bits binary32 (to_bits binary32 x - 1)

-- the pattern of an f32
abbrev pub pattern : Float → ℕ
pattern x = to_bits binary32 x

-- the replies: every transfer is acknowledged, with these two data bytes and six zeros
abbrev pub acknowledged : ℕ → ℕ → List ℕ
acknowledged x y = 0 ∷ x ∷ y ∷ 0 ∷ 0 ∷ 0 ∷ 0 ∷ 0 ∷ 0 ∷ []

-- the bytes out of each row that a run adds
abbrev pub out : List ℕ → List ℕ
out row = take (get_or row 2 0) (drop 5 row)

abbrev pub outs : List Row → List ℕ
outs [] = []
outs (r ∷ rows) = out (bytes r) ++ outs rows

-- the number of a run's answer, and the bytes that it sent
abbrev pub told : {A : Type 0} → (A → ℕ) → Run A → List ℕ
told number m = let r = m (acknowledged 0 0) 0 0 in number r.ans ∷ outs r.rows

-- of a driver called by itself, and of the channel's write of a level
abbrev pub ad5627 : Float → List ℕ
ad5627 v = told (answer_number error_number) (own_voltage v A)

abbrev pub dac7571 : Float → List ℕ
dac7571 v = told (answer_number error_number) (B.own_voltage v)

abbrev pub level : Result Float Error → ℕ
level o = answer_number error_number (Ok o)

-- the number of a measurement's answer, and its volts
abbrev pub measured : Result (Result Float Failed) Bar → List ℕ
measured (Ok (Ok v)) = answer_number failed_number (Ok (Ok v)) ∷ pattern v ∷ []
measured (Ok (Err e)) = answer_number {A = Float} failed_number (Ok (Err no_answer)) ∷ []
measured (Err bar) = answer_number {A = Float} failed_number (Err bar) ∷ []

abbrev pub measured_one : Result Float Failed → List ℕ
measured_one (Ok v) = 0 ∷ pattern v ∷ []
measured_one (Err e) = 12 ∷ []

-- a channel that is powered and is to be enabled, with a threshold on a line of slope 20 and offset -10, and what is given to its update
abbrev pub powered : Float → RfChannel
powered threshold =
    record {
      settings =
          record {
            output_interlock_threshold = threshold;
            bias_voltage = neg (decimal 1 1);
            state = Enabled;
            input_power_transform = line (decimal 1 1) (decimal 0 1);
            output_power_transform = line (decimal 20 1) (neg (decimal 10 1));
            reflected_power_transform = line (decimal 32 1) (neg (decimal 10 1));
          };
      state = Powered;
      signal_on = false;
      enable_power = true;
    }

abbrev pub givens : Givens
givens = record { tick = 0; alert = true; output_overdrive = false; reflected_overdrive = false; watchdog = false; temperature = Some (decimal 25 1) }

-- answer 14 and its cause, or nothing
abbrev pub halted : Outcome → List ℕ
halted (Live c answer) = []
halted Absent = []
halted (Halted cause) = 14 ∷ cause_of cause ∷ []

-- a fault, a failed temperature or a trip's source by a number, and 0 for none
abbrev pub fault : Result (Option ChannelFault) Cause → ℕ
fault (Ok None) = 0
fault (Ok (Some OverTemperature)) = 1
fault (Ok (Some UnderTemperature)) = 2
fault (Ok (Some SupplyAlert)) = 3
fault (Err cause) = 4

abbrev pub trip : Option Interlock → ℕ
trip None = 0
trip (Some Input) = 1
trip (Some Output) = 2
trip (Some Reflected) = 3

pub sheet : List (List ℕ)
sheet =
    (1 ∷ ad5627 (decimal 125 100))
    ∷ (2 ∷ code_of v2_5 (decimal 25 10) ∷ ad5627 (decimal 25 10))
    ∷ (3 ∷ code_of v2_5 (just_below (decimal 25 10)) ∷ ad5627 (just_below (decimal 25 10)))
    ∷ (4 ∷ ad5627 nan)
    ∷ (4 ∷ ad5627 (decimal 0 1))
    ∷ (4 ∷ ad5627 (neg (decimal 0 1)))
    ∷ (5 ∷ dac7571 (decimal 32 10))
    ∷ (5 ∷ dac7571 (decimal 165 100))
    ∷ (6 ∷ dac7571 (decimal 33 10))
    ∷ (6 ∷ dac7571 nan)
    ∷ (7 ∷ pattern (decimal 165 100) ∷ measured (M.default_voltage (acknowledged 0xf8 0x00) 0 0).ans)
    ∷ (8 ∷ pattern (decimal 1717 1000) ∷ measured_one (P.get_voltage Zero (acknowledged 0x80 0x00 ++ acknowledged 0x80 0x00 ++ acknowledged 0 0 ++ acknowledged 0 0) 0 0).ans)
    ∷ (9 ∷ told level (apply_output (powered (decimal 15 1)).settings))
    ∷ (10 ∷ pattern (map_of (line (decimal 20 1) (neg (decimal 10 1))) (decimal 1 10)) ∷ halted (updating (powered (neg (decimal 8 1))) givens [] 0 0).ans)
    ∷ (11 ∷ fault (fault_of (Some (decimal 60 1)) true) ∷ [])
    ∷ (11 ∷ fault (fault_of (Some (decimal 5 1)) true) ∷ [])
    ∷ (11 ∷ trip (overdrive_source (decimal 20 1) givens) ∷ [])
    ∷ (12 ∷ level_of (late_of 200 200) ∷ level_of (late_of 201 200) ∷ [])
    ∷ []

-- what document 01 says
pub expected : List (List ℕ)
expected =
    (1 ∷ 0 ∷ 0x00 ∷ 0x80 ∷ 0x00 ∷ [])
    ∷ (2 ∷ 4096 ∷ 11 ∷ [])
    ∷ (3 ∷ 4095 ∷ 0 ∷ 0x00 ∷ 0xff ∷ 0xf0 ∷ [])
    ∷ (4 ∷ 11 ∷ [])
    ∷ (4 ∷ 0 ∷ 0x00 ∷ 0x00 ∷ 0x00 ∷ [])
    ∷ (4 ∷ 0 ∷ 0x00 ∷ 0x00 ∷ 0x00 ∷ [])
    ∷ (5 ∷ 0 ∷ 0x0f ∷ 0x83 ∷ [])
    ∷ (5 ∷ 0 ∷ 0x08 ∷ 0x00 ∷ [])
    ∷ (6 ∷ 11 ∷ [])
    ∷ (6 ∷ 0 ∷ 0x00 ∷ 0x00 ∷ [])
    ∷ (7 ∷ 0x3fd3_3333 ∷ 0 ∷ 0x3fd3_3333 ∷ [])
    ∷ (8 ∷ 0x3fdb_c6a8 ∷ 0 ∷ 0x3fdb_c6a8 ∷ [])
    ∷ (9 ∷ 0 ∷ 0x01 ∷ 0x80 ∷ 0x00 ∷ [])
    ∷ (10 ∷ 0xc100_0000 ∷ 14 ∷ 5 ∷ [])
    ∷ (11 ∷ 0 ∷ [])
    ∷ (11 ∷ 0 ∷ [])
    ∷ (11 ∷ 0 ∷ [])
    ∷ (12 ∷ 0 ∷ 1 ∷ [])
    ∷ []

pub bench : sheet ≡ expected
unfolding sheet expected round of_bits to_bits neg le lt add mul div sub to_unsigned of_int set_voltage own_voltage apply_output B.set_voltage B.own_voltage M.get_voltage M.default_voltage P.get_voltage P.sample mapped done bind note transfer on_got got_at data_at bytes laid updating fault_stage on_check trip_stage after_stage finishing after_event halting process_event carry planned table hardware enable_output
bench = refl
