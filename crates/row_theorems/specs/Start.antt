-- The rows of every start that is answered 0, byte for byte as document 01 lists them. Definitions only.
use Rattle.std.specs.Prelude.{ℕ, ◌+◌, ◌*◌, ◌/◌, ◌%◌, ◌≡◌, Bool, true, List, [], ◌∷◌, map, length, take, replicate, Some}
use Rattle.std.specs.Float.{binary32}
use Rattle.std.specs.Float.Ieee.{of_bits}
use Rattle.linear_transformation.specs.Line.{line}
use Rattle.bus.specs.Rows.{Row, bytes}
use Rattle.bus.specs.Run.{Ran}
use Rattle.interlock.specs.Level.{level_code}
use Rattle.rf_channel.specs.declared.ChannelSettings.{ChannelSettings}
use Rattle.rf_channel.specs.declared.ChannelState.TheVariants.{Enabled}
use Rattle.rf_channel.specs.declared.RfChannel.{RfChannel}
use Rattle.rf_devices.specs.Devices.{highest_reflected}
use Rattle.rf_call.specs.declared.Answer.{Answer}
use Rattle.rf_call.specs.declared.Answer.TheVariants.{Done}
use Rattle.rf_call.specs.declared.Outcome.{Outcome}
use Rattle.rf_call.specs.declared.Outcome.TheVariants.{Live}
use Rattle.rf_call.specs.declared.Report.TheVariants.{Plain}
use Rattle.rf_start.specs.Start.{fresh, starting}

-- the first eight bytes of a row; the other eight are what came back
abbrev pub seen : Row → List ℕ
seen r = take 8 (bytes r)

-- slot and kind, address or pin, how many bytes out, how many in, status 0, three bytes out
abbrev pub row : ℕ → ℕ → ℕ → ℕ → ℕ → ℕ → ℕ → ℕ → List ℕ
row slot kind address outs ins x y z = (16 * slot + kind) ∷ address ∷ outs ∷ ins ∷ 0 ∷ x ∷ y ∷ z ∷ []

-- signal_on low, enable_power low; bias 3.2; the power monitor's opening with a wait of 500 us, its channel 3, its alarm; the interlock chip's opening; the input power's chip; the output level as code x, the reflected level as code y
abbrev pub start_rows : ℕ → ℕ → ℕ → List (List ℕ)
start_rows n x y =
    row n 0 0 1 0 0 0 0
    ∷ row n 0 1 1 0 0 0 0
    ∷ row n 1 0x4C 2 0 0x0F 0x83 0
    ∷ row n 1 0x49 2 0 0x16 0xAA 0
    ∷ row n 4 0 2 0 0x01 0xF4 0
    ∷ row n 1 0x49 2 0 0x00 0x80 0
    ∷ row n 1 0x49 2 0 0x12 0x20 0
    ∷ row n 1 0x49 2 0 0x00 0xEC 0
    ∷ row n 1 0x49 2 0 0x00 0x00 0
    ∷ row n 2 0x49 1 2 0x88 0 0
    ∷ row n 1 0x49 2 0 0x00 0x80 0
    ∷ row n 1 0x49 2 0 0x00 0xEC 0
    ∷ row n 2 0x49 1 1 0x01 0 0
    ∷ row n 1 0x0E 3 0 0x2F 0x00 0x00
    ∷ row n 1 0x0E 3 0 0x3F 0x00 0x01
    ∷ row n 3 0x4D 0 2 0 0 0
    ∷ row n 1 0x0E 3 0 0x01 (16 * x / 256) (16 * x % 256)
    ∷ row n 1 0x0E 3 0 0x00 (16 * y / 256) (16 * y % 256)
    ∷ []

-- the rows of a start with these settings, of which all transfers were acknowledged, and the codes that it sent
pub record Started (s : ChannelSettings) (slot taken : ℕ) (x : Ran Outcome) : Type 0 where
  pub output : ℕ
  pub reflected : ℕ
  pub output_code_lem : level_code s.output_power_transform s.output_interlock_threshold ≡ Some output
  pub reflected_code_lem : level_code s.reflected_power_transform highest_reflected ≡ Some reflected
  pub rows : map seen x.rows ≡ start_rows slot output reflected
  pub count : length x.rows ≡ 18
  pub replies : x.taken ≡ taken + 15

abbrev pub EveryStart : Type 0
EveryStart = (s : ChannelSettings) (present : Bool) (replies : List ℕ) (slot taken : ℕ) (c : RfChannel) (answer : Answer) → (starting s present replies slot taken).ans ≡ Live c answer → Started s slot taken (starting s present replies slot taken)

-- .. and such starts there are: with the settings of document 01's trace (threshold 15.0, bias -1.0, the lines 1 and 0, 20 and -10, 32 and -10, Enabled), and every reply acknowledged
abbrev pub traced : ChannelSettings
traced =
    record {
      output_interlock_threshold = of_bits binary32 0x4170_0000;
      bias_voltage = of_bits binary32 0xbf80_0000;
      state = Enabled;
      input_power_transform = line (of_bits binary32 0x3f80_0000) (of_bits binary32 0);
      output_power_transform = line (of_bits binary32 0x41a0_0000) (of_bits binary32 0xc120_0000);
      reflected_power_transform = line (of_bits binary32 0x4200_0000) (of_bits binary32 0xc120_0000);
    }

abbrev pub SomeStart : Type 0
SomeStart = (starting traced true (replicate 135 0) 0 0).ans ≡ Live (fresh traced) (Done Plain)
