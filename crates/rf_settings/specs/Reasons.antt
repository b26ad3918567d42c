-- Why the writes of new settings end as they do, in words of the levels' codes, of the bias chip's conversion and of the rows; and that settings equal to the old change nothing. Definitions only.
use Rattle.std.specs.Prelude.{ℕ, ◌≡◌, true, false, List, [], ◌∷◌, ◌++◌, Float, Result, Ok, Err, None}
use Rattle.std.specs.Float.{binary32}
use Rattle.std.specs.Float.Ieee.{round, neg}
use Rattle.linear_transformation.specs.declared.LinearTransformation.{LinearTransformation}
use Rattle.linear_transformation.specs.Line.{line}
use Rattle.bus.specs.declared.Transfer.TheVariants.{Write2, Write3}
use Rattle.bus.specs.declared.Transfer.{Transfer}
use Rattle.bus.specs.Rows.{Row, moved}
use Rattle.bus.specs.Run.{Run, done}
use Rattle.conversions.specs.Codes.{dac7571_code}
use Rattle.interlock.specs.Level.{level_code}
use Rattle.rf_channel.specs.declared.ChannelSettings.{ChannelSettings}
use Rattle.rf_channel.specs.declared.RfChannel.{RfChannel}
use Rattle.rf_devices.specs.Devices.{highest_reflected}
use Rattle.rf_call.specs.declared.Givens.{Givens}
use Rattle.rf_changes.specs.declared.Changes.{Changes}
use Rattle.rf_changes.specs.Changes.{same}
use Rattle.rf_settings.specs.declared.Wrong.TheVariants.{Range, Chip, Bus}
use Rattle.rf_settings.specs.Settings.{apply_settings, following, handle_settings}
use Rattle.rf_settings.specs.declared.Wrong.{Wrong}
use Rattle.bus.specs.Rows.{no_answer}

-- ---- what is due and has no code: the output level, the reflected level at 30.0, or the bias

pub data Uncoded (due : Changes) (s : ChannelSettings) : Type 0 where
  output : due.output ≡ true → level_code s.output_power_transform s.output_interlock_threshold ≡ None → Uncoded due s
  reflected : due.reflected ≡ true → level_code s.reflected_power_transform highest_reflected ≡ None → Uncoded due s
  bias : due.bias ≡ true → dac7571_code (neg s.bias_voltage) ≡ None → Uncoded due s

-- ---- the last row is a transfer that failed, to the interlock chip or to the bias chip

unfoldable pub ToLevels : Transfer → Type 0
ToLevels t = (first : ℕ) × (second : ℕ) × (third : ℕ) × (t ≡ Write3 0x0E first second third)

unfoldable pub ToBias : Transfer → Type 0
ToBias t = (first : ℕ) × (second : ℕ) × (t ≡ Write2 0x4C first second)

pub record EndsFailed (To : Transfer → Type 0) (slot : ℕ) (rows : List Row) : Type 0 where
  pub earlier : List Row
  pub transfer : Transfer
  pub chip : To transfer
  pub ends : rows ≡ earlier ++ (moved slot transfer (Err no_answer) ∷ [])

-- ---- 11 only for a value without a code, 12 and the halt only for a failed transfer

unfoldable pub Reason : Changes → ChannelSettings → ℕ → List Row → Result (Unit {0}) Wrong → Type 0
Reason due s slot rows (Ok tt) = Unit
Reason due s slot rows (Err Range) = Uncoded due s
Reason due s slot rows (Err Chip) = EndsFailed ToLevels slot rows
Reason due s slot rows (Err Bus) = EndsFailed ToBias slot rows

abbrev pub RangeOnly : (Changes → ChannelSettings → Run (Result (Unit {0}) Wrong)) → Type 0
RangeOnly writes = (due : Changes) (s : ChannelSettings) (replies : List ℕ) (slot taken : ℕ) → let x = writes due s replies slot taken in Reason due s slot x.rows x.ans

-- the highest code: slope 20, offset -10, threshold 39.99, whose count is 4095.18
abbrev pub full_line : LinearTransformation
full_line = line (round binary32 false 20 1) (neg (round binary32 false 10 1))

abbrev pub full_level : Float
full_level = round binary32 false 3999 100

-- ---- settings equal to the old by f32's ==: the channel stays as it is, its old settings included, nothing is written, and the event follows

pub record EqualKeeps : Type 0 where
  pub applied : (c : RfChannel) (s : ChannelSettings) → same c.settings s ≡ true → apply_settings c s ≡ done (Ok c)
  pub handled : (c : RfChannel) (s : ChannelSettings) (g : Givens) (replies : List ℕ) (slot taken : ℕ) → same c.settings s ≡ true → handle_settings c s g replies slot taken ≡ following c s.state g replies slot taken
