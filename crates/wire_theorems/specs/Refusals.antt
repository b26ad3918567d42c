-- For what a start may halt with cause 4 and new settings may be answered 11: a level whose count is below 0 or above 4096 - 1/1024, if demand 3's premises hold for it; and a bias that the bias chip has no code for. Definitions only.
use Rattle.std.specs.Prelude.{ℕ, ◌≡◌, Bool, ◌⊎◌, List, Float, Option, Some, None}
use Rattle.std.specs.Float.Ieee.{neg}
use Rattle.linear_transformation.specs.declared.LinearTransformation.{LinearTransformation}
use Rattle.conversions.specs.Codes.{dac7571_code}
use Rattle.interlock.specs.Level.{level_code}
use Rattle.interlock.specs.Demand3.{Given, OutOfRange, Demand3}
use Rattle.rf_channel.specs.declared.ChannelSettings.{ChannelSettings}
use Rattle.rf_channel.specs.declared.RfChannel.{RfChannel}
use Rattle.rf_machine.specs.declared.Cause.TheVariants.{Threshold}
use Rattle.rf_call.specs.declared.Answer.TheVariants.{Range}
use Rattle.rf_call.specs.declared.Givens.{Givens}
use Rattle.rf_call.specs.declared.Outcome.TheVariants.{Live, Halted}
use Rattle.rf_settings.specs.Reasons.{full_line, full_level}
use Rattle.rf_start.specs.Start.{starting}
use Rattle.rf_calls.specs.declared.Request.TheVariants.{Settings}
use Rattle.rf_calls.specs.Requests.{requested}
use Rattle.wire_theorems.specs.Wire.{thirty}

-- a level that may be refused: out of range in demand 3's sense, or its premises do not hold
abbrev pub Refusable : LinearTransformation → Float → Type 0
Refusable l level = Given l level → OutOfRange l level

-- one of the two levels of some settings
abbrev pub ALevel : ChannelSettings → Type 0
ALevel s = Refusable s.output_power_transform s.output_interlock_threshold ⊎ Refusable s.reflected_power_transform thirty

pub record RefusedForRange : Type 0 where
  -- cause 4
  pub start : (s : ChannelSettings) (present : Bool) (replies : List ℕ) (slot taken : ℕ) → (starting s present replies slot taken).ans ≡ Halted Threshold → ALevel s
  -- answer 11
  pub settings : (c c' : RfChannel) (s : ChannelSettings) (g : Givens) (replies : List ℕ) (slot taken : ℕ) → (requested c (Settings s) g replies slot taken).ans ≡ Live c' Range → ALevel s ⊎ (dac7571_code (neg s.bias_voltage) ≡ None)

-- ---- the level of the highest code, 4095

-- it is sent, and a conversion that refuses it is against demand 3
pub record FullScale : Type 0 where
  pub is_sent : level_code full_line full_level ≡ Some 4095
  pub is_not_refused : (convert : LinearTransformation → Float → Option ℕ) → convert full_line full_level ≡ None → Demand3 convert → ⊥
