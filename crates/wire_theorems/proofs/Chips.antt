-- The chips: a code goes to the interlock chip where its conversion has one, and no other row writes a code to it. Assumes nothing.
use Rattle.std.specs.Prelude.{Option, Some, None}
use Prim.Native.Nat.{ℕ, ◌*◌, ◌/◌, ◌%◌}
use native.Mathlib.Omega.{arith}
use mathlib.Core.Path.{◌≡◌, refl}
use lib.Ieee.{Float}
use Rattle.bus.specs.declared.Note.{Note}
use Rattle.bus.specs.Run.{note}
use Rattle.conversions.specs.Codes.{dac7571_code}
use Rattle.mcp3221.specs.Voltage as Mcp3221
use Rattle.dac7571.specs.Voltage as Dac7571
use Rattle.ad5627.specs.declared.Dac.{Dac}
use Rattle.ad5627.specs.Opening as Ad5627Opening
use Rattle.ad5627.specs.Voltage as Ad5627
use Rattle.ads7924.specs.declared.Channel.{Channel}
use Rattle.ads7924.specs.Calls as Ads7924
use Rattle.rf_channel.specs.declared.ChannelSettings.{ChannelSettings}
use Rattle.rf_machine.specs.Hardware.{apply_bias}
use Rattle.rf_devices.specs.Devices.{get_input_power}
use Rattle.wire_theorems.specs.Wire.{Writes}
use Rattle.wire_theorems.proofs.Each.{Each, each_done, each_bind, each_mapped, each_note, each_transfer, each_try}

module _ (P : ℕ → ℕ → ℕ → Type 0) where
  pub quiet_note : (n : Note) → Each (Writes P) (note n)
  unfolding Writes
  quiet_note n = each_note n (λ slot. tt)

  pub quiet_mcp3221 : (supply : Float) → Each (Writes P) (Mcp3221.get_voltage supply)
  unfolding Mcp3221.get_voltage Writes
  quiet_mcp3221 supply = each_try _ _ _ (λ slot g. tt) (λ d. each_done _)

  bias_code : (x : Option ℕ) → Each (Writes P) (Dac7571.send_code x)
  unfolding Writes
  bias_code (Some code) = each_try _ _ _ (λ slot g. tt) (λ d. each_done _)
  bias_code None = each_done _

  pub quiet_dac7571 : (v : Float) → Each (Writes P) (Dac7571.set_voltage v)
  unfolding Dac7571.set_voltage
  quiet_dac7571 v = bias_code (dac7571_code v)

  -- the opening's two writes have other commands
  pub quiet_ad5627_opening : Each (Writes P) Ad5627Opening.opening
  unfolding Ad5627Opening.opening Writes
  quiet_ad5627_opening = each_try _ _ _ (λ slot g e f. absurd (omega arith)) (λ d. each_try _ _ _ (λ slot g e f. absurd (omega arith)) (λ e. each_done _))

  pub each_ad5627 : (dac : Dac) (x : Option ℕ) → ((code : ℕ) → x ≡ Some code → P (Ad5627.dac_byte dac) (16 * code / 256) (16 * code % 256)) → Each (Writes P) (Ad5627.send_code dac x)
  unfolding Writes
  each_ad5627 dac (Some code) h = each_try _ _ _ (λ slot g e f. h code refl) (λ d. each_done _)
  each_ad5627 dac None h = each_done _

  pub quiet_ads7924_opening : Each (Writes P) Ads7924.opening
  unfolding Ads7924.opening Writes
  quiet_ads7924_opening = each_try _ _ _ (λ slot g. tt) (λ d. each_bind _ _ (quiet_note _) (λ u. each_try _ _ _ (λ slot g. tt) (λ e. each_try _ _ _ (λ slot g. tt) (λ f. each_try _ _ _ (λ slot g. tt) (λ h. each_done _)))))

  quiet_sample : (command count : ℕ) → Each (Writes P) (Ads7924.sample command count)
  unfolding Ads7924.sample Writes
  quiet_sample command count = each_try _ _ _ (λ slot g. tt) (λ d. each_try _ _ _ (λ slot g. tt) (λ e. each_try _ _ _ (λ slot g. tt) (λ f. each_try _ _ _ (λ slot g. tt) (λ h. each_done _))))

  pub quiet_ads7924 : (channel : Channel) → Each (Writes P) (Ads7924.get_voltage channel)
  unfolding Ads7924.get_voltage
  quiet_ads7924 channel = each_mapped _ _ (quiet_sample _ _)

  pub quiet_ads7924_all : Each (Writes P) Ads7924.get_voltages
  unfolding Ads7924.get_voltages
  quiet_ads7924_all = each_mapped _ _ (quiet_sample _ _)

  pub quiet_ads7924_alarm : Each (Writes P) Ads7924.clear_alarm
  unfolding Ads7924.clear_alarm Writes
  quiet_ads7924_alarm = each_mapped _ _ (each_transfer _ (λ slot g. tt))

  -- ---- as a channel uses them

  pub quiet_bias : (s : ChannelSettings) → Each (Writes P) (apply_bias s)
  unfolding apply_bias
  quiet_bias s = quiet_dac7571 _

  pub quiet_input : (s : ChannelSettings) → Each (Writes P) (get_input_power s)
  unfolding get_input_power
  quiet_input s = each_mapped _ _ (quiet_mcp3221 _)
