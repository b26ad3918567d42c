-- The chips leave the pins alone: no driver's run has a row of a pin. Assumes nothing.
use Rattle.std.specs.Prelude.{Option, Some, None}
use lib.Ieee.{Float}
use Prim.Native.Nat.{ℕ}
use mathlib.Core.Bool.{Bool, true, false, cond}
use Rattle.bus.specs.Run.{Run}
use Rattle.conversions.specs.Codes.{dac7571_code}
use Rattle.interlock.specs.Level.{level_code}
use Rattle.mcp3221.specs.Voltage as Mcp3221
use Rattle.dac7571.specs.Voltage as Dac7571
use Rattle.ad5627.specs.declared.Dac.{Dac}
use Rattle.ad5627.specs.declared.Dac.TheVariants.{A, B}
use Rattle.ad5627.specs.Opening as Ad5627Opening
use Rattle.ad5627.specs.Voltage as Ad5627
use Rattle.ads7924.specs.declared.Channel.{Channel}
use Rattle.ads7924.specs.Calls as Ads7924
use Rattle.rf_channel.specs.declared.ChannelSettings.{ChannelSettings}
use Rattle.rf_machine.specs.Hardware.{apply_bias}
use Rattle.rf_devices.specs.Devices.{get_input_power, apply_output, set_reflected}
use Rattle.rf_theorems.proofs.Keeps.{Still, still_done, still_bind, still_mapped, still_wait, still_transfer, still_try}

pub still_mcp3221 : (supply : Float) → Still (Mcp3221.get_voltage supply)
unfolding Mcp3221.get_voltage
still_mcp3221 supply = still_try _ _ _ (λ d. still_done _)

dac7571_code_lem : (x : Option ℕ) → Still (Dac7571.send_code x)
dac7571_code_lem (Some code) = still_try _ _ _ (λ d. still_done _)
dac7571_code_lem None = still_done _

pub still_dac7571 : (v : Float) → Still (Dac7571.set_voltage v)
unfolding Dac7571.set_voltage
still_dac7571 v = dac7571_code_lem (dac7571_code v)

pub still_ad5627_opening : Still Ad5627Opening.opening
unfolding Ad5627Opening.opening
still_ad5627_opening = still_try _ _ _ (λ d. still_try _ _ _ (λ e. still_done _))

pub still_ad5627 : (dac : Dac) (x : Option ℕ) → Still (Ad5627.send_code dac x)
still_ad5627 dac (Some code) = still_try _ _ _ (λ d. still_done _)
still_ad5627 dac None = still_done _

pub still_ads7924_opening : Still Ads7924.opening
unfolding Ads7924.opening
still_ads7924_opening = still_try _ _ _ (λ d. still_bind _ _ (still_wait 500) (λ u. still_try _ _ _ (λ e. still_try _ _ _ (λ f. still_try _ _ _ (λ g. still_done _)))))

still_sample : (command count : ℕ) → Still (Ads7924.sample command count)
unfolding Ads7924.sample
still_sample command count = still_try _ _ _ (λ d. still_try _ _ _ (λ e. still_try _ _ _ (λ f. still_try _ _ _ (λ g. still_done _))))

pub still_ads7924 : (channel : Channel) → Still (Ads7924.get_voltage channel)
unfolding Ads7924.get_voltage
still_ads7924 channel = still_mapped _ _ (still_sample _ _)

pub still_ads7924_all : Still Ads7924.get_voltages
unfolding Ads7924.get_voltages
still_ads7924_all = still_mapped _ _ (still_sample _ _)

pub still_ads7924_alarm : Still Ads7924.clear_alarm
unfolding Ads7924.clear_alarm
still_ads7924_alarm = still_mapped _ _ (still_transfer _)

-- ---- as a channel uses them

pub still_bias : (s : ChannelSettings) → Still (apply_bias s)
unfolding apply_bias
still_bias s = still_dac7571 _

pub still_input : (s : ChannelSettings) → Still (get_input_power s)
unfolding get_input_power
still_input s = still_mapped _ _ (still_mcp3221 _)

pub still_output : (s : ChannelSettings) → Still (apply_output s)
unfolding apply_output
still_output s = still_ad5627 B (level_code s.output_power_transform s.output_interlock_threshold)

pub still_reflected : (s : ChannelSettings) (power : Float) → Still (set_reflected s power)
unfolding set_reflected
still_reflected s power = still_ad5627 A (level_code s.reflected_power_transform power)

-- work that is done or not
pub still_cond : {A : Type 0} (b : Bool) {m n : Run A} → Still m → Still n → Still (cond b m n)
still_cond true s t = s
still_cond false s t = t
