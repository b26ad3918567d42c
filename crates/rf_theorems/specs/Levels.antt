-- What the interlock chip gets for the two levels. Definitions only.
use Rattle.std.specs.Prelude.{◌≡◌, Float}
use Rattle.interlock.specs.Level.{level_code}
use Rattle.interlock.specs.Demand3.{Demand3}
use Rattle.ad5627.specs.declared.Dac.TheVariants.{A, B}
use Rattle.ad5627.specs.Voltage.{send_code}
use Rattle.rf_channel.specs.declared.ChannelSettings.{ChannelSettings}
use Rattle.rf_devices.specs.Devices.{apply_output, set_reflected}

-- the level's code, of which demand 3 holds: the output power's as output B, the reflected power's as A
pub record LevelsSent : Type 0 where
  pub output : (s : ChannelSettings) → apply_output s ≡ send_code B (level_code s.output_power_transform s.output_interlock_threshold)
  pub reflected : (s : ChannelSettings) (power : Float) → set_reflected s power ≡ send_code A (level_code s.reflected_power_transform power)
  pub right : Demand3 level_code
