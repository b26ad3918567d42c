-- The clock and the guards. Definitions only.
use Rattle.std.specs.Prelude.{ℕ, ◌+◌, ◌-◌, ◌%◌, ◌^◌, Bool, true, false, not, ◌&&◌, from_bits, nat_le, Float}
use Rattle.std.specs.Float.{binary32}
use Rattle.std.specs.Float.Ieee.{lt}
use Rattle.linear_transformation.specs.Line.{map_of}
use Rattle.rf_channel.specs.declared.ChannelState.{ChannelState}
use Rattle.rf_channel.specs.declared.ChannelState.TheVariants.{Off, Powered, Enabled}
use Rattle.rf_channel.specs.declared.ChannelSettings.{ChannelSettings}
use Rattle.rf_channel.specs.declared.RfChannel.{RfChannel}

-- ---- ticks are milliseconds, 32 bits, wrapping

-- the tick that is so many milliseconds away
abbrev pub later : ℕ → ℕ → ℕ
later tick wait = (tick + wait) % 2 ^ 32

-- how far the tick is past the deadline
abbrev pub past : ℕ → ℕ → ℕ
past tick deadline = (tick + 2 ^ 32 - deadline) % 2 ^ 32

-- late exactly if that is 1 to 2,147,483,647
abbrev pub late_of : ℕ → ℕ → Bool
late_of tick deadline = nat_le 1 (past tick deadline) && nat_le (past tick deadline) 2147483647

-- ---- what the settings ask for

abbrev pub wants_off : ChannelState → Bool
wants_off Off = true
wants_off Powered = false
wants_off Enabled = false

abbrev pub wants_enabled : ChannelState → Bool
wants_enabled Off = false
wants_enabled Powered = false
wants_enabled Enabled = true

-- the settings ask for more than Off
abbrev pub powerup_of : ChannelSettings → Bool
powerup_of s = not (wants_off s.state)

-- 0.100, and the output power that 100 mV on the detector stand for
abbrev pub tenth : Float
tenth = from_bits binary32 0x3dcc_cccd

abbrev pub lowest : ChannelSettings → Float
lowest s = map_of s.output_power_transform tenth

-- in order: no watchdog, threshold not < map(0.1), state Enabled, enable_power high. A NaN passes 'not <'
abbrev pub enable_of : RfChannel → Bool → Bool
enable_of c watchdog = not watchdog && not (lt c.settings.output_interlock_threshold (lowest c.settings)) && wants_enabled c.settings.state && c.enable_power
