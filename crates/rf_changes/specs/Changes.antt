-- What has changed in new settings, and the event that they raise. Definitions only.
use Rattle.std.specs.Prelude.{ℕ, Bool, ◌&&◌, eqb, Option, None, Some}
use Rattle.std.specs.Float.Ieee.{eq, ne}
use Rattle.linear_transformation.specs.declared.LinearTransformation.{LinearTransformation}
use Rattle.linear_transformation.specs.Line.{map_of}
use Rattle.rf_channel.specs.declared.ChannelSettings.{ChannelSettings}
use Rattle.rf_channel.specs.declared.ChannelState.{ChannelState}
use Rattle.rf_channel.specs.declared.ChannelState.TheVariants as W
use Rattle.rf_channel.specs.declared.Events.{Events}
use Rattle.rf_channel.specs.declared.Events.TheVariants.{InterlockReset, Disable, DisableRf}
use Rattle.rf_channel.specs.declared.RfChannel.{RfChannel}
use Rattle.rf_channel.specs.declared.States.{States}
use Rattle.rf_channel.specs.declared.States.TheVariants as S
use Rattle.rf_devices.specs.Devices.{highest_reflected}
use Rattle.rf_changes.specs.declared.Changes.{Changes}

-- ---- equality, by f32's ==

abbrev pub state_number : ChannelState → ℕ
state_number W.Off = 0
state_number W.Powered = 1
state_number W.Enabled = 2

abbrev pub same_state : ChannelState → ChannelState → Bool
same_state a b = eqb (state_number a) (state_number b)

abbrev pub same_line : LinearTransformation → LinearTransformation → Bool
same_line a b = eq a.slope b.slope && eq a.offset b.offset

abbrev pub same : ChannelSettings → ChannelSettings → Bool
same a b =
    eq a.output_interlock_threshold b.output_interlock_threshold
    && eq a.bias_voltage b.bias_voltage
    && same_state a.state b.state
    && same_line a.input_power_transform b.input_power_transform
    && same_line a.output_power_transform b.output_power_transform
    && same_line a.reflected_power_transform b.reflected_power_transform

-- ---- what is written again, by f32's != of what the levels are mapped to

abbrev pub changes_of : ChannelSettings → ChannelSettings → Changes
changes_of a b =
    record {
      output = ne (map_of a.output_power_transform a.output_interlock_threshold) (map_of b.output_power_transform b.output_interlock_threshold);
      reflected = ne (map_of a.reflected_power_transform highest_reflected) (map_of b.reflected_power_transform highest_reflected);
      bias = ne b.bias_voltage a.bias_voltage;
    }

abbrev pub stored : RfChannel → ChannelSettings → RfChannel
stored c s = record { settings = s; state = c.state; signal_on = c.signal_on; enable_power = c.enable_power }

-- ---- the event: off is always allowed; RF is switched off in Enabled and Tripped; a channel that is off is powered up

abbrev pub event_of : States → ChannelState → Option Events
event_of s W.Off = Some Disable
event_of S.Enabled W.Powered = Some DisableRf
event_of (S.Tripped i) W.Powered = Some DisableRf
event_of S.Off W.Powered = Some InterlockReset
event_of (S.Blocked f) W.Powered = None
event_of (S.Powerup d) W.Powered = None
event_of S.Powered W.Powered = None
event_of (S.Powerdown d) W.Powered = None
event_of S.Off W.Enabled = Some InterlockReset
event_of (S.Blocked f) W.Enabled = None
event_of (S.Powerup d) W.Enabled = None
event_of S.Powered W.Enabled = None
event_of S.Enabled W.Enabled = None
event_of (S.Tripped i) W.Enabled = None
event_of (S.Powerdown d) W.Enabled = None
