-- The fault test, the trip test and the front panel's lights. Definitions only.
use Rattle.std.specs.Prelude.{Bool, true, false, not, cond, Float, Option, None, Some, Result, Ok, Err}
use Rattle.std.specs.Float.{binary32}
use Rattle.std.specs.Float.Ieee.{of_bits, lt}
use Rattle.rf_channel.specs.declared.ChannelFault.{ChannelFault}
use Rattle.rf_channel.specs.declared.ChannelFault.TheVariants.{OverTemperature, UnderTemperature, SupplyAlert}
use Rattle.rf_channel.specs.declared.Interlock.{Interlock}
use Rattle.rf_channel.specs.declared.Interlock.TheVariants.{Input, Output, Reflected}
use Rattle.rf_channel.specs.declared.RfChannel.{RfChannel}
use Rattle.rf_channel.specs.declared.States.{States}
use Rattle.rf_channel.specs.declared.States.TheVariants.{Blocked, Off, Powerup, Powered, Enabled, Tripped, Powerdown}
use Rattle.rf_call.specs.declared.Givens.{Givens}
use Rattle.rf_call.specs.declared.PowerStatus.{PowerStatus}
use Rattle.rf_machine.specs.declared.Cause.{Cause}
use Rattle.rf_machine.specs.declared.Cause.TheVariants.{Temperature as TemperatureUnknown}

-- 60.0 and 5.0 degrees, 20.0 dBm
abbrev pub hottest : Float
hottest = of_bits binary32 0x4270_0000

abbrev pub coldest : Float
coldest = of_bits binary32 0x40a0_0000

abbrev pub strongest : Float
strongest = of_bits binary32 0x41a0_0000

-- the first that applies: the temperature failed, above 60.0, below 5.0, the alert pin low
abbrev pub fault_of : Option Float → Bool → Result (Option ChannelFault) Cause
fault_of None alert = Err TemperatureUnknown
fault_of (Some t) alert = Ok (cond (lt hottest t) (Some OverTemperature) (cond (lt t coldest) (Some UnderTemperature) (cond alert None (Some SupplyAlert))))

abbrev pub check_faults : Givens → Result (Option ChannelFault) Cause
check_faults g = fault_of g.temperature g.alert

-- the first that applies: input power above 20.0, the output pin high, the reflected pin high
abbrev pub overdrive_source : Float → Givens → Option Interlock
overdrive_source power g = cond (lt strongest power) (Some Input) (cond g.output_overdrive (Some Output) (cond g.reflected_overdrive (Some Reflected) None))

abbrev pub is_enabled : States → Bool
is_enabled (Blocked f) = false
is_enabled Off = false
is_enabled (Powerup d) = false
is_enabled Powered = false
is_enabled Enabled = true
is_enabled (Tripped i) = false
is_enabled (Powerdown d) = false

abbrev pub is_blocked : States → Bool
is_blocked (Blocked f) = true
is_blocked Off = false
is_blocked (Powerup d) = false
is_blocked Powered = false
is_blocked Enabled = false
is_blocked (Tripped i) = false
is_blocked (Powerdown d) = false

-- powered, RF switched off, blocked
abbrev pub power_status : RfChannel → PowerStatus
power_status c = record { powered = c.enable_power; rf_disabled = not c.signal_on; blocked = is_blocked c.state }
