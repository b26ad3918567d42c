-- The call that takes new settings: what has changed is written, output level, reflected level, bias; then the event. Definitions only.
use Rattle.std.specs.Prelude.{Bool, cond, Option, None, Some, Result, Ok, Err, Float}
use Rattle.bus.specs.Run.{Run, done, bind, mapped}
use Rattle.rf_channel.specs.declared.ChannelSettings.{ChannelSettings}
use Rattle.rf_channel.specs.declared.ChannelState.{ChannelState}
use Rattle.rf_channel.specs.declared.Events.{Events}
use Rattle.rf_channel.specs.declared.RfChannel.{RfChannel}
use Rattle.rf_machine.specs.declared.Cause.TheVariants as Causes
use Rattle.rf_machine.specs.Hardware.{apply_bias}
use Rattle.rf_devices.specs.Devices.{highest_reflected, apply_output, set_reflected}
use Rattle.rf_call.specs.declared.Answer.TheVariants.{Done, Range as OutOfRange, Chip as ChipFailed}
use Rattle.rf_call.specs.declared.Givens.{Givens}
use Rattle.rf_call.specs.declared.Outcome.{Outcome}
use Rattle.rf_call.specs.declared.Outcome.TheVariants.{Live}
use Rattle.rf_call.specs.declared.Report.TheVariants.{Plain}
use Rattle.rf_call.specs.Calls.{halting, quietly}
use Rattle.rf_changes.specs.declared.Changes.{Changes}
use Rattle.rf_settings.specs.declared.Wrong.{Wrong}
use Rattle.rf_settings.specs.declared.Wrong.TheVariants.{Range, Chip, Bus}
use Rattle.rf_changes.specs.Changes.{same, changes_of, stored, event_of}
use Rattle.bus.specs.declared.Error.TheVariants as Driver
use Rattle.bus.specs.declared.Error.{Error}

-- ---- what the chips' answers mean here

abbrev pub level_applied : Result Float Error → Result (Unit {0}) Wrong
level_applied (Ok v) = (Ok tt)
level_applied (Err Driver.Range) = Err Range
level_applied (Err Driver.Bus) = Err Chip

abbrev pub bias_applied : Result Float Error → Result (Unit {0}) Wrong
bias_applied (Ok v) = (Ok tt)
bias_applied (Err Driver.Range) = Err Range
bias_applied (Err Driver.Bus) = Err Bus

-- ---- the writes

unfoldable pub on_fine : Run (Result (Unit {0}) Wrong) → Result (Unit {0}) Wrong → Run (Result (Unit {0}) Wrong)
on_fine k (Ok tt) = k
on_fine k (Err wrong) = done (Err wrong)

unfoldable pub write_output : Bool → ChannelSettings → Run (Result (Unit {0}) Wrong)
write_output changed s = cond changed (mapped level_applied (apply_output s)) (done (Ok tt))

unfoldable pub write_reflected : Bool → ChannelSettings → Run (Result (Unit {0}) Wrong)
write_reflected changed s = cond changed (mapped level_applied (set_reflected s highest_reflected)) (done (Ok tt))

unfoldable pub write_bias : Bool → ChannelSettings → Run (Result (Unit {0}) Wrong)
write_bias changed s = cond changed (mapped bias_applied (apply_bias s)) (done (Ok tt))

-- the first that goes wrong ends it
unfoldable pub write_changes : Changes → ChannelSettings → Run (Result (Unit {0}) Wrong)
write_changes due s = bind (write_output due.output s) (on_fine (bind (write_reflected due.reflected s) (on_fine (write_bias due.bias s))))

-- ---- the call

abbrev pub applied_to : RfChannel → Result (Unit {0}) Wrong → Result RfChannel (RfChannel × Wrong)
applied_to c (Ok tt) = Ok c
applied_to c (Err wrong) = Err (c, wrong)

-- equal settings keep the old ones; others are stored, and what has changed is written
unfoldable pub apply_settings : RfChannel → ChannelSettings → Run (Result RfChannel (RfChannel × Wrong))
apply_settings c s = cond (same c.settings s) (done (Ok c)) (mapped (applied_to (stored c s)) (write_changes (changes_of c.settings s) s))

unfoldable pub on_follow : RfChannel → Givens → Option Events → Run Outcome
on_follow c g None = done (Live c (Done Plain))
on_follow c g (Some e) = quietly e c g

unfoldable pub following : RfChannel → ChannelState → Givens → Run Outcome
following c wanted g = on_follow c g (event_of c.state wanted)

-- 11 for a value out of range and 12 for the interlock chip, with the settings stored; the bias chip's failure halts
unfoldable pub refusing : RfChannel → Wrong → Run Outcome
refusing c Range = done (Live c OutOfRange)
refusing c Chip = done (Live c ChipFailed)
refusing c Bus = halting Causes.Bus

unfoldable pub on_applied : ChannelState → Givens → Result RfChannel (RfChannel × Wrong) → Run Outcome
on_applied wanted g (Ok c) = following c wanted g
on_applied wanted g (Err (c, wrong)) = refusing c wrong

unfoldable pub handle_settings : RfChannel → ChannelSettings → Givens → Run Outcome
handle_settings c s g = bind (apply_settings c s) (on_applied s.state g)
