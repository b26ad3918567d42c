-- The update: the fault test, the trip test, and then the Update event. Definitions only.
use Rattle.std.specs.Prelude.{cond, Option, None, Some, Result, Ok, Err, Float}
use Rattle.bus.specs.Run.{Run, done, bind, mapped}
use Rattle.rf_channel.specs.declared.ChannelFault.{ChannelFault}
use Rattle.rf_channel.specs.declared.Interlock.{Interlock}
use Rattle.rf_channel.specs.declared.Events.{Events}
use Rattle.rf_channel.specs.declared.Events.TheVariants.{Update, Trip, Fault}
use Rattle.rf_channel.specs.declared.RfChannel.{RfChannel}
use Rattle.rf_machine.specs.declared.Cause.{Cause}
use Rattle.rf_machine.specs.declared.Cause.TheVariants.{Bus}
use Rattle.rf_machine.specs.Event.{process_event}
use Rattle.rf_devices.specs.Devices.{get_input_power}
use Rattle.rf_call.specs.declared.Answer.TheVariants.{Done}
use Rattle.rf_call.specs.declared.Givens.{Givens}
use Rattle.rf_call.specs.declared.Outcome.{Outcome}
use Rattle.rf_call.specs.declared.Outcome.TheVariants.{Live}
use Rattle.rf_call.specs.declared.Report.TheVariants.{Power as Lights}
use Rattle.rf_call.specs.Calls.{halting, after_event}
use Rattle.rf_tests.specs.Tests.{check_faults, overdrive_source, is_enabled, power_status}
use Rattle.rf_machine.specs.declared.Told.{Told}
use Rattle.bus.specs.declared.Failed.{Failed}

-- ---- an event within the update

abbrev pub stage_of : Result (RfChannel × Told) Cause → Result RfChannel Cause
stage_of (Ok (c, told)) = Ok c
stage_of (Err cause) = Err cause

unfoldable pub raising : RfChannel → Events → Givens → Run (Result RfChannel Cause)
raising c e g = mapped stage_of (process_event c e g.tick g.watchdog)

-- ---- the fault test, and the event of a fault

unfoldable pub on_check : RfChannel → Givens → Result (Option ChannelFault) Cause → Run (Result RfChannel Cause)
on_check c g (Ok None) = done (Ok c)
on_check c g (Ok (Some fault)) = raising c (Fault fault) g
on_check c g (Err cause) = done (Err cause)

unfoldable pub fault_stage : RfChannel → Givens → Run (Result RfChannel Cause)
fault_stage c g = on_check c g (check_faults g)

-- ---- the trip test in Enabled, and the event of a trip

unfoldable pub on_overdrive : RfChannel → Givens → Option Interlock → Run (Result RfChannel Cause)
on_overdrive c g None = done (Ok c)
on_overdrive c g (Some interlock) = raising c (Trip interlock) g

unfoldable pub on_power : RfChannel → Givens → Result Float Failed → Run (Result RfChannel Cause)
on_power c g (Ok power) = on_overdrive c g (overdrive_source power g)
on_power c g (Err e) = done (Err Bus)

unfoldable pub trip_stage : RfChannel → Givens → Run (Result RfChannel Cause)
trip_stage c g = cond (is_enabled c.state) (bind (get_input_power c.settings) (on_power c g)) (done (Ok c))

-- ---- the update

-- a stage that goes on with k, or halts
unfoldable pub after_stage : (RfChannel → Run Outcome) → Result RfChannel Cause → Run Outcome
after_stage k (Ok c) = k c
after_stage k (Err cause) = halting cause

-- the Update event, and three lights
unfoldable pub finishing : Givens → RfChannel → Run Outcome
finishing g c = bind (process_event c Update g.tick g.watchdog) (after_event (λ c' told. done (Live c' (Done (Lights (power_status c'))))))

unfoldable pub updating : RfChannel → Givens → Run Outcome
updating c g = bind (fault_stage c g) (after_stage (λ c₁. bind (trip_stage c₁ g) (after_stage (finishing g))))
