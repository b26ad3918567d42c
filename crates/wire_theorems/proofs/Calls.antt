-- No event writes a code to the interlock chip, and so no request but new settings does; the parts of a start before the levels do not either. Assumes nothing.
use Prim.Native.Nat.{ℕ}
use mathlib.Core.Bool.{Bool}
use lib.Ieee.{Float, lt}
use Rattle.std.specs.Prelude.{Option, None, Some, Result, Ok, Err}
use Rattle.bus.specs.declared.Note.{Note}
use Rattle.bus.specs.Run.{Run, done}
use Rattle.ads7924.specs.declared.Four.{Four}
use Rattle.rf_channel.specs.declared.Action.{Action}
use Rattle.rf_channel.specs.declared.Action.TheVariants.{Nothing, StartPowerup, ResetInterlocks, EnableOutput, StartDisable, HandleFault, HandleTrip, DisableRfSwitch}
use Rattle.rf_channel.specs.declared.ChannelSettings.{ChannelSettings}
use Rattle.rf_channel.specs.declared.ChannelFault.{ChannelFault}
use Rattle.rf_channel.specs.declared.Interlock.{Interlock}
use Rattle.rf_channel.specs.declared.Events.{Events}
use Rattle.rf_channel.specs.declared.Plan.{Plan}
use Rattle.rf_channel.specs.declared.Plan.TheVariants.{NoTransition, GuardFalse, Go}
use Rattle.rf_channel.specs.declared.RfChannel.{RfChannel}
use Rattle.rf_channel.specs.Guards.{lowest}
use Rattle.rf_plan.specs.Table.{table}
use Rattle.rf_plan.specs.Plan.{planned}
use Rattle.rf_machine.specs.declared.Cause.{Cause}
use Rattle.rf_machine.specs.declared.Told.{Told}
use Rattle.rf_machine.specs.Hardware.{on_did, ◌and_then◌, pin, pinch_off, start_powerup, reset_interlocks, disable_rf_switch, start_disable, enable_output, hardware}
use Rattle.rf_machine.specs.Event.{carry, process_event}
use Rattle.rf_call.specs.declared.Answer.{Answer}
use Rattle.rf_call.specs.declared.Givens.{Givens}
use Rattle.rf_call.specs.declared.Outcome.{Outcome}
use Rattle.rf_call.specs.declared.Outcome.TheVariants.{Live}
use Rattle.rf_call.specs.Calls.{halting, after_event, answering, quietly}
use Rattle.rf_tests.specs.Tests.{check_faults, overdrive_source, is_enabled}
use Rattle.rf_update.specs.Update.{raising, on_check, fault_stage, on_overdrive, on_power, trip_stage, after_stage, finishing, updating}
use Rattle.rf_status.specs.declared.Detectors.{Detectors}
use Rattle.rf_status.specs.declared.Numbers.{Numbers}
use Rattle.rf_status.specs.Status.{on_input, on_temperature, on_voltages, measuring, on_measures, getting_status}
use Rattle.rf_start.specs.declared.Presence.{Presence}
use Rattle.rf_start.specs.declared.Presence.TheVariants.{Present, Absent}
use Rattle.rf_start.specs.Start.{beginning, monitor, preparing, on_present, module_there}
use Rattle.wire_theorems.specs.Wire.{Writes}
use Rattle.wire_theorems.proofs.Each.{Each, each_done, each_cond, each_bind, each_mapped}
use Rattle.wire_theorems.proofs.Chips.{quiet_note, quiet_mcp3221, quiet_dac7571, quiet_ad5627_opening, quiet_ads7924_opening, quiet_ads7924, quiet_ads7924_all, quiet_ads7924_alarm, quiet_bias, quiet_input}
use Rattle.bus.specs.declared.Failed.{Failed}

module _ (P : ℕ → ℕ → ℕ → Type 0) where
  -- ---- the hardware

  quiet_pin : (n : Note) → Each (Writes P) (pin n)
  unfolding pin
  quiet_pin n = each_mapped _ _ (quiet_note P n)

  quiet_pinch : Each (Writes P) pinch_off
  unfolding pinch_off
  quiet_pinch = each_mapped _ _ (quiet_dac7571 P _)

  on_did_lem : (k : Run (Result (Unit {0}) Cause)) → Each (Writes P) k → (e : Result (Unit {0}) Cause) → Each (Writes P) (on_did k e)
  unfolding on_did
  on_did_lem k h (Ok tt) = h
  on_did_lem k h (Err cause) = each_done _

  pub quiet_then : (m k : Run (Result (Unit {0}) Cause)) → Each (Writes P) m → Each (Writes P) k → Each (Writes P) (m and_then k)
  quiet_then m k g h = each_bind m (on_did k) g (on_did_lem k h)

  quiet_disable : Each (Writes P) start_disable
  unfolding start_disable disable_rf_switch
  quiet_disable = quiet_then _ _ (quiet_pin _) (quiet_then _ _ quiet_pinch (quiet_pin _))

  quiet_hardware : (action : Action) (s : ChannelSettings) → Each (Writes P) (hardware action s)
  unfolding hardware start_powerup reset_interlocks enable_output disable_rf_switch
  quiet_hardware Nothing s = each_done _
  quiet_hardware StartPowerup s = quiet_then _ _ quiet_pinch (quiet_pin _)
  quiet_hardware ResetInterlocks s = quiet_then _ _ (quiet_pin _) (quiet_then _ _ (quiet_pin _) (quiet_pin _))
  quiet_hardware EnableOutput s = each_cond (lt (lowest s) s.output_interlock_threshold) (quiet_then _ _ (each_mapped _ _ (quiet_bias P s)) (quiet_pin _)) (each_done _)
  quiet_hardware StartDisable s = quiet_disable
  quiet_hardware HandleFault s = quiet_disable
  quiet_hardware HandleTrip s = quiet_pin _
  quiet_hardware DisableRfSwitch s = quiet_pin _

  -- ---- an event

  quiet_carry : (c : RfChannel) (x : Plan) → Each (Writes P) (carry c x)
  unfolding carry
  quiet_carry c NoTransition = each_done _
  quiet_carry c GuardFalse = each_done _
  quiet_carry c (Go action state) = each_mapped _ _ (quiet_hardware action c.settings)

  quiet_event : (c : RfChannel) (e : Events) (tick : ℕ) (watchdog : Bool) → Each (Writes P) (process_event c e tick watchdog)
  unfolding process_event
  quiet_event c e tick watchdog = quiet_carry c (planned table c e tick watchdog)

  pub quiet_halting : (cause : Cause) → Each (Writes P) (halting cause)
  unfolding halting
  quiet_halting cause = each_bind _ _ (quiet_note P _) (λ u. each_bind _ _ (quiet_note P _) (λ v. each_done _))

  after_event_lem : (k : RfChannel → Told → Answer) (x : Result (RfChannel × Told) Cause) → Each (Writes P) (after_event (λ c told. done (Live c (k c told))) x)
  unfolding after_event
  after_event_lem k (Ok (c, told)) = each_done _
  after_event_lem k (Err cause) = quiet_halting cause

  pub quiet_answering : (answer : Told → Answer) (e : Events) (c : RfChannel) (g : Givens) → Each (Writes P) (answering answer e c g)
  unfolding answering
  quiet_answering answer e c g = each_bind _ _ (quiet_event c e _ _) (after_event_lem (λ x told. answer told))

  pub quiet_quietly : (e : Events) (c : RfChannel) (g : Givens) → Each (Writes P) (quietly e c g)
  unfolding quietly
  quiet_quietly e c g = quiet_answering _ e c g

  -- ---- the update

  quiet_raising : (c : RfChannel) (e : Events) (g : Givens) → Each (Writes P) (raising c e g)
  unfolding raising
  quiet_raising c e g = each_mapped _ _ (quiet_event c e _ _)

  on_check_lem : (c : RfChannel) (g : Givens) (x : Result (Option ChannelFault) Cause) → Each (Writes P) (on_check c g x)
  unfolding on_check
  on_check_lem c g (Ok None) = each_done _
  on_check_lem c g (Ok (Some fault)) = quiet_raising c _ g
  on_check_lem c g (Err cause) = each_done _

  on_overdrive_lem : (c : RfChannel) (g : Givens) (x : Option Interlock) → Each (Writes P) (on_overdrive c g x)
  unfolding on_overdrive
  on_overdrive_lem c g None = each_done _
  on_overdrive_lem c g (Some interlock) = quiet_raising c _ g

  on_power_lem : (c : RfChannel) (g : Givens) (x : Result Float Failed) → Each (Writes P) (on_power c g x)
  unfolding on_power
  on_power_lem c g (Ok power) = on_overdrive_lem c g (overdrive_source power g)
  on_power_lem c g (Err e) = each_done _

  on_stage : (k : RfChannel → Run Outcome) → ((c : RfChannel) → Each (Writes P) (k c)) → (x : Result RfChannel Cause) → Each (Writes P) (after_stage k x)
  unfolding after_stage
  on_stage k f (Ok c) = f c
  on_stage k f (Err cause) = quiet_halting cause

  quiet_finishing : (g : Givens) (c : RfChannel) → Each (Writes P) (finishing g c)
  unfolding finishing
  quiet_finishing g c = each_bind _ _ (quiet_event c _ _ _) (after_event_lem _)

  pub quiet_updating : (c : RfChannel) (g : Givens) → Each (Writes P) (updating c g)
  unfolding updating fault_stage trip_stage
  quiet_updating c g =
      each_bind _ _ (on_check_lem c g (check_faults g))
      (on_stage _ (λ x. each_bind _ _ (each_cond (is_enabled x.state) (each_bind _ _ (quiet_input P x.settings) (on_power_lem x g)) (each_done _)) (on_stage _ (quiet_finishing g))))

  -- ---- the status

  on_input_lem : (n : Float → Numbers) (x : Result Float Failed) → Each (Writes P) (on_input n x)
  unfolding on_input
  on_input_lem n (Ok power) = each_done _
  on_input_lem n (Err e) = each_done _

  on_temperature_lem : (s : ChannelSettings) (d : Detectors) (four : Four) (t : Option Float) → Each (Writes P) (on_temperature s d four t)
  unfolding on_temperature
  on_temperature_lem s d four (Some t) = each_bind _ _ (quiet_input P s) (on_input_lem _)
  on_temperature_lem s d four None = each_done _

  on_voltages_lem : (s : ChannelSettings) (d : Detectors) (t : Option Float) (x : Result Four Failed) → Each (Writes P) (on_voltages s d t x)
  unfolding on_voltages
  on_voltages_lem s d t (Ok four) = on_temperature_lem s d four t
  on_voltages_lem s d t (Err e) = each_done _

  on_measures_lem : (c : RfChannel) (g : Givens) (x : Result Numbers Cause) → Each (Writes P) (on_measures c g x)
  unfolding on_measures
  on_measures_lem c g (Ok n) = each_done _
  on_measures_lem c g (Err cause) = quiet_halting cause

  pub quiet_status : (c : RfChannel) (d : Detectors) (g : Givens) → Each (Writes P) (getting_status c d g)
  unfolding getting_status measuring
  quiet_status c d g = each_bind _ _ (each_bind _ _ (quiet_ads7924_all P) (on_voltages_lem c.settings d g.temperature)) (on_measures_lem c g)

  -- ---- the start, before the levels

  pub quiet_preparing : Each (Writes P) preparing
  unfolding preparing beginning monitor
  quiet_preparing =
      quiet_then _ _ (quiet_then _ _ (quiet_pin _) (quiet_then _ _ (quiet_pin _) quiet_pinch))
      (quiet_then _ _ (each_mapped _ _ (quiet_ads7924_opening P)) (quiet_then _ _ (each_mapped _ _ (quiet_ads7924 P _)) (each_mapped _ _ (quiet_ads7924_alarm P))))

  on_present_lem : (k : Run Presence) → Each (Writes P) k → (x : Presence) → Each (Writes P) (on_present k x)
  unfolding on_present
  on_present_lem k h Present = h
  on_present_lem k h Absent = each_done _

  pub quiet_module : (present : Bool) → Each (Writes P) (module_there present)
  unfolding module_there
  quiet_module present = each_bind _ _ (each_mapped _ _ (quiet_ad5627_opening P)) (on_present_lem _ (each_cond present (each_mapped _ _ (quiet_mcp3221 P _)) (each_done _)))
