-- What each request is in the words of the table: which events it raises, and what each event does is the table's plan. Definitions only.
use Rattle.std.specs.Prelude.{ℕ, ◌≡◌, true, false, List, Float, None, Some, Ok, Err}
use Rattle.bus.specs.Run.{Run, done, bind, mapped}
use Rattle.rf_channel.specs.declared.ChannelFault.{ChannelFault}
use Rattle.rf_channel.specs.declared.ChannelSettings.{ChannelSettings}
use Rattle.rf_channel.specs.declared.Events.{Events}
use Rattle.rf_channel.specs.declared.Events.TheVariants as E
use Rattle.rf_channel.specs.declared.Interlock.{Interlock}
use Rattle.rf_channel.specs.declared.Plan.{Plan}
use Rattle.rf_channel.specs.declared.RfChannel.{RfChannel}
use Rattle.rf_plan.specs.Table.{table}
use Rattle.rf_plan.specs.Plan.{planned}
use Rattle.rf_machine.specs.declared.Cause.TheVariants.{Bus, Temperature}
use Rattle.rf_machine.specs.declared.Told.{Told}
use Rattle.rf_machine.specs.Event.{carry}
use Rattle.rf_devices.specs.Devices.{get_input_power}
use Rattle.rf_call.specs.declared.Answer.{Answer}
use Rattle.rf_call.specs.declared.Answer.TheVariants.{Done}
use Rattle.rf_call.specs.declared.Givens.{Givens}
use Rattle.rf_call.specs.declared.Outcome.{Outcome}
use Rattle.rf_call.specs.declared.Outcome.TheVariants.{Live}
use Rattle.rf_call.specs.declared.Report.TheVariants.{Plain, Power as Lights}
use Rattle.rf_call.specs.Outcome.{reset_answer}
use Rattle.rf_call.specs.Calls.{after_event}
use Rattle.rf_tests.specs.Tests.{check_faults, overdrive_source, is_enabled, power_status}
use Rattle.rf_update.specs.Update.{stage_of, fault_stage, on_power, trip_stage, after_stage}
use Rattle.rf_changes.specs.Changes.{event_of}
use Rattle.rf_settings.specs.Settings.{apply_settings, following, on_applied}
use Rattle.rf_status.specs.declared.Detectors.{Detectors}
use Rattle.rf_calls.specs.declared.Request.TheVariants as R
use Rattle.rf_calls.specs.Requests.{requested}
use Rattle.bus.specs.Rows.{no_answer}

-- the table's plan of an event at the tick of a call
abbrev pub plan : Givens → RfChannel → Events → Plan
plan g c e = planned table c e g.tick g.watchdog

-- the plan is carried out, and what it leaves is answered
abbrev pub carried : Givens → Events → (RfChannel → Told → Answer) → RfChannel → Run Outcome
carried g e answer c = bind (carry c (plan g c e)) (after_event (λ c' told. done (Live c' (answer c' told))))

pub record Words (c : RfChannel) (g : Givens) (s : ChannelSettings) (d : Detectors) : Type 0 where
  -- one event each; the reset alone is told what the table says
  pub startup : requested c R.Startup g ≡ carried g E.InterlockReset (λ c' told. Done Plain) c
  pub standby : requested c R.Standby g ≡ carried g E.Disable (λ c' told. Done Plain) c
  pub reset : requested c R.Reset g ≡ carried g E.InterlockReset (λ c' told. reset_answer told) c
  -- the update: the stage of faults, the stage of trips, and then its own event
  pub update : requested c R.Update g ≡ bind (fault_stage c g) (after_stage (λ c₁. bind (trip_stage c₁ g) (after_stage (carried g E.Update (λ c' told. Done (Lights (power_status c')))))))
  pub fault : (f : ChannelFault) → check_faults g ≡ Ok (Some f) → fault_stage c g ≡ mapped stage_of (carry c (plan g c (E.Fault f)))
  pub no_fault : check_faults g ≡ Ok None → fault_stage c g ≡ done (Ok c)
  pub fault_unknown : check_faults g ≡ Err Temperature → fault_stage c g ≡ done (Err Temperature)
  pub tested : is_enabled c.state ≡ true → trip_stage c g ≡ bind (get_input_power c.settings) (on_power c g)
  pub not_tested : is_enabled c.state ≡ false → trip_stage c g ≡ done (Ok c)
  pub trip : (power : Float) (i : Interlock) → overdrive_source power g ≡ Some i → on_power c g (Ok power) ≡ mapped stage_of (carry c (plan g c (E.Trip i)))
  pub no_trip : (power : Float) → overdrive_source power g ≡ None → on_power c g (Ok power) ≡ done (Ok c)
  pub trip_unknown : on_power c g (Err no_answer) ≡ done (Err Bus)
  -- settings that are taken are followed by the event that they ask for, or by none
  pub settings : requested c (R.Settings s) g ≡ bind (apply_settings c s) (on_applied s.state g)
  pub applied : (c' : RfChannel) → on_applied s.state g (Ok c') ≡ following c' s.state g
  pub follow : (c' : RfChannel) (e : Events) → event_of c'.state s.state ≡ Some e → following c' s.state g ≡ carried g e (λ c'' told. Done Plain) c'
  pub no_follow : (c' : RfChannel) → event_of c'.state s.state ≡ None → following c' s.state g ≡ done (Live c' (Done Plain))
  -- the status raises none: a channel that it leaves is the one that it found
  pub status : (replies : List ℕ) (n taken : ℕ) (c' : RfChannel) (answer : Answer) → (requested c (R.Status d) g replies n taken).ans ≡ Live c' answer → c' ≡ c
