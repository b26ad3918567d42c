-- What every event at the tick of a call and every change of settings keep true of a channel, the call keeps true of it; and a halt leaves both pins low. Assumes nothing.
use mathlib.Core.Path.{◌≡◌, refl}
use mathlib.Core.Bool.{Bool, true, false, cond}
use lib.Ieee.{Float}
use Rattle.std.specs.Prelude.{Option, None, Some, Result, Ok, Err}
use Rattle.std.specs.Prelude as P
use Rattle.bus.specs.declared.Note.TheVariants.{SignalOn, EnablePower}
use Rattle.bus.specs.Run.{Run, done, bind, mapped, note}
use Rattle.rf_channel.specs.declared.ChannelSettings.{ChannelSettings}
use Rattle.rf_channel.specs.declared.ChannelState.{ChannelState}
use Rattle.rf_channel.specs.declared.ChannelFault.{ChannelFault}
use Rattle.rf_channel.specs.declared.Interlock.{Interlock}
use Rattle.rf_channel.specs.declared.Events.{Events}
use Rattle.rf_channel.specs.declared.Events.TheVariants as E
use Rattle.rf_channel.specs.declared.RfChannel.{RfChannel}
use Rattle.rf_machine.specs.declared.Cause.{Cause}
use Rattle.rf_machine.specs.declared.Told.{Told}
use Rattle.rf_machine.specs.Event.{process_event}
use Rattle.rf_devices.specs.Devices.{get_input_power}
use Rattle.rf_call.specs.declared.Answer.{Answer}
use Rattle.rf_call.specs.declared.Givens.{Givens}
use Rattle.rf_call.specs.declared.Outcome.{Outcome}
use Rattle.rf_call.specs.declared.Outcome.TheVariants.{Live, Absent, Halted}
use Rattle.rf_call.specs.Calls.{halting, after_event, answering, quietly, interlock_reset, handle_startup, standing}
use Rattle.rf_tests.specs.Tests.{check_faults, overdrive_source, is_enabled}
use Rattle.rf_update.specs.Update.{stage_of, raising, on_check, fault_stage, on_overdrive, on_power, trip_stage, after_stage, finishing, updating}
use Rattle.rf_changes.specs.declared.Changes.{Changes}
use Rattle.rf_settings.specs.declared.Wrong.{Wrong}
use Rattle.rf_settings.specs.declared.Wrong.TheVariants.{Range, Chip, Bus}
use Rattle.rf_changes.specs.Changes.{same, changes_of, stored, event_of}
use Rattle.rf_settings.specs.Settings.{on_fine, write_output, write_reflected, write_bias, write_changes, applied_to, apply_settings, on_follow, following, refusing, on_applied, handle_settings}
use Rattle.ads7924.specs.declared.Four.{Four}
use Rattle.rf_status.specs.declared.Detectors.{Detectors}
use Rattle.rf_status.specs.declared.Numbers.{Numbers}
use Rattle.rf_status.specs.Status.{on_input, on_temperature, on_voltages, measuring, on_measures, getting_status}
use Rattle.rf_calls.specs.declared.Request.{Request}
use Rattle.rf_calls.specs.declared.Request.TheVariants.{Startup, Update, Reset, Standby, Settings, Status}
use Rattle.rf_calls.specs.Requests.{requested}
use Rattle.rf_theorems.specs.Pins.{Levels, low}
use Rattle.rf_theorems.proofs.Keeps.{Keeps, Still, keeps_done, keeps_bind, keeps_mapped, keeps_note, still_done, still_bind, still_mapped}
use Rattle.rf_theorems.proofs.Chips.{still_bias, still_input, still_output, still_reflected, still_ads7924_all, still_cond}
use Rattle.rf_theorems.proofs.Rule.{Walked}
use Rattle.bus.specs.declared.Failed.{Failed}

-- a call leaves a channel that satisfies I, or halts with both pins low
unfoldable pub Ends : (Levels → RfChannel → Type 0) → Levels → Outcome → Type 0
Ends I q (Live c answer) = I q c
Ends I q Absent = ⊥
Ends I q (Halted cause) = q ≡ low

-- ---- writes and measurements leave the pins alone

still_fine : (k : Run (Result (Unit {0}) Wrong)) → Still k → (w : Result (Unit {0}) Wrong) → Still (on_fine k w)
unfolding on_fine
still_fine k s (Ok tt) = s
still_fine k s (Err wrong) = still_done _

still_changes : (due : Changes) (s : ChannelSettings) → Still (write_changes due s)
unfolding write_changes write_output write_reflected write_bias
still_changes due s =
    still_bind _ _ (still_cond due.output (still_mapped _ _ (still_output s)) (still_done _))
    (still_fine _
    (still_bind _ _ (still_cond due.reflected (still_mapped _ _ (still_reflected s _)) (still_done _))
    (still_fine _ (still_cond due.bias (still_mapped _ _ (still_bias s)) (still_done _)))))

still_on_input : (n : Float → Numbers) (x : Result Float Failed) → Still (on_input n x)
unfolding on_input
still_on_input n (Ok power) = still_done _
still_on_input n (Err e) = still_done _

still_temperature : (s : ChannelSettings) (d : Detectors) (four : Four) (t : Option Float) → Still (on_temperature s d four t)
unfolding on_temperature
still_temperature s d four (Some t) = still_bind _ _ (still_input s) (still_on_input _)
still_temperature s d four None = still_done _

still_voltages : (s : ChannelSettings) (d : Detectors) (t : Option Float) (x : Result Four Failed) → Still (on_voltages s d t x)
unfolding on_voltages
still_voltages s d t (Ok four) = still_temperature s d four t
still_voltages s d t (Err e) = still_done _

still_measuring : (s : ChannelSettings) (d : Detectors) (t : Option Float) → Still (measuring s d t)
unfolding measuring
still_measuring s d t = still_bind _ _ still_ads7924_all (still_voltages s d t)

-- ---- the halt

pub keeps_halting : (I : Levels → RfChannel → Type 0) (p : Levels) (cause : Cause) → Keeps p (halting cause) (Ends I)
unfolding halting Ends
keeps_halting I p cause =
    keeps_bind (note (SignalOn false)) _ (keeps_note {Q = λ q u. q ≡ record { signal = false; power = p.power }} (SignalOn false) refl)
    (λ q u e. rw e (keeps_bind (note (EnablePower false)) _ (keeps_note {Q = λ r v. r ≡ low} (EnablePower false) refl) (λ r v f. keeps_done (Halted cause) f)))

module _
    (I : Levels → RfChannel → Type 0)
    (g : Givens)
    (events : (p : Levels) (c : RfChannel) (e : Events) → I p c → Keeps p (process_event c e g.tick g.watchdog) (Walked I))
    (stores : (p : Levels) (c : RfChannel) (s : ChannelSettings) → I p c → I p (stored c s))
  where
    -- ---- the calls that are one event

    event_ends : (k : RfChannel → Told → Answer) (q : Levels) (x : Result (RfChannel × Told) Cause) → Walked I q x → Keeps q (after_event (λ c told. done (Live c (k c told))) x) (Ends I)
    unfolding Walked after_event Ends
    event_ends k q (Ok (c, told)) h = keeps_done _ h
    event_ends k q (Err cause) h = keeps_halting I q cause

    keeps_answering : (answer : Told → Answer) (e : Events) (p : Levels) (c : RfChannel) → I p c → Keeps p (answering answer e c g) (Ends I)
    unfolding answering
    keeps_answering answer e p c h = keeps_bind _ _ (events p c e h) (event_ends (λ x told. answer told))

    keeps_quietly : (e : Events) (p : Levels) (c : RfChannel) → I p c → Keeps p (quietly e c g) (Ends I)
    unfolding quietly
    keeps_quietly e p c h = keeps_answering _ e p c h

    -- ---- the update

    unfoldable OnWay : Levels → Result RfChannel Cause → Type 0
    OnWay q (Ok c) = I q c
    OnWay q (Err cause) = Unit

    staged : (q : Levels) (x : Result (RfChannel × Told) Cause) → Walked I q x → OnWay q (stage_of x)
    unfolding Walked OnWay
    staged q (Ok (c, told)) h = h
    staged q (Err cause) h = tt

    keeps_raising : (e : Events) (p : Levels) (c : RfChannel) → I p c → Keeps p (raising c e g) OnWay
    unfolding raising
    keeps_raising e p c h = keeps_mapped _ _ (events p c e h) staged

    on_check_lem : (p : Levels) (c : RfChannel) (x : Result (Option ChannelFault) Cause) → I p c → Keeps p (on_check c g x) OnWay
    unfolding on_check OnWay
    on_check_lem p c (P.Ok None) h = keeps_done _ h
    on_check_lem p c (P.Ok (Some fault)) h = keeps_raising (E.Fault fault) p c h
    on_check_lem p c (P.Err cause) h = keeps_done _ tt

    on_overdrive_lem : (p : Levels) (c : RfChannel) (x : Option Interlock) → I p c → Keeps p (on_overdrive c g x) OnWay
    unfolding on_overdrive OnWay
    on_overdrive_lem p c None h = keeps_done _ h
    on_overdrive_lem p c (Some interlock) h = keeps_raising (E.Trip interlock) p c h

    on_power_lem : (p : Levels) (c : RfChannel) (x : Result Float Failed) → I p c → Keeps p (on_power c g x) OnWay
    unfolding on_power OnWay
    on_power_lem p c (Ok power) h = on_overdrive_lem p c (overdrive_source power g) h
    on_power_lem p c (Err e) h = keeps_done _ tt

    trip_tested : (b : Bool) (p : Levels) (c : RfChannel) → I p c → Keeps p (cond b (bind (get_input_power c.settings) (on_power c g)) (done (Ok c))) OnWay
    unfolding OnWay
    trip_tested true p c h = keeps_bind _ _ (still_input c.settings p) (λ q x e. rw e (on_power_lem p c x h))
    trip_tested false p c h = keeps_done _ h

    on_stage : (k : RfChannel → Run Outcome) → ((q : Levels) (c : RfChannel) → I q c → Keeps q (k c) (Ends I)) → (q : Levels) (x : Result RfChannel Cause) → OnWay q x → Keeps q (after_stage k x) (Ends I)
    unfolding after_stage OnWay
    on_stage k f q (Ok c) h = f q c h
    on_stage k f q (Err cause) h = keeps_halting I q cause

    keeps_finishing : (p : Levels) (c : RfChannel) → I p c → Keeps p (finishing g c) (Ends I)
    unfolding finishing
    keeps_finishing p c h = keeps_bind _ _ (events p c E.Update h) (event_ends _)

    keeps_updating : (p : Levels) (c : RfChannel) → I p c → Keeps p (updating c g) (Ends I)
    unfolding updating fault_stage trip_stage
    keeps_updating p c h =
        keeps_bind _ _ (on_check_lem p c (check_faults g) h)
        (on_stage _ (λ q x i. keeps_bind _ _ (trip_tested (is_enabled x.state) q x i) (on_stage _ keeps_finishing)))

    -- ---- settings

    unfoldable Took : Levels → Result RfChannel (RfChannel × Wrong) → Type 0
    Took q (Ok c) = I q c
    Took q (Err (c, wrong)) = I q c

    took : (p : Levels) (c : RfChannel) → I p c → (q : Levels) (w : Result (Unit {0}) Wrong) → q ≡ p → Took q (applied_to c w)
    unfolding Took
    took p c h q (Ok tt) e = rw e h
    took p c h q (Err wrong) e = rw e h

    keeps_applying : (b : Bool) (p : Levels) (c : RfChannel) (s : ChannelSettings) (due : Changes) → I p c → Keeps p (cond b (done (Ok c)) (mapped (applied_to (stored c s)) (write_changes due s))) Took
    unfolding Took
    keeps_applying true p c s due h = keeps_done _ h
    keeps_applying false p c s due h = keeps_mapped _ _ (still_changes due s p) (took p (stored c s) (stores p c s h))

    on_follow_lem : (p : Levels) (c : RfChannel) (x : Option Events) → I p c → Keeps p (on_follow c g x) (Ends I)
    unfolding on_follow Ends
    on_follow_lem p c None h = keeps_done _ h
    on_follow_lem p c (Some e) h = keeps_quietly e p c h

    on_wrong : (p : Levels) (c : RfChannel) (wrong : Wrong) → I p c → Keeps p (refusing c wrong) (Ends I)
    unfolding refusing Ends
    on_wrong p c Range h = keeps_done _ h
    on_wrong p c Chip h = keeps_done _ h
    on_wrong p c Bus h = keeps_halting I p _

    on_applied_lem : (wanted : ChannelState) (q : Levels) (x : Result RfChannel (RfChannel × Wrong)) → Took q x → Keeps q (on_applied wanted g x) (Ends I)
    unfolding on_applied following Took
    on_applied_lem wanted q (Ok c) h = on_follow_lem q c (event_of c.state wanted) h
    on_applied_lem wanted q (Err (c, wrong)) h = on_wrong q c wrong h

    keeps_settings : (p : Levels) (c : RfChannel) (s : ChannelSettings) → I p c → Keeps p (handle_settings c s g) (Ends I)
    unfolding handle_settings apply_settings
    keeps_settings p c s h = keeps_bind _ _ (keeps_applying (same c.settings s) p c s (changes_of c.settings s) h) (on_applied_lem s.state)

    -- ---- the status

    on_measures_lem : (p : Levels) (c : RfChannel) → I p c → (q : Levels) (x : Result Numbers Cause) → q ≡ p → Keeps q (on_measures c g x) (Ends I)
    unfolding on_measures Ends
    on_measures_lem p c h q (Ok n) e = rw e (keeps_done _ h)
    on_measures_lem p c h q (Err cause) e = keeps_halting I q cause

    keeps_status : (p : Levels) (c : RfChannel) (d : Detectors) → I p c → Keeps p (getting_status c d g) (Ends I)
    unfolding getting_status
    keeps_status p c d h = keeps_bind _ _ (still_measuring c.settings d g.temperature p) (on_measures_lem p c h)

    -- ---- any request

    pub keeps_requested : (p : Levels) (c : RfChannel) (r : Request) → I p c → Keeps p (requested c r g) (Ends I)
    unfolding requested handle_startup interlock_reset standing
    keeps_requested p c Startup h = keeps_quietly E.InterlockReset p c h
    keeps_requested p c Update h = keeps_updating p c h
    keeps_requested p c Reset h = keeps_answering _ E.InterlockReset p c h
    keeps_requested p c Standby h = keeps_quietly E.Disable p c h
    keeps_requested p c (Settings s) h = keeps_settings p c s h
    keeps_requested p c (Status d) h = keeps_status p c d h
