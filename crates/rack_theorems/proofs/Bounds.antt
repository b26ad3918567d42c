-- How many rows each piece of work may add: an event 3, a halt 2, a request 7, a start 20 (`rows_at_most`). So no call adds more than 20 (`acts_at_most`). Assumes nothing.
use Prim.Native.Nat.{ℕ, ◌+◌, ◌≤◌}
use native.Mathlib.Omega.{arith}
use mathlib.Core.Bool.{Bool, true, false, cond}
use mathlib.Core.Path.{◌≡◌, refl}
use lib.Dec.{lit≤}
use lib.Ieee.{Float, lt}
use lib.ListN.{length}
use Rattle.std.specs.Prelude.{Option, None, Some, Result, Ok, Err}
use Rattle.bus.specs.declared.Note.{Note}
use Rattle.bus.specs.Run.{Run, done, bind}
use Rattle.interlock.specs.Level.{level_code}
use Rattle.ad5627.specs.declared.Dac.TheVariants.{A, B}
use Rattle.ads7924.specs.declared.Four.{Four}
use Rattle.rf_channel.specs.declared.Action.{Action}
use Rattle.rf_channel.specs.declared.ChannelSettings.{ChannelSettings}
use Rattle.rf_channel.specs.declared.ChannelState.{ChannelState}
use Rattle.rf_channel.specs.declared.ChannelFault.{ChannelFault}
use Rattle.rf_channel.specs.declared.Interlock.{Interlock}
use Rattle.rf_channel.specs.declared.Events.{Events}
use Rattle.rf_channel.specs.declared.Plan.{Plan}
use Rattle.rf_channel.specs.declared.Plan.TheVariants.{NoTransition, GuardFalse, Go}
use Rattle.rf_channel.specs.declared.RfChannel.{RfChannel}
use Rattle.rf_channel.specs.declared.States.{States}
use Rattle.rf_channel.specs.declared.States.TheVariants as St
use Rattle.rf_channel.specs.Guards.{lowest}
use Rattle.rf_plan.specs.Table.{table}
use Rattle.rf_plan.specs.Plan.{planned}
use Rattle.rf_machine.specs.declared.Cause.{Cause}
use Rattle.rf_machine.specs.declared.Told.{Told}
use Rattle.rf_machine.specs.Hardware.{on_did, ◌and_then◌, pin, pinch_off, apply_bias, start_powerup, reset_interlocks, disable_rf_switch, start_disable, enable_output, hardware}
use Rattle.rf_machine.specs.Event.{carry, process_event}
use Rattle.rf_devices.specs.Devices.{get_input_power, apply_output, set_reflected}
use Rattle.rf_call.specs.declared.Answer.{Answer}
use Rattle.rf_call.specs.declared.Givens.{Givens}
use Rattle.rf_call.specs.declared.Outcome.{Outcome}
use Rattle.rf_call.specs.declared.Outcome.TheVariants.{Live}
use Rattle.rf_call.specs.Calls.{halting, or_halt, after_event, answering, quietly, interlock_reset, handle_startup, standing}
use Rattle.rf_tests.specs.Tests.{check_faults, overdrive_source, is_enabled, is_blocked}
use Rattle.rf_update.specs.Update.{stage_of, raising, on_check, fault_stage, on_overdrive, on_power, trip_stage, after_stage, finishing, updating}
use Rattle.rf_changes.specs.declared.Changes.{Changes}
use Rattle.rf_changes.specs.Changes.{same, changes_of, event_of}
use Rattle.rf_settings.specs.declared.Wrong.{Wrong}
use Rattle.rf_settings.specs.declared.Wrong.TheVariants.{Range, Chip, Bus}
use Rattle.rf_settings.specs.Settings.{on_fine, write_output, write_reflected, write_bias, write_changes, apply_settings, on_follow, following, refusing, on_applied, handle_settings}
use Rattle.rf_status.specs.declared.Detectors.{Detectors}
use Rattle.rf_status.specs.declared.Numbers.{Numbers}
use Rattle.rf_status.specs.Status.{on_input, on_temperature, on_voltages, measuring, on_measures, getting_status}
use Rattle.rf_start.specs.declared.Presence.{Presence}
use Rattle.rf_start.specs.declared.Presence.TheVariants.{Present, Absent}
use Rattle.rf_start.specs.Start.{beginning, monitor, preparing, on_present, module_there, levels, settling, if_present, starting}
use Rattle.rf_calls.specs.declared.Request.{Request}
use Rattle.rf_calls.specs.declared.Request.TheVariants.{Startup, Update, Reset, Standby, Settings, Status}
use Rattle.rf_calls.specs.Requests.{requested}
use Rattle.rf_call.specs.declared.Slot.{Slot}
use Rattle.entry.specs.declared.Admitted.{Admitted}
use Rattle.entry.specs.declared.Admitted.TheVariants.{Start, Ask}
use Rattle.entry.specs.declared.Call.{Call}
use Rattle.slots.specs.Slots.{slot_at}
use Rattle.slot_call.specs.Step.{acts, through, stepped}
use Rattle.rack_call.specs.Calls.{called}
use Rattle.rack_theorems.specs.History.{most_rows, RowsAtMost}
use Rattle.rack_theorems.proofs.Found.{Finds, found}
use Rattle.rack_theorems.proofs.Seen.{entry, let_in}
use Rattle.rack_theorems.proofs.Costs.{Within, within_done, within_most, within_less, most_within, within_bind, within_mapped, step, within_event, within_update, blocking, within_fault}
use Rattle.rack_theorems.proofs.AtMost.{AtMost, most_done, most_less, most_bind, most_mapped, most_note, most_cond, most_mcp3221, most_dac7571, most_ad5627_opening, most_ad5627, most_ads7924_opening, most_ads7924, most_ads7924_all, most_ads7924_alarm}
use Rattle.entry.specs.declared.Refusal.{Refusal}
use Rattle.bus.specs.declared.Failed.{Failed}

-- ---- as a channel uses the chips

most_bias : (s : ChannelSettings) → AtMost 1 (apply_bias s)
unfolding apply_bias
most_bias s = most_dac7571 _

most_input : (s : ChannelSettings) → AtMost 1 (get_input_power s)
unfolding get_input_power
most_input s = most_mapped 1 _ _ (most_mcp3221 _)

most_output : (s : ChannelSettings) → AtMost 1 (apply_output s)
unfolding apply_output
most_output s = most_ad5627 B (level_code s.output_power_transform s.output_interlock_threshold)

most_reflected : (s : ChannelSettings) (power : Float) → AtMost 1 (set_reflected s power)
unfolding set_reflected
most_reflected s power = most_ad5627 A (level_code s.reflected_power_transform power)

-- ---- the hardware

on_did_lem : (k : ℕ) (m : Run (Result (Unit {0}) Cause)) → AtMost k m → (x : Result (Unit {0}) Cause) → AtMost k (on_did m x)
unfolding on_did
on_did_lem k m h (Ok tt) = h
on_did_lem k m h (Err cause) = most_done k _

most_then : (j k : ℕ) (m n : Run (Result (Unit {0}) Cause)) → AtMost j m → AtMost k n → AtMost (j + k) (m and_then n)
most_then j k m n x y = most_bind j k m (on_did n) x (on_did_lem k n y)

most_pin : (n : Note) → AtMost 1 (pin n)
unfolding pin
most_pin n = most_mapped 1 _ _ (most_note n)

most_pinch : AtMost 1 pinch_off
unfolding pinch_off
most_pinch = most_mapped 1 _ _ (most_dac7571 _)

most_switch : AtMost 1 disable_rf_switch
unfolding disable_rf_switch
most_switch = most_pin _

most_disable : AtMost 3 start_disable
unfolding start_disable
most_disable = most_then 1 2 _ _ most_switch (most_then 1 1 _ _ most_pinch (most_pin _))

most_enable : (s : ChannelSettings) → AtMost 2 (enable_output s)
unfolding enable_output
most_enable s = most_cond 2 (lt (lowest s) s.output_interlock_threshold) _ _ (most_then 1 1 _ _ (most_mapped 1 _ _ (most_bias s)) (most_pin _)) (most_done 2 _)

most_hardware : (action : Action) (s : ChannelSettings) → AtMost 3 (hardware action s)
unfolding hardware start_powerup reset_interlocks
most_hardware Action.Nothing s = most_done 3 _
most_hardware Action.StartPowerup s = most_less 2 3 _ (lit≤ tt) (most_then 1 1 _ _ most_pinch (most_pin _))
most_hardware Action.ResetInterlocks s = most_then 1 2 _ _ (most_pin _) (most_then 1 1 _ _ (most_pin _) (most_pin _))
most_hardware Action.EnableOutput s = most_less 2 3 _ (lit≤ tt) (most_enable s)
most_hardware Action.StartDisable s = most_disable
most_hardware Action.HandleFault s = most_disable
most_hardware Action.HandleTrip s = most_less 1 3 _ (lit≤ tt) most_switch
most_hardware Action.DisableRfSwitch s = most_less 1 3 _ (lit≤ tt) most_switch

most_carry : (c : RfChannel) (plan : Plan) → AtMost 3 (carry c plan)
unfolding carry
most_carry c NoTransition = most_done 3 _
most_carry c GuardFalse = most_done 3 _
most_carry c (Go action state) = most_mapped 3 _ _ (most_hardware action c.settings)

most_event : (c : RfChannel) (e : Events) (tick : ℕ) (watchdog : Bool) → AtMost 3 (process_event c e tick watchdog)
unfolding process_event
most_event c e tick watchdog = most_carry c (planned table c e tick watchdog)

most_halting : (cause : Cause) → AtMost 2 (halting cause)
unfolding halting
most_halting cause = most_bind 1 1 _ _ (most_note _) (λ u. most_bind 1 0 _ _ (most_note _) (λ w. most_done 0 _))

-- ---- the calls that are one event: three rows, or two and a halt

after_event_lem : (a b n : ℕ) → a ≤ n → b + 2 ≤ n → (k : RfChannel → Told → Answer) (x : Result (RfChannel × Told) Cause) → Within (step a b x) (λ o. n) (after_event (λ c told. done (Live c (k c told))) x)
unfolding after_event
after_event_lem a b n h l k (Ok (c, told)) = within_done a (λ o. n) _ h
after_event_lem a b n h l k (Err cause) = within_most b 2 (λ o. n) _ (λ o. l) (most_halting cause)

most_answering : (answer : Told → Answer) (e : Events) (c : RfChannel) (g : Givens) → AtMost 4 (answering answer e c g)
unfolding answering
most_answering answer e c g = most_within 4 _ (within_bind 0 (step 3 2) (λ o. 4) _ _ (within_event c e g.tick g.watchdog) (after_event_lem 3 2 4 (lit≤ tt) (lit≤ tt) (λ x told. answer told)))

most_quietly : (e : Events) (c : RfChannel) (g : Givens) → AtMost 4 (quietly e c g)
unfolding quietly
most_quietly e c g = most_answering _ e c g

-- ---- the update

most_raising : (c : RfChannel) (e : Events) (g : Givens) → AtMost 3 (raising c e g)
unfolding raising
most_raising c e g = most_mapped 3 _ _ (most_event c e g.tick g.watchdog)

-- a fault that is found leads to Blocked with 3 rows, and otherwise there is none before the trip test
abbrev faulted : Result RfChannel Cause → ℕ
faulted (Ok c) = cond (is_blocked c.state) 3 0
faulted (Err cause) = 2

staged : (x : Result (RfChannel × Told) Cause) → blocking x ≤ faulted (stage_of x)
staged (Ok (c, told)) = omega arith
staged (Err cause) = omega arith

on_check_lem : (c : RfChannel) (g : Givens) (x : Result (Option ChannelFault) Cause) → Within 0 faulted (on_check c g x)
unfolding on_check raising
on_check_lem c g (Ok None) = within_done 0 faulted _ (omega arith)
on_check_lem c g (Ok (Some fault)) = within_mapped 0 faulted stage_of _ (within_less 0 blocking _ _ staged (within_fault c fault g.tick g.watchdog))
on_check_lem c g (Err cause) = within_done 0 faulted _ (omega arith)

on_overdrive_lem : (c : RfChannel) (g : Givens) (x : Option Interlock) → AtMost 3 (on_overdrive c g x)
unfolding on_overdrive
on_overdrive_lem c g None = most_done 3 _
on_overdrive_lem c g (Some interlock) = most_raising c _ g

on_power_lem : (c : RfChannel) (g : Givens) (x : Result Float Failed) → AtMost 3 (on_power c g x)
unfolding on_power
on_power_lem c g (Ok power) = on_overdrive_lem c g (overdrive_source power g)
on_power_lem c g (Err e) = most_done 3 _

most_trip : (c : RfChannel) (g : Givens) → AtMost 4 (trip_stage c g)
unfolding trip_stage
most_trip c g = most_cond 4 (is_enabled c.state) _ _ (most_bind 1 3 _ _ (most_input c.settings) (on_power_lem c g)) (most_done 4 _)

after_stage_lem : (k : ℕ) → 2 ≤ k → (f : RfChannel → Run Outcome) → ((c : RfChannel) → AtMost k (f c)) → (x : Result RfChannel Cause) → AtMost k (after_stage f x)
unfolding after_stage
after_stage_lem k h f m (Ok c) = m c
after_stage_lem k h f m (Err cause) = most_less 2 k _ h (most_halting cause)

most_finishing : (g : Givens) (c : RfChannel) → AtMost 3 (finishing g c)
unfolding finishing
most_finishing g c = most_within 3 _ (within_bind 0 (step 3 1) (λ o. 3) _ _ (within_update c g.tick g.watchdog) (after_event_lem 3 1 3 (lit≤ tt) (lit≤ tt) _))

not_enabled : (s : States) → is_blocked s ≡ true → is_enabled s ≡ false
not_enabled (St.Blocked f) h = refl
not_enabled St.Off h = refl
not_enabled (St.Powerup d) h = refl
not_enabled St.Powered h = refl
not_enabled St.Enabled h = absurd (let z : ◌≡◌ {A = ℕ} 0 1 = cc in omega arith)
not_enabled (St.Tripped i) h = refl
not_enabled (St.Powerdown d) h = refl

-- the trip test and the Update event: with 3 rows before them where the channel is blocked, and then no trip test
on_going : (c : RfChannel) (g : Givens) (b : Bool) → is_blocked c.state ≡ b → Within (cond b 3 0) (λ o. 7) (bind (trip_stage c g) (after_stage (finishing g)))
unfolding trip_stage
on_going c g true h = rw (not_enabled c.state h) (within_bind 3 (λ x. 3) (λ o. 7) _ _ (within_done 3 (λ x. 3) _ (lit≤ tt)) (λ x. within_most 3 3 (λ o. 7) _ (λ o. lit≤ tt) (after_stage_lem 3 (lit≤ tt) _ (most_finishing g) x)))
on_going c g false h = within_most 0 7 (λ o. 7) _ (λ o. lit≤ tt) (most_bind 4 3 _ _ (most_trip c g) (after_stage_lem 3 (lit≤ tt) _ (most_finishing g)))

on_stage : (g : Givens) (x : Result RfChannel Cause) → Within (faulted x) (λ o. 7) (after_stage (λ c. bind (trip_stage c g) (after_stage (finishing g))) x)
unfolding after_stage
on_stage g (Ok c) = on_going c g (is_blocked c.state) refl
on_stage g (Err cause) = within_most 2 2 (λ o. 7) _ (λ o. lit≤ tt) (most_halting cause)

most_updating : (c : RfChannel) (g : Givens) → AtMost 7 (updating c g)
unfolding updating fault_stage
most_updating c g = most_within 7 _ (within_bind 0 faulted (λ o. 7) _ _ (on_check_lem c g (check_faults g)) (on_stage g))

-- ---- settings

on_fine_lem : (k : ℕ) (m : Run (Result (Unit {0}) Wrong)) → AtMost k m → (x : Result (Unit {0}) Wrong) → AtMost k (on_fine m x)
unfolding on_fine
on_fine_lem k m h (Ok tt) = h
on_fine_lem k m h (Err wrong) = most_done k _

most_changes : (due : Changes) (s : ChannelSettings) → AtMost 3 (write_changes due s)
unfolding write_changes write_output write_reflected write_bias
most_changes due s =
    most_bind 1 2 _ _ (most_cond 1 due.output _ _ (most_mapped 1 _ _ (most_output s)) (most_done 1 _))
    (on_fine_lem 2 _
    (most_bind 1 1 _ _ (most_cond 1 due.reflected _ _ (most_mapped 1 _ _ (most_reflected s _)) (most_done 1 _))
    (on_fine_lem 1 _ (most_cond 1 due.bias _ _ (most_mapped 1 _ _ (most_bias s)) (most_done 1 _)))))

on_follow_lem : (c : RfChannel) (g : Givens) (x : Option Events) → AtMost 4 (on_follow c g x)
unfolding on_follow
on_follow_lem c g None = most_done 4 _
on_follow_lem c g (Some e) = most_quietly e c g

on_wrong : (c : RfChannel) (wrong : Wrong) → AtMost 2 (refusing c wrong)
unfolding refusing
on_wrong c Range = most_done 2 _
on_wrong c Chip = most_done 2 _
on_wrong c Bus = most_halting _

on_applied_lem : (wanted : ChannelState) (g : Givens) (x : Result RfChannel (RfChannel × Wrong)) → AtMost 4 (on_applied wanted g x)
unfolding on_applied following
on_applied_lem wanted g (Ok c) = on_follow_lem c g (event_of c.state wanted)
on_applied_lem wanted g (Err (c, wrong)) = most_less 2 4 _ (lit≤ tt) (on_wrong c wrong)

most_settings : (c : RfChannel) (s : ChannelSettings) (g : Givens) → AtMost 7 (handle_settings c s g)
unfolding handle_settings apply_settings
most_settings c s g = most_bind 3 4 _ _ (most_cond 3 (same c.settings s) _ _ (most_done 3 _) (most_mapped 3 _ _ (most_changes (changes_of c.settings s) s))) (on_applied_lem s.state g)

-- ---- the status

on_input_lem : (n : Float → Numbers) (x : Result Float Failed) → AtMost 0 (on_input n x)
unfolding on_input
on_input_lem n (Ok power) = most_done 0 _
on_input_lem n (Err e) = most_done 0 _

on_temperature_lem : (s : ChannelSettings) (d : Detectors) (four : Four) (t : Option Float) → AtMost 1 (on_temperature s d four t)
unfolding on_temperature
on_temperature_lem s d four (Some t) = most_bind 1 0 _ _ (most_input s) (on_input_lem _)
on_temperature_lem s d four None = most_done 1 _

on_voltages_lem : (s : ChannelSettings) (d : Detectors) (t : Option Float) (x : Result Four Failed) → AtMost 1 (on_voltages s d t x)
unfolding on_voltages
on_voltages_lem s d t (Ok four) = on_temperature_lem s d four t
on_voltages_lem s d t (Err e) = most_done 1 _

on_measures_lem : (c : RfChannel) (g : Givens) (x : Result Numbers Cause) → AtMost 2 (on_measures c g x)
unfolding on_measures
on_measures_lem c g (Ok n) = most_done 2 _
on_measures_lem c g (Err cause) = most_halting cause

most_status : (c : RfChannel) (d : Detectors) (g : Givens) → AtMost 7 (getting_status c d g)
unfolding getting_status measuring
most_status c d g = most_bind 5 2 _ _ (most_bind 4 1 _ _ most_ads7924_all (on_voltages_lem c.settings d g.temperature)) (on_measures_lem c g)

-- ---- any request

pub requested_at_most : (c : RfChannel) (r : Request) (g : Givens) → AtMost 7 (requested c r g)
unfolding requested handle_startup interlock_reset standing
requested_at_most c Startup g = most_less 4 7 _ (lit≤ tt) (most_quietly _ c g)
requested_at_most c Update g = most_updating c g
requested_at_most c Reset g = most_less 4 7 _ (lit≤ tt) (most_answering _ _ c g)
requested_at_most c Standby g = most_less 4 7 _ (lit≤ tt) (most_quietly _ c g)
requested_at_most c (Settings s) g = most_settings c s g
requested_at_most c (Status d) g = most_status c d g

-- ---- the start

most_beginning : AtMost 3 beginning
unfolding beginning
most_beginning = most_then 1 2 _ _ (most_pin _) (most_then 1 1 _ _ (most_pin _) most_pinch)

most_monitor : AtMost 10 monitor
unfolding monitor
most_monitor = most_then 5 5 _ _ (most_mapped 5 _ _ most_ads7924_opening) (most_then 4 1 _ _ (most_mapped 4 _ _ (most_ads7924 _)) (most_mapped 1 _ _ most_ads7924_alarm))

most_preparing : AtMost 13 preparing
unfolding preparing
most_preparing = most_then 3 10 _ _ most_beginning most_monitor

on_present_lem : (k : ℕ) (m : Run Presence) → AtMost k m → (x : Presence) → AtMost k (on_present m x)
unfolding on_present
on_present_lem k m h Present = h
on_present_lem k m h Absent = most_done k _

most_module : (present : Bool) → AtMost 3 (module_there present)
unfolding module_there
most_module present = most_bind 2 1 _ _ (most_mapped 2 _ _ most_ad5627_opening) (on_present_lem 1 _ (most_cond 1 present _ _ (most_mapped 1 _ _ (most_mcp3221 _)) (most_done 1 _)))

or_halt_lem : (k : ℕ) → 2 ≤ k → (m : Run Outcome) → AtMost k m → (x : Result (Unit {0}) Cause) → AtMost k (or_halt m x)
unfolding or_halt
or_halt_lem k h m y (Ok tt) = y
or_halt_lem k h m y (Err cause) = most_less 2 k _ h (most_halting cause)

most_settling : (s : ChannelSettings) → AtMost 4 (settling s)
unfolding settling levels
most_settling s = most_bind 2 2 _ _ (most_then 1 1 _ _ (most_mapped 1 _ _ (most_output s)) (most_mapped 1 _ _ (most_reflected s _))) (or_halt_lem 2 (lit≤ tt) _ (most_done 2 _))

if_present_lem : (s : ChannelSettings) (x : Presence) → AtMost 4 (if_present (settling s) x)
unfolding if_present
if_present_lem s Present = most_settling s
if_present_lem s Absent = most_done 4 _

pub starting_at_most : (s : ChannelSettings) (present : Bool) → AtMost 20 (starting s present)
unfolding starting
starting_at_most s present = most_bind 13 7 _ _ most_preparing (or_halt_lem 7 (lit≤ tt) _ (most_bind 3 4 _ _ (most_module present) (if_present_lem s)))

-- ---- any call

pub acts_at_most : (b : Admitted) → AtMost 20 (acts b)
unfolding acts
acts_at_most (Start settings present) = starting_at_most settings present
acts_at_most (Ask c request givens) = most_less 7 20 _ (lit≤ tt) (requested_at_most c request givens)

bound : (s : Slot) (call : Call) (b : Admitted) → Finds s call b → AtMost (most_rows call) (acts b)
unfolding acts
bound = found (λ s call b. AtMost (most_rows call) (acts b)) (λ s x settings present. starting_at_most settings present) requested_at_most

pub rows_at_most : RowsAtMost
unfolding called stepped
rows_at_most rack a = go (entry (slot_at rack a.slot) a.slot a) refl
  where
    of_call : (b : Admitted) → Finds (slot_at rack a.slot) a.call b → AtMost (most_rows a.call) (acts b)
    of_call = bound (slot_at rack a.slot) a.call

    go : (e : Result Admitted Refusal) → entry (slot_at rack a.slot) a.slot a ≡ e → length (through e a.slot (slot_at rack a.slot) a.replies a.numbers).rows ≤ most_rows a.call
    go (Err refusal) o = omega arith
    go (Ok b) o = (of_call b (let_in (slot_at rack a.slot) a.slot a b o).1 a.replies a.slot 0).rows
