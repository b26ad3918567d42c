-- Each request in the words of the table. Assumes nothing.
use Rattle.std.specs.Prelude.{Result, Ok, Err}
use Prim.Native.Nat.{ℕ}
use native.Mathlib.Omega.{arith}
use mathlib.Core.Path.{◌≡◌, refl}
use mathlib.Core.List.{List}
use Rattle.bus.specs.Run.{done, bind}
use Rattle.rf_channel.specs.declared.ChannelSettings.{ChannelSettings}
use Rattle.rf_channel.specs.declared.RfChannel.{RfChannel}
use Rattle.rf_machine.specs.Event.{process_event}
use Rattle.rf_call.specs.declared.Answer.{Answer}
use Rattle.rf_call.specs.declared.Givens.{Givens}
use Rattle.rf_call.specs.declared.Outcome.TheVariants.{Live}
use Rattle.rf_call.specs.Calls.{halting, answering, quietly, interlock_reset, handle_startup, standing}
use Rattle.rf_update.specs.Update.{raising, on_check, fault_stage, on_overdrive, on_power, trip_stage, finishing, updating}
use Rattle.rf_settings.specs.Settings.{on_follow, following, on_applied, handle_settings}
use Rattle.rf_status.specs.declared.Detectors.{Detectors}
use Rattle.rf_status.specs.Status.{measuring, on_measures, getting_status}
use Rattle.rf_calls.specs.Requests.{requested}
use Rattle.rack_theorems.specs.Words.{Words}
use Rattle.rf_machine.specs.declared.Cause.{Cause}
use Rattle.rf_status.specs.declared.Numbers.{Numbers}

shown : (c : RfChannel) (g : Givens) (m : Result Numbers Cause) (replies : List ℕ) (n taken : ℕ) (c' : RfChannel) (answer : Answer) → (on_measures c g m replies n taken).ans ≡ Live c' answer → c' ≡ c
unfolding on_measures halting done bind
shown c g (Ok numbers) replies n taken c' answer h = cc
shown c g (Err cause) replies n taken c' answer h = absurd (let z : ◌≡◌ {A = ℕ} 0 1 = cc in omega arith)

pub words : (c : RfChannel) (g : Givens) (s : ChannelSettings) (d : Detectors) → Words c g s d
unfolding requested handle_startup interlock_reset standing quietly answering process_event updating finishing fault_stage on_check raising trip_stage on_power on_overdrive handle_settings on_applied following on_follow getting_status bind
words c g s d =
    record {
      startup = refl;
      standby = refl;
      reset = refl;
      update = refl;
      fault = λ f h. rw h;
      no_fault = λ h. rw h;
      fault_unknown = λ h. rw h;
      tested = λ h. rw h;
      not_tested = λ h. rw h;
      trip = λ power i h. rw h;
      no_trip = λ power h. rw h;
      trip_unknown = refl;
      settings = refl;
      applied = λ c'. refl;
      follow = λ c' e h. rw h;
      no_follow = λ c' h. rw h;
      status = λ replies n taken c' answer h. shown c g (measuring c.settings d g.temperature replies n taken).ans replies n (measuring c.settings d g.temperature replies n taken).taken c' answer h;
    }
