-- No trip test after a fault in the same update: where the fault test finds a fault, the update is the fault's event and then the Update event. Assumes nothing.
use Rattle.std.specs.Prelude.{Result, Ok, Err}
use Prim.Native.Nat.{ℕ}
use mathlib.Core.Path.{◌≡◌, refl}
use mathlib.Core.List.{List}
use Rattle.bus.specs.Run.{Run, done, bind, mapped}
use Rattle.rf_channel.specs.declared.ChannelFault.{ChannelFault}
use Rattle.rf_channel.specs.declared.RfChannel.{RfChannel}
use Rattle.rf_channel.specs.declared.States.TheVariants.{Blocked}
use Rattle.rf_channel.specs.declared.Action.TheVariants.{HandleFault}
use Rattle.rf_plan.specs.Plan.{fault_of}
use Rattle.rf_machine.specs.Hardware.{hardware}
use Rattle.rf_machine.specs.Event.{arrived, carry, process_event}
use Rattle.rf_call.specs.declared.Givens.{Givens}
use Rattle.rf_update.specs.Update.{stage_of, raising, on_check, fault_stage, trip_stage, after_stage, finishing, updating}
use Rattle.rf_theorems.specs.Trips.{NoTripAfterFault}
use Rattle.rf_theorems.proofs.Events.{fault_blocks}
use Rattle.rf_machine.specs.declared.Cause.{Cause}

-- a blocked channel is not read
pub blocked_unread : (c : RfChannel) (g : Givens) (f : ChannelFault) → c.state ≡ Blocked f → trip_stage c g ≡ done (Ok c)
unfolding trip_stage
blocked_unread c g f h = rw h

after_fault : (c : RfChannel) (g : Givens) (f : ChannelFault) (e : Result (Unit {0}) Cause) (rs : List ℕ) (slot taken : ℕ)
    → after_stage (λ x. bind (trip_stage x g) (after_stage (finishing g))) (stage_of (arrived c HandleFault (Blocked f) e)) rs slot taken
    ≡ after_stage (finishing g) (stage_of (arrived c HandleFault (Blocked f) e)) rs slot taken
unfolding after_stage trip_stage bind done
after_fault c g f (Ok tt) rs slot taken = refl
after_fault c g f (Err cause) rs slot taken = refl

-- two runs that go on in the same way from where the first ends
bind_same : {A B : Type 0} (m : Run A) (k k' : A → Run B) (rs : List ℕ) (slot taken : ℕ)
    → k (m rs slot taken).ans rs slot (m rs slot taken).taken ≡ k' (m rs slot taken).ans rs slot (m rs slot taken).taken → bind m k rs slot taken ≡ bind m k' rs slot taken
unfolding bind
bind_same m k k' rs slot taken h = rw h

raised : (c : RfChannel) (g : Givens) (f : ChannelFault) (rs : List ℕ) (slot taken : ℕ)
    → bind (mapped stage_of (mapped (arrived c HandleFault (Blocked f)) (hardware HandleFault c.settings))) (after_stage (λ x. bind (trip_stage x g) (after_stage (finishing g)))) rs slot taken
    ≡ bind (mapped stage_of (mapped (arrived c HandleFault (Blocked f)) (hardware HandleFault c.settings))) (after_stage (finishing g)) rs slot taken
unfolding mapped bind done
raised c g f rs slot taken =
    bind_same (mapped stage_of (mapped (arrived c HandleFault (Blocked f)) (hardware HandleFault c.settings))) (after_stage (λ x. bind (trip_stage x g) (after_stage (finishing g)))) (after_stage (finishing g)) rs slot taken
    (after_fault c g f (hardware HandleFault c.settings rs slot taken).ans rs slot (hardware HandleFault c.settings rs slot taken).taken)

pub fault_then_update : NoTripAfterFault
unfolding updating fault_stage on_check raising process_event carry
fault_then_update c g f h rs slot taken = rw (h, fault_blocks c g.tick g.watchdog f) (raised c g (fault_of c.state f) rs slot taken)
