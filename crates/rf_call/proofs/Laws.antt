-- Laws of calls: what follows an event, an answer or the halt. Assumes nothing.
use Rattle.std.specs.Prelude.{Result, Ok, Err}
use mathlib.Core.Path.{◌≡◌}
use Prim.Native.Nat.{ℕ, ◌+◌}
use Rattle.bus.specs.declared.Bus.{Bus}
use Rattle.bus.specs.Run.{Run, bind, Runs}
use Rattle.bus.proofs.Runs.{runs_then}
use Rattle.rf_channel.specs.declared.RfChannel.{RfChannel}
use Rattle.rf_machine.specs.declared.Cause.{Cause}
use Rattle.rf_machine.specs.declared.Told.{Told}
use Rattle.rf_call.specs.declared.Outcome.{Outcome}
use Rattle.rf_call.specs.Calls.{halting, after_event}

module _ {m : Run (Result (RfChannel × Told) Cause)} {b : Bus} {n t : ℕ} {b' : Bus} {g : Result (RfChannel × Told) Cause} where
  pub runs_event : (k : RfChannel → Told → Run Outcome) {c : RfChannel} {told : Told} {b'' : Bus} {n' t' : ℕ} {r : Outcome} → Runs m b n t b' g → g ≡ Ok (c, told) → Runs (k c told) b' n' t' b'' r → Runs (bind m (after_event k)) b (n + n') (t + t') b'' r
  unfolding after_event
  runs_event k d e f = runs_then (after_event k) d e f

  pub runs_halt : (k : RfChannel → Told → Run Outcome) {cause : Cause} {b'' : Bus} {n' t' : ℕ} {r : Outcome} → Runs m b n t b' g → g ≡ Err cause → Runs (halting cause) b' n' t' b'' r → Runs (bind m (after_event k)) b (n + n') (t + t') b'' r
  unfolding after_event
  runs_halt k d e f = runs_then (after_event k) d e f
