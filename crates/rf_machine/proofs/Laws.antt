-- Laws of work that may stop, done in pieces: a piece that stops ends it, one that was done is followed by the next, and a pin's run is its note's. Assumes nothing.
use Rattle.std.specs.Prelude.{Result, Ok, Err}
use mathlib.Core.Path.{◌≡◌, refl}
use Prim.Native.Nat.{ℕ, ◌+◌}
use native.Mathlib.Nat.{add-zero}
use Rattle.bus.specs.declared.Bus.{Bus}
use Rattle.bus.specs.declared.Note.{Note}
use Rattle.bus.specs.Run.{Run, note, Runs}
use Rattle.bus.proofs.Runs.{runs_then, runs_mapped, runs_done}
use Rattle.rf_machine.specs.declared.Cause.{Cause}
use Rattle.rf_machine.specs.Hardware.{on_did, ◌and_then◌, pin}

-- ---- one piece after another

module _ {m : Run (Result (Unit {0}) Cause)} {b : Bus} {n t : ℕ} {b' : Bus} {e : Result (Unit {0}) Cause} where
  -- the first stopped
  pub runs_stop : (k : Run (Result (Unit {0}) Cause)) {cause : Cause} {r : Result (Unit {0}) Cause} → Runs m b n t b' e → e ≡ Err cause → r ≡ Err cause → Runs (m and_then k) b n t b' r
  unfolding on_did
  runs_stop k d h i = rw (add-zero n, add-zero t) at (runs_then (on_did k) d h (runs_done i))

  -- the first was done
  pub runs_did : (k : Run (Result (Unit {0}) Cause)) {n' t' : ℕ} {b'' : Bus} {f : Result (Unit {0}) Cause}
      → Runs m b n t b' e → e ≡ Ok tt → Runs k b' n' t' b'' f → Runs (m and_then k) b (n + n') (t + t') b'' f
  unfolding on_did
  runs_did k d h f = runs_then (on_did k) d h f

-- ---- a pin, or a wait

pub runs_pin : (w : Note) {b : Bus} {n t : ℕ} {b' : Bus} {u : Unit {0}} → Runs (note w) b n t b' u → Runs (pin w) b n t b' (Ok tt)
unfolding pin
runs_pin w d = runs_mapped (λ _. Ok tt) d refl
