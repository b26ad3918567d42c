-- Laws of writes in a row: one that went wrong ends them, and one that was done is followed by the next. Assumes nothing.
use Rattle.std.specs.Prelude.{Result, Ok, Err}
use mathlib.Core.Path.{◌≡◌}
use Prim.Native.Nat.{ℕ, ◌+◌}
use native.Mathlib.Nat.{add-zero}
use Rattle.bus.specs.declared.Bus.{Bus}
use Rattle.bus.specs.Run.{Run, bind, Runs}
use Rattle.bus.proofs.Runs.{runs_then, runs_done}
use Rattle.rf_settings.specs.declared.Wrong.{Wrong}
use Rattle.rf_settings.specs.Settings.{on_fine}

module _ {m : Run (Result (Unit {0}) Wrong)} {b : Bus} {n t : ℕ} {b' : Bus} {w : Result (Unit {0}) Wrong} where
  -- the first went wrong
  pub runs_wrong : (k : Run (Result (Unit {0}) Wrong)) {wrong : Wrong} {r : Result (Unit {0}) Wrong} → Runs m b n t b' w → w ≡ Err wrong → r ≡ Err wrong → Runs (bind m (on_fine k)) b n t b' r
  unfolding on_fine
  runs_wrong k d h i = rw (add-zero n, add-zero t) at (runs_then (on_fine k) d h (runs_done i))

  -- the first was done
  pub runs_fine : (k : Run (Result (Unit {0}) Wrong)) {n' t' : ℕ} {b'' : Bus} {v : Result (Unit {0}) Wrong}
      → Runs m b n t b' w → w ≡ Ok tt → Runs k b' n' t' b'' v → Runs (bind m (on_fine k)) b (n + n') (t + t') b'' v
  unfolding on_fine
  runs_fine k d h f = runs_then (on_fine k) d h f
