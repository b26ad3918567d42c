-- What a driver's own entry answers and leaves: refused at the gate with nothing changed, or the driver's run from the used count on. Definitions only.
use Rattle.std.specs.Prelude.{◌≡◌, ℕ, ◌+◌, List, length, Result, Ok, Err}
use Rattle.bus.specs.Rows.{written}
use Rattle.bus.specs.Run.{Run, Ran}
use Rattle.gate.specs.declared.Bar.{Bar}
use Rattle.gate.specs.Gate.{gate_of}
use Rattle.bus.specs.declared.Cursor.{Cursor}

-- the answer, the log and the used count
pub record Left (A : Type 0) : Type 0 where
  pub ans : A
  pub log : List ℕ
  pub used : ℕ

-- after a run that wrote its rows from the used count on
abbrev pub leaves : {A : Type 0} → ℕ → List ℕ → Ran A → Left A
leaves used log x = record { ans = x.ans; log = written log used x.rows; used = used + length x.rows }

abbrev pub through : {A : Type 0} → (Bar → A) → Run A → ℕ → List ℕ → List ℕ → Result Cursor Bar → Left A
through refused m used log replies (Err bar) = record { ans = refused bar; log = log; used = used }
through refused m used log replies (Ok c) = leaves c.used log (m replies c.slot c.taken)

-- of the run m, with `refused` for what the gate shuts out
unfoldable pub enter : {A : Type 0} → (Bar → A) → Run A → ℕ → ℕ → List ℕ → List ℕ → Left A
enter refused m slot used log replies = through refused m used log replies (gate_of slot used (length log) (length replies))

-- the answer a, the log l' and the used count u' are those
pub record Enters {A : Type 0} (refused : Bar → A) (m : Run A) (slot used : ℕ) (l rs l' : List ℕ) (u' : ℕ) (a : A) : Type 0 where
  pub ans : a ≡ (enter refused m slot used l rs).ans
  pub log : l' ≡ (enter refused m slot used l rs).log
  pub count : u' ≡ (enter refused m slot used l rs).used
