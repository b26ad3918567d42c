-- Laws of what a status shows: a whole one fills the caller's slice, and one that stopped leaves it. Assumes nothing.
use Rattle.std.specs.Prelude.{Result, Ok, Err}
use mathlib.Core.Path.{◌≡◌}
use mathlib.Core.List.{List}
use Prim.Native.Nat.{ℕ}
use lib.Ieee.{Float}
use Rattle.bus.specs.declared.Bus.{Bus}
use Rattle.bus.specs.Run.{Run, Runs}
use Rattle.rf_machine.specs.declared.Cause.{Cause}
use Rattle.rf_status.specs.declared.Numbers.{Numbers}
use Rattle.rf_status.specs.Numbers.{filled, shown_of}

module _ {m : Run (Result Numbers Cause)} {b : Bus} {n t : ℕ} {b' : Bus} {a : Result Numbers Cause} where
  pub shown_all : (x : List Float) {seven : Numbers} {y : List Float} → Runs m b n t b' a → a ≡ Ok seven → y ≡ filled seven x → y ≡ shown_of (m b.replies.now b.at.slot b.at.taken).ans x
  unfolding shown_of
  shown_all x d e f = rw (← d.does.ans, e) f

  pub shown_none : (x : List Float) {cause : Cause} → Runs m b n t b' a → a ≡ Err cause → x ≡ shown_of (m b.replies.now b.at.slot b.at.taken).ans x
  unfolding shown_of
  shown_none x d e = rw (← d.does.ans, e)
