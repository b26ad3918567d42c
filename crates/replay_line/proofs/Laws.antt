-- A line that is a call has replies that fit; and what is told of a line. Assumes nothing.
use Prim.Native.Nat.{ℕ, ◌+◌, ◌≤◌}
use native.Mathlib.Omega.{arith}
use mathlib.Core.Bool.{Bool, true, false, cond}
use mathlib.Core.Path.{◌≡◌, refl, ap}
use mathlib.Core.List.{List}
use Rattle.std.proofs.Common.{Option, Some, None}
use lib.Dec.{eqb, leb}
use lib.ListN.{length}
use Rattle.trace.specs.Trace.{parsed_of}
use Rattle.columns.specs.Columns.{count_of, column_of}
use Rattle.entry.specs.declared.Call.{Call}
use Rattle.rf_call.specs.declared.Slot.{Slot}
use Rattle.slots.specs.declared.Rack.{Rack}
use Rattle.slots.specs.declared.Turn.{Turn}
use Rattle.slots.specs.Slots.{slot_at, number_of, Said}
use Rattle.rack_call.specs.Calls.{Leaves}
use Rattle.text.specs.Texts.{Wrote}
use Rattle.sheet.specs.Lines.{answer_text, bad_text}
use Rattle.replay_line.specs.Line.{State, turned, replies_of, after_line, line_text}
use Rattle.reply_field.specs.Replies.{fits_of}

-- a line that does not fit is no call
held : (a b f : Bool) (p : Option Call) {call : Call} → cond a (cond b (cond f p None) None) None ≡ Some call → f ≡ true
held true true true p e = refl
held true true false p e = cc
held true false f p e = cc
held false b f p e = cc

pub call_fits : (l : List ℕ) {call : Call} → parsed_of l ≡ Some call → fits_of (column_of 7 l) ≡ true
unfolding parsed_of
call_fits l e = held (leb (length l) 512) (eqb (count_of l) 9) (fits_of (column_of 7 l)) _ e

-- ---- what is told of a line

abbrev pub state : Rack → ℕ → List ℕ → State
state rack used log = record { rack = rack; used = used; log = log }

-- the state after line l, and what is written for it as line number n, from place a of o to place p of o': 96 bytes at most
abbrev pub Tells : State → ℕ → List ℕ → State → List ℕ → ℕ → List ℕ → ℕ → Type 0
Tells s n l s' o a o' p = (s' ≡ after_line s l) × Wrote o a o' p (line_text s n l) × (p ≤ a + 96)

module _ (s : State) (n : ℕ) (l : List ℕ) {o o' : List ℕ} {a p : ℕ} where
  pub tells_bad : parsed_of l ≡ None → Wrote o a o' p (bad_text n) → length (bad_text n) ≤ 96 → Tells s n l s o a o' p
  unfolding after_line line_text
  tells_bad e w short = (rw e refl, rw e w, omega (arith, w.past))

  pub tells_call :
      {call : Call} {t : Turn} {log' : List ℕ} {number : ℕ} {standing : Slot} → parsed_of l ≡ Some call → Leaves (turned s call (replies_of l)) s.used s.log t log'
      → number ≡ number_of t.verdict → standing ≡ slot_at t.rack 0 → Wrote o a o' p (answer_text n number standing t.used) → length (answer_text n number standing t.used) ≤ 96
      → Tells s n l (record { rack = t.rack; used = t.used; log = log' }) o a o' p
  unfolding after_line line_text
  tells_call e left is stands w short =
      (rw (e, left.rack, left.used, left.log) refl, rw e (rw (is, stands, ap (λ (x : Said). x.number) left.said, left.rack, left.used) at w), omega (arith, w.past))
