-- A halt stays. Assumes nothing.
use Rattle.std.specs.Prelude.{Result, Ok, Err}
use Prim.Native.Nat.{ℕ}
use native.Mathlib.Omega.{arith}
use mathlib.Core.Path.{◌≡◌, refl, sym, ◌∙◌}
use mathlib.Core.List.{List}
use lib.ListN.{length}
use lib.Ieee.{Float}
use borrow.Author.Tests.{lt-leb}
use Rattle.rf_machine.specs.declared.Cause.{Cause}
use Rattle.rf_call.specs.declared.Outcome.{Outcome}
use Rattle.rf_call.specs.declared.Outcome.TheVariants as O
use Rattle.rf_call.specs.declared.Slot.{Slot}
use Rattle.rf_call.specs.declared.Slot.TheVariants as S
use Rattle.rf_call.specs.Outcome.{slot_of}
use Rattle.entry.specs.declared.Call.{Call}
use Rattle.entry.specs.Tests.{free_rows, entry_of}
use Rattle.slots.specs.declared.Verdict.TheVariants.{Halted}
use Rattle.slots.specs.Slots.{verdict_of}
use Rattle.slots.proofs.Laws.{said_once}
use Rattle.slot_call.specs.Step.{acts, through, stepped}
use Rattle.slot_call.specs.HaltStays.{AnswersThree, HaltStays, HaltStaysInBay}
use Rattle.entry.specs.declared.Admitted.{Admitted}
use Rattle.entry.specs.declared.Refusal.{Refusal}

pub halted_answers : (cause : Cause) → AnswersThree (S.Halted cause)
unfolding stepped
halted_answers cause n inside request givens free replies numbers = rw (lt-leb 8 n inside) (record { number = refl; standing = refl; rows = refl; numbers = refl })

-- an outcome that is answered 14 leaves the cause
left_halted : (cause : Cause) (x : Outcome) → verdict_of x ≡ Halted cause → slot_of x ≡ S.Halted cause
left_halted cause (O.Live c answer) h = absurd (let z : ◌≡◌ {A = ℕ} 0 1 = cc in omega arith)
left_halted cause O.Absent h = absurd (let z : ◌≡◌ {A = ℕ} 0 1 = cc in omega arith)
left_halted cause (O.Halted other) h = cc

leaves_cause : (n : ℕ) (s : Slot) (replies : List ℕ) (numbers : List Float) (cause : Cause) (e : Result Admitted Refusal) → (through e n s replies numbers).verdict ≡ Halted cause → (through e n s replies numbers).standing ≡ S.Halted cause
leaves_cause n s replies numbers cause (Err refusal) h = absurd (let z : ◌≡◌ {A = ℕ} 0 1 = cc in omega arith)
leaves_cause n s replies numbers cause (Ok a) h = left_halted cause (acts a replies n 0).ans h

halt_left : (n : ℕ) (s : Slot) (call : Call) (free : ℕ) (replies : List ℕ) (numbers : List Float) (cause : Cause) → (stepped n s call free replies numbers).verdict ≡ Halted cause → (stepped n s call free replies numbers).standing ≡ S.Halted cause
unfolding stepped
halt_left n s call free replies numbers cause h = leaves_cause n s replies numbers cause (entry_of n s call free (length replies) (length numbers)) h

pub halt_stays : HaltStays
halt_stays n s call free replies numbers cause h = let e = halt_left n s call free replies numbers cause h in (e, rw e (halted_answers cause))

pub halt_stays_in_bay : HaltStaysInBay
halt_stays_in_bay n b b' call u l rs ns t l' f' cause d p h =
    let x = stepped n b.slot call (free_rows u (length l)) rs ns in
    let e = p ∙ d.standing ∙ halt_left n b.slot call (free_rows u (length l)) rs ns cause (sym (said_once t.verdict x.verdict d.said) ∙ h) in
    (e, rw e (halted_answers cause))
