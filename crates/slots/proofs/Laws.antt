-- What is put into a slot stands there (`put_here`), and all others stay (`put_there`); to put back what stands there changes nothing (`put_same`). An answer in document 01's numbers says which answer it is (`said_once`). Assumes nothing.
use Prim.Native.Nat.{ℕ, ◌<◌}
use native.Mathlib.Omega.{arith}
use mathlib.Core.Path.{◌≡◌, refl, ap, sym, ◌∙◌}
use mathlib.Core.Bool.{Bool, true, false, cond}
use lib.Dec.{leb, eqb}
use lib.ListN.{length, length-set, get_or, set}
use lib.Seq.{get_or-set_same, get_or-set_other, set-get_or}
use mathlib.Core.Option.{Option, none, some}
use borrow.Author.Tests.{lt-leb}
use Rattle.rf_channel.specs.declared.States.{States}
use Rattle.rf_machine.specs.declared.Cause.{Cause}
use Rattle.rf_machine.specs.declared.Cause.TheVariants as C
use Rattle.rf_call.specs.declared.Answer.TheVariants as A
use Rattle.rf_call.specs.declared.Report.{Report}
use Rattle.rf_call.specs.declared.Report.TheVariants.{Plain, Power, Status}
use Rattle.rf_call.specs.declared.Slot.{Slot}
use Rattle.rf_call.specs.declared.Slot.TheVariants.{Empty}
use Rattle.rf_call.specs.Outcome.{cause_of}
use Rattle.entry.specs.declared.Refusal.{Refusal}
use Rattle.entry.specs.declared.Refusal.TheVariants as No
use Rattle.slots.specs.declared.Bay.{Bay}
use Rattle.slots.specs.declared.Rack.{Rack}
use Rattle.slots.specs.declared.Verdict.{Verdict}
use Rattle.slots.specs.declared.Verdict.TheVariants.{Refused, Answered, Absent, Halted}
use Rattle.slots.specs.Slots.{empty_bay, slot_at, put_at, Flags, flags_in, state_in, Said, said_of}

-- ---- the slots

module _ (rack : Rack) (n : ℕ) where
  pub put_length : (s : Slot) → length (put_at rack n s).bays ≡ length rack.bays
  put_length s = go (leb 8 n)
    where
      go : (b : Bool) → length (cond b rack (record { bays = set rack.bays n (record { slot = s }) })).bays ≡ length rack.bays
      go true = refl
      go false = length-set rack.bays n (record { slot = s })

  pub put_there : (s : Slot) (j : ℕ) → (j ≡ n → ⊥) → slot_at (put_at rack n s) j ≡ slot_at rack j
  put_there s j h = go (leb 8 n)
    where
      go : (b : Bool) → slot_at (cond b rack (record { bays = set rack.bays n (record { slot = s }) })) j ≡ slot_at rack j
      go true = refl
      go false = ap (λ (b : Bay). cond (leb 8 j) Empty b.slot) (get_or-set_other rack.bays n j (record { slot = s }) empty_bay h)

  pub put_here : (s : Slot) → n < 8 → length rack.bays ≡ 8 → slot_at (put_at rack n s) n ≡ s
  put_here s inside eight = rw (lt-leb 8 n inside) (ap (λ (b : Bay). b.slot) (get_or-set_same rack.bays n (record { slot = s }) empty_bay (omega (arith, eight))))

  pub put_same : put_at rack n (slot_at rack n) ≡ rack
  put_same = go (leb 8 n)
    where
      go : (b : Bool) → cond b rack (record { bays = set rack.bays n (record { slot = cond b Empty (get_or rack.bays n empty_bay).slot }) }) ≡ rack
      go true = refl
      go false = λ i. record { bays = set-get_or rack.bays n empty_bay i }

-- ---- the answers

-- the answer that is said so: a left inverse of `said_of`
refusal_for : ℕ → Refusal
refusal_for n = cond (eqb n 1) No.Slot (cond (eqb n 2) No.Empty (cond (eqb n 3) No.Halted (cond (eqb n 4) No.Taken (cond (eqb n 5) No.Log (cond (eqb n 6) No.Replies (cond (eqb n 7) No.Numbers No.Temperature))))))

cause_for : ℕ → Cause
cause_for n = cond (eqb n 1) C.Bus (cond (eqb n 2) C.Alarm (cond (eqb n 3) C.Temperature (cond (eqb n 4) C.Threshold (cond (eqb n 5) C.Level C.Bias))))

report_for : Option Flags → Option States → Report
report_for none s = Plain
report_for (some f) none = Power (record { powered = f.first; rf_disabled = f.second; blocked = f.third })
report_for (some f) (some s) = Status (record { reflected_overdrive = f.first; output_overdrive = f.second; alert = f.third; state = s })

verdict_for : Said → Verdict
verdict_for s =
    let n = s.number in
    cond (eqb n 0) (Answered (A.Done (report_for s.flags s.state)))
    (cond (eqb n 9) (Answered A.NoTransition)
    (cond (eqb n 10) (Answered A.GuardFalse)
    (cond (eqb n 11) (Answered A.Range)
    (cond (eqb n 12) (Answered A.Chip)
    (cond (eqb n 13) Absent
    (cond (eqb n 14) (Halted (cause_for s.cause))
    (Refused (refusal_for n))))))))

report_back : (r : Report) → report_for (flags_in r) (state_in r) ≡ r
unfolding report_for
report_back Plain = refl
report_back (Power p) = refl
report_back (Status s) = refl

refusal_back : (r : Refusal) → verdict_for (said_of (Refused r)) ≡ Refused r
unfolding verdict_for refusal_for
refusal_back No.Slot = refl
refusal_back No.Empty = refl
refusal_back No.Halted = refl
refusal_back No.Taken = refl
refusal_back No.Log = refl
refusal_back No.Replies = refl
refusal_back No.Numbers = refl
refusal_back No.Temperature = refl

cause_back : (c : Cause) → cause_for (cause_of c) ≡ c
unfolding cause_for
cause_back C.Bus = refl
cause_back C.Alarm = refl
cause_back C.Temperature = refl
cause_back C.Threshold = refl
cause_back C.Level = refl
cause_back C.Bias = refl

verdict_back : (v : Verdict) → verdict_for (said_of v) ≡ v
unfolding verdict_for
verdict_back (Refused r) = refusal_back r
verdict_back (Answered (A.Done report)) = ap (λ (r : Report). Answered (A.Done r)) (report_back report)
verdict_back (Answered A.NoTransition) = refl
verdict_back (Answered A.GuardFalse) = refl
verdict_back (Answered A.Range) = refl
verdict_back (Answered A.Chip) = refl
verdict_back Absent = refl
verdict_back (Halted cause) = ap Halted (cause_back cause)

-- two answers that are said alike are one
pub said_once : (v w : Verdict) → said_of v ≡ said_of w → v ≡ w
said_once v w e = sym (verdict_back v) ∙ ap verdict_for e ∙ verdict_back w
