-- The eight slots, and the numbers of the answers. Definitions only.
use Rattle.std.specs.Prelude.{ℕ, Bool, cond, leb, get_or, set, replicate}
use Rattle.std.proofs.Math.Option.{Option, none, some}
use Rattle.rf_channel.specs.declared.States.{States}
use Rattle.rf_call.specs.declared.Answer.TheVariants as A
use Rattle.rf_call.specs.declared.Report.{Report}
use Rattle.rf_call.specs.declared.Report.TheVariants.{Plain, Power, Status}
use Rattle.rf_call.specs.declared.Outcome.{Outcome}
use Rattle.rf_call.specs.declared.Outcome.TheVariants as O
use Rattle.rf_call.specs.declared.Slot.{Slot}
use Rattle.rf_call.specs.declared.Slot.TheVariants as S
use Rattle.rf_call.specs.Outcome as N
use Rattle.entry.specs.Tests as E
use Rattle.slots.specs.declared.Bay.{Bay}
use Rattle.slots.specs.declared.Rack.{Rack}
use Rattle.slots.specs.declared.Verdict.{Verdict}
use Rattle.slots.specs.declared.Verdict.TheVariants.{Refused, Answered, Absent, Halted}

-- ---- the slots

abbrev pub empty_bay : Bay
empty_bay = record { slot = S.Empty }

-- eight slots without a channel
abbrev pub empty_rack : Rack
empty_rack = record { bays = replicate 8 empty_bay }

-- what stands in slot n: above the eighth nothing
abbrev pub slot_at : Rack → ℕ → Slot
slot_at rack n = cond (leb 8 n) S.Empty (get_or rack.bays n empty_bay).slot

-- the rack with s in slot n, and all others as they are: above the eighth there is none, and nothing changes
abbrev pub put_at : Rack → ℕ → Slot → Rack
put_at rack n s = cond (leb 8 n) rack (record { bays = set rack.bays n (record { slot = s }) })

-- ---- the answers

abbrev pub verdict_of : Outcome → Verdict
verdict_of (O.Live c answer) = Answered answer
verdict_of O.Absent = Absent
verdict_of (O.Halted cause) = Halted cause

-- document 01's number of an answer: 1 to 8 are refusals
abbrev pub number_of : Verdict → ℕ
number_of (Refused refusal) = E.number_of refusal
number_of (Answered (A.Done report)) = 0
number_of (Answered A.NoTransition) = 9
number_of (Answered A.GuardFalse) = 10
number_of (Answered A.Range) = 11
number_of (Answered A.Chip) = 12
number_of Absent = 13
number_of (Halted cause) = 14

-- the cause beside a 14; 0 beside every other answer
abbrev pub cause_beside : Verdict → ℕ
cause_beside (Refused refusal) = 0
cause_beside (Answered answer) = 0
cause_beside Absent = 0
cause_beside (Halted cause) = N.cause_of cause

-- three flags: of an update its front panel's (powered, RF disabled, blocked), of a status its pins' (reflected, output, alert)
pub record Flags : Type 0 where
  pub first : Bool
  pub second : Bool
  pub third : Bool

abbrev pub flags_in : Report → Option Flags
flags_in Plain = none
flags_in (Power p) = some (record { first = p.powered; second = p.rf_disabled; third = p.blocked })
flags_in (Status s) = some (record { first = s.reflected_overdrive; second = s.output_overdrive; third = s.alert })

-- the state that a status shows
abbrev pub state_in : Report → Option States
state_in Plain = none
state_in (Power p) = none
state_in (Status s) = some s.state

abbrev pub flags_of : Verdict → Option Flags
flags_of (Refused refusal) = none
flags_of (Answered (A.Done report)) = flags_in report
flags_of (Answered A.NoTransition) = none
flags_of (Answered A.GuardFalse) = none
flags_of (Answered A.Range) = none
flags_of (Answered A.Chip) = none
flags_of Absent = none
flags_of (Halted cause) = none

abbrev pub state_of : Verdict → Option States
state_of (Refused refusal) = none
state_of (Answered (A.Done report)) = state_in report
state_of (Answered A.NoTransition) = none
state_of (Answered A.GuardFalse) = none
state_of (Answered A.Range) = none
state_of (Answered A.Chip) = none
state_of Absent = none
state_of (Halted cause) = none

-- an answer in document 01's numbers: its number, the cause beside a 14, the flags of an update or a status, and the state of a status. A promise says an answer by this.
pub record Said : Type 0 where
  pub number : ℕ
  pub cause : ℕ
  pub flags : Option Flags
  pub state : Option States

abbrev pub said_of : Verdict → Said
said_of v = record { number = number_of v; cause = cause_beside v; flags = flags_of v; state = state_of v }
