-- The numbers of the causes, and what stands in the slot after a call. Definitions only.
use Rattle.std.specs.Prelude.{ℕ}
use Rattle.rf_machine.specs.declared.Cause.{Cause}
use Rattle.rf_machine.specs.declared.Cause.TheVariants.{Bus, Alarm, Temperature, Threshold, Level, Bias}
use Rattle.rf_machine.specs.declared.Told.{Told}
use Rattle.rf_machine.specs.declared.Told.TheVariants.{Moved, NoTransition as NotListed, GuardFalse as NotAllowed}
use Rattle.rf_call.specs.declared.Answer.{Answer}
use Rattle.rf_call.specs.declared.Answer.TheVariants.{Done, NoTransition, GuardFalse}
use Rattle.rf_call.specs.declared.Report.TheVariants.{Plain}
use Rattle.rf_call.specs.declared.Outcome.{Outcome}
use Rattle.rf_call.specs.declared.Outcome.TheVariants.{Live, Absent, Halted}
use Rattle.rf_call.specs.declared.Slot.{Slot}
use Rattle.rf_call.specs.declared.Slot.TheVariants as S

-- causes: the bus, an alarm at the start, the temperature failed, a threshold refused at the start, a threshold not above the 100 mV level, the bias out of range on enabling
abbrev pub cause_of : Cause → ℕ
cause_of Bus = 1
cause_of Alarm = 2
cause_of Temperature = 3
cause_of Threshold = 4
cause_of Level = 5
cause_of Bias = 6

-- the slot after a call: a halted one keeps its cause and no channel
abbrev pub slot_of : Outcome → Slot
slot_of (Live c answer) = S.Channel c
slot_of Absent = S.Empty
slot_of (Halted cause) = S.Halted cause

-- the reset button is told what the table says
abbrev pub reset_answer : Told → Answer
reset_answer Moved = Done Plain
reset_answer NotListed = NoTransition
reset_answer NotAllowed = GuardFalse
