-- A halt is kept where the slot is kept: what was answered 14 is answered 3 to whatever is asked next. Definitions only.
use Rattle.std.specs.Prelude.{ℕ, ◌<◌, ◌≡◌, List, [], length, Float}
use Rattle.rf_machine.specs.declared.Cause.{Cause}
use Rattle.rf_call.specs.declared.Givens.{Givens}
use Rattle.rf_call.specs.declared.Slot.{Slot}
use Rattle.rf_call.specs.declared.Slot.TheVariants as S
use Rattle.rf_calls.specs.declared.Request.{Request}
use Rattle.entry.specs.declared.Call.{Call}
use Rattle.entry.specs.declared.Call.TheVariants.{Ask}
use Rattle.entry.specs.Tests.{free_rows}
use Rattle.slots.specs.declared.Bay.{Bay}
use Rattle.slots.specs.declared.Verdict.TheVariants.{Halted}
use Rattle.slots.specs.Slots.{number_of}
use Rattle.slot_call.specs.declared.Stepped.{Stepped}
use Rattle.slot_call.specs.Step.{After, stepped, Steps}

-- answer 3: the slot is as it was, no row is added, and the numbers stay
pub record HaltedEarlier (s : Slot) (ns : List Float) (x : After) : Type 0 where
  pub number : number_of x.verdict ≡ 3
  pub standing : x.standing ≡ s
  pub rows : x.rows ≡ []
  pub numbers : x.numbers ≡ ns

-- every request of what stands there, in whatever slot below the ninth, is answered 3
abbrev pub AnswersThree : Slot → Type 0
AnswersThree s = (n : ℕ) → n < 8 → (request : Request) (givens : Givens) (free : ℕ) (replies : List ℕ) (numbers : List Float) → HaltedEarlier s numbers (stepped n s (Ask request givens) free replies numbers)

-- the call was answered 14 with this cause: the slot keeps the cause and no channel, and answers 3 from then on
abbrev pub Stays : Cause → After → Type 0
Stays cause x = (x.standing ≡ S.Halted cause) × AnswersThree x.standing

-- whatever stood there and whatever was asked
abbrev pub HaltStays : Type 0
HaltStays = (n : ℕ) (s : Slot) (call : Call) (free : ℕ) (replies : List ℕ) (numbers : List Float) (cause : Cause) → (stepped n s call free replies numbers).verdict ≡ Halted cause → Stays cause (stepped n s call free replies numbers)

-- The same of a bay that is lent. The premises are what `call_in_place` promises, of the bay b before and b' after, of what it returned (t) and of the log and the numbers that it left: where that says 14 with this cause, the bay holds the halt, and answers 3 from then on.
abbrev pub HaltStaysInBay : Type 0
HaltStaysInBay = (n : ℕ) (b b' : Bay) (call : Call) (u : ℕ) (l rs : List ℕ) (ns : List Float) (t : Stepped) (l' : List ℕ) (f' : List Float) (cause : Cause)
    → Steps (stepped n b.slot call (free_rows u (length l)) rs ns) u l t l' f' → b'.slot ≡ t.standing → t.verdict ≡ Halted cause → (b'.slot ≡ S.Halted cause) × AnswersThree b'.slot
