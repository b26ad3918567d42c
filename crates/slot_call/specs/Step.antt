-- What a call does to what stands in the slot that it names, and what it leaves. Of the log it sees how many rows are free, and of the rack nothing but that slot. Definitions only.
use Rattle.std.specs.Prelude.{ℕ, ◌+◌, ◌≤◌, ◌≡◌, List, [], length, Float, Result, Ok, Err}
use Rattle.bus.specs.Rows.{Row, written}
use Rattle.bus.specs.Run.{Run}
use Rattle.gate.specs.Gate as G
use Rattle.rf_call.specs.declared.Outcome.{Outcome}
use Rattle.rf_call.specs.declared.Slot.{Slot}
use Rattle.rf_call.specs.Outcome.{slot_of}
use Rattle.rf_start.specs.Start.{starting}
use Rattle.rf_calls.specs.Requests.{requested, shown_by}
use Rattle.entry.specs.declared.Admitted.{Admitted}
use Rattle.entry.specs.declared.Admitted.TheVariants.{Start, Ask}
use Rattle.entry.specs.declared.Call.{Call}
use Rattle.entry.specs.Tests.{entry_of}
use Rattle.slots.specs.declared.Verdict.{Verdict}
use Rattle.slots.specs.declared.Verdict.TheVariants.{Refused}
use Rattle.slots.specs.Slots.{verdict_of, said_of}
use Rattle.slot_call.specs.declared.Stepped.{Stepped}
use Rattle.entry.specs.declared.Refusal.{Refusal}

-- ---- a call that is let in

unfoldable pub acts : Admitted → Run Outcome
acts (Start settings present) = starting settings present
acts (Ask c request givens) = requested c request givens

-- the caller's numbers afterwards
unfoldable pub shown_to : Admitted → List ℕ → ℕ → ℕ → List Float → List Float
shown_to (Start settings present) replies n taken numbers = numbers
shown_to (Ask c request givens) replies n taken numbers = shown_by c request givens replies n taken numbers

-- ---- any call

-- what stands in the slot and the answer, the rows that are added, and the caller's numbers
pub record After : Type 0 where
  pub standing : Slot
  pub verdict : Verdict
  pub rows : List Row
  pub numbers : List Float

-- what is refused leaves all as it was; what is let in leaves what its run left
abbrev pub through : Result Admitted Refusal → ℕ → Slot → List ℕ → List Float → After
through (Err refusal) n s replies numbers = record { standing = s; verdict = Refused refusal; rows = []; numbers = numbers }
through (Ok a) n s replies numbers =
    let x = acts a replies n 0 in
    record { standing = slot_of x.ans; verdict = verdict_of x.ans; rows = x.rows; numbers = shown_to a replies n 0 numbers }

-- the slot's number and what stands in it, the call, the rows free, the replies and the caller's numbers
unfoldable pub stepped : ℕ → Slot → Call → ℕ → List ℕ → List Float → After
stepped n s call free replies numbers = through (entry_of n s call free (length replies) (length numbers)) n s replies numbers

-- ---- what a promise says

-- t, the log l' and the numbers f' are what the call x left of the used count u and of the log l. No call adds more than 20 rows.
pub record Steps (x : After) (u : ℕ) (l : List ℕ) (t : Stepped) (l' : List ℕ) (f' : List Float) : Type 0 where
  pub standing : t.standing ≡ x.standing
  pub said : said_of t.verdict ≡ said_of x.verdict
  pub used : t.used ≡ u + length x.rows
  pub log : l' ≡ written l u x.rows
  pub numbers : f' ≡ x.numbers
  pub rows : length x.rows ≤ G.rows
