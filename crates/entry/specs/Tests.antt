-- The answers 1 to 8: tests in the order of document 01's table. The first that applies is given, and not otherwise. Definitions only.
use Rattle.std.specs.Prelude.{ℕ, ◌-◌, ◌*◌, ◌/◌, Bool, true, false, not, ◌&&◌, cond, List, [], ◌∷◌, ◌++◌, leb, ltb, Option, Some, None, Result, Ok, Err, Float}
use Rattle.std.specs.Float.Ieee.Scale.{finite}
use Rattle.gate.specs.Gate.{rows, transfers}
use Rattle.rf_call.specs.declared.Slot.{Slot}
use Rattle.rf_call.specs.declared.Slot.TheVariants as S
use Rattle.rf_calls.specs.declared.Request.{Request}
use Rattle.rf_calls.specs.declared.Request.TheVariants as R
use Rattle.rf_calls.specs.Requests.{places}
use Rattle.entry.specs.declared.Call.{Call}
use Rattle.entry.specs.declared.Call.TheVariants.{Start, Ask}
use Rattle.entry.specs.declared.Refusal.{Refusal}
use Rattle.entry.specs.declared.Refusal.TheVariants as No
use Rattle.entry.specs.declared.Admitted.{Admitted}
use Rattle.entry.specs.declared.Admitted.TheVariants as In

-- ---- what is asked

-- the places that a call asks for once it is let in
abbrev pub places_of : Admitted → ℕ
places_of (In.Start settings present) = 0
places_of (In.Ask c request givens) = places request

-- a status fills seven places
abbrev pub fills : Request → Bool
fills R.Startup = false
fills R.Update = false
fills R.Reset = false
fills R.Standby = false
fills (R.Settings s) = false
fills (R.Status d) = true

abbrev pub short : Call → ℕ → Bool
short (Start settings present) numbers = false
short (Ask request givens) numbers = fills request && ltb numbers 7

-- an update and a status look at the temperature
abbrev pub looks : Request → Bool
looks R.Startup = false
looks R.Update = true
looks R.Reset = false
looks R.Standby = false
looks (R.Settings s) = false
looks (R.Status d) = true

-- a temperature that is given is a finite number
abbrev pub temperature_fits : Option Float → Bool
temperature_fits (Some degrees) = finite degrees
temperature_fits None = true

abbrev pub unfit : Call → Bool
unfit (Start settings present) = false
unfit (Ask request givens) = looks request && not (temperature_fits givens.temperature)

-- ---- the log

-- the whole rows that are free in a log of that many bytes: none where the count is past the log's end
abbrev pub free_rows : ℕ → ℕ → ℕ
free_rows used log = log / 16 - used

-- ---- the tests

pub record Test : Type 0 where
  pub applies : Bool
  pub refusal : Refusal

infix 30 ◌gives◌
abbrev pub ◌gives◌ : Bool → Refusal → Test
b gives r = record { applies = b; refusal = r }

-- the first that applies; e where none does
abbrev pub first_of : {A : Type 0} → List Test → Result A Refusal → Result A Refusal
first_of [] e = e
first_of (t ∷ more) e = cond t.applies (Err t.refusal) (first_of more e)

-- 1: the slot is above 7
abbrev pub of_number : ℕ → List Test
of_number slot = (leb 8 slot gives No.Slot) ∷ []

-- 2, 3, 4: a request of an empty slot; of one that was halted earlier; a start of one that holds a channel. Any other call finds what it is for, and is let in if none of the further tests applies.
abbrev pub of_standing : Slot → Call → List Test → Result Admitted Refusal
of_standing S.Empty (Ask request givens) further = Err No.Empty
of_standing (S.Halted cause) (Ask request givens) further = Err No.Halted
of_standing (S.Channel c) (Start settings present) further = Err No.Taken
of_standing S.Empty (Start settings present) further = first_of further (Ok (In.Start settings present))
of_standing (S.Halted cause) (Start settings present) further = first_of further (Ok (In.Start settings present))
of_standing (S.Channel c) (Ask request givens) further = first_of further (Ok (In.Ask c request givens))

-- 5, 6: fewer than 20 rows of the log are free; fewer than 135 bytes of replies
abbrev pub of_room : ℕ → ℕ → List Test
of_room free replies = (ltb free rows gives No.Log) ∷ (ltb replies (9 * transfers) gives No.Replies) ∷ []

-- 7, 8: fewer places than a status fills; a temperature that is given, and not finite
abbrev pub of_given : Call → ℕ → List Test
of_given call numbers = (short call numbers gives No.Numbers) ∷ (unfit call gives No.Temperature) ∷ []

-- all of them: the slot's number and what stands in it, the call, the rows free, and the lengths of the replies and of the number slice
abbrev pub entry_of : ℕ → Slot → Call → ℕ → ℕ → ℕ → Result Admitted Refusal
entry_of slot standing call free replies numbers = first_of (of_number slot) (of_standing standing call (of_room free replies ++ of_given call numbers))

-- document 01's number of each refusal
abbrev pub number_of : Refusal → ℕ
number_of No.Slot = 1
number_of No.Empty = 2
number_of No.Halted = 3
number_of No.Taken = 4
number_of No.Log = 5
number_of No.Replies = 6
number_of No.Numbers = 7
number_of No.Temperature = 8
