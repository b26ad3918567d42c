-- What a call does to a rack: the step on what stands in the slot that it names, and what that leaves put back. So its answer rests on that slot alone, by the step's type. Definitions only.
use Rattle.std.specs.Prelude.{ℕ, ◌+◌, ◌≤◌, ◌≡◌, List, length, Float}
use Rattle.bus.specs.Rows.{Row, written}
use Rattle.gate.specs.Gate as G
use Rattle.entry.specs.declared.Call.{Call}
use Rattle.slots.specs.declared.Rack.{Rack}
use Rattle.slots.specs.declared.Turn.{Turn}
use Rattle.slots.specs.declared.Verdict.{Verdict}
use Rattle.slots.specs.Slots.{slot_at, put_at, said_of}
use Rattle.slot_call.specs.Step.{After, stepped}

-- the rack and the answer, the rows that are added, and the caller's numbers
pub record Left : Type 0 where
  pub rack : Rack
  pub verdict : Verdict
  pub rows : List Row
  pub numbers : List Float

-- what a step left, put back into slot n
abbrev pub in_rack : Rack → ℕ → After → Left
in_rack rack n x = record { rack = put_at rack n x.standing; verdict = x.verdict; rows = x.rows; numbers = x.numbers }

-- slot n of the rack, the call, the rows free, the replies and the caller's numbers
unfoldable pub called : Rack → ℕ → Call → ℕ → List ℕ → List Float → Left
called rack n call free replies numbers = in_rack rack n (stepped n (slot_at rack n) call free replies numbers)

-- ---- what a promise says

-- The turn t and the log l' are what the call x left of the used count u and of the log l; the answer is said in document 01's numbers. No call adds more than 20 rows.
pub record Leaves (x : Left) (u : ℕ) (l : List ℕ) (t : Turn) (l' : List ℕ) : Type 0 where
  pub rack : t.rack ≡ x.rack
  pub said : said_of t.verdict ≡ said_of x.verdict
  pub used : t.used ≡ u + length x.rows
  pub log : l' ≡ written l u x.rows
  pub rows : length x.rows ≤ G.rows
