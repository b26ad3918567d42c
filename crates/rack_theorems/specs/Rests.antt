-- That an answer rests on the slot that is named, on what comes with the call, and on the rows free, and on nothing else of the rack. Definitions only.
use Rattle.std.specs.Prelude.{ℕ, ◌≡◌, List, Float}
use Rattle.entry.specs.declared.Call.{Call}
use Rattle.slots.specs.declared.Rack.{Rack}
use Rattle.slots.specs.Slots.{slot_at}
use Rattle.rack_call.specs.Calls.{Left, called}
use Rattle.rack_theorems.specs.History.{Eight}

-- two calls on slot n gave the same answer, added the same rows, showed the same numbers, and left the same in the slot
pub record Same (n : ℕ) (x y : Left) : Type 0 where
  pub verdict : x.verdict ≡ y.verdict
  pub rows : x.rows ≡ y.rows
  pub numbers : x.numbers ≡ y.numbers
  pub slot : slot_at x.rack n ≡ slot_at y.rack n

-- two calls that agree on what stands in the slot, on the call, on the rows free, on replies and numbers agree on everything, whatever else the racks hold
abbrev pub RestsOnSlot : Type 0
RestsOnSlot = (rack rack' : Rack) (n : ℕ) (call : Call) (free : ℕ) (rs : List ℕ) (ns : List Float) → Eight rack → Eight rack' → slot_at rack n ≡ slot_at rack' n → Same n (called rack n call free rs ns) (called rack' n call free rs ns)
