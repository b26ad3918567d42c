-- An invented row count falls to the rows themselves. Definitions only.
use Rattle.std.specs.Prelude.{ℕ, ◌+◌, ◌≡◌, List, length}
use Rattle.slots.specs.declared.Turn.{Turn}
use Rattle.rack_call.specs.Calls.{Left, Leaves}

-- the same turn with another count
abbrev pub counted : Turn → ℕ → Turn
counted t n = record { rack = t.rack; verdict = t.verdict; used = n }

-- any count but that of the rows falls, whatever else the turn says
abbrev pub InventedCount : Type 0
InventedCount = (x : Left) (u : ℕ) (l l' : List ℕ) (t : Turn) (n : ℕ) → (n ≡ u + length x.rows → ⊥) → Leaves x u l (counted t n) l' → ⊥
