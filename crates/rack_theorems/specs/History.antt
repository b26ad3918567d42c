-- Calls on a rack one after the other, each with what it is given and what is lent to it; and the pin rule. Definitions only.
use Rattle.std.specs.Prelude.{ℕ, ◌+◌, ◌≤◌, ◌<◌, ◌≡◌, cond, ◌⊎◌, List, [], ◌∷◌, ◌++◌, eqb, length, Float}
use Rattle.bus.specs.Rows.{Row, written}
use Rattle.rf_channel.specs.declared.ChannelFault.{ChannelFault}
use Rattle.rf_channel.specs.declared.States.TheVariants.{Blocked}
use Rattle.rf_call.specs.declared.Slot.{Slot}
use Rattle.rf_call.specs.declared.Slot.TheVariants as S
use Rattle.rf_theorems.specs.Pins.{Levels, low, levels_after, levels_in, held, slot_of_row}
use Rattle.entry.specs.declared.Call.{Call}
use Rattle.entry.specs.declared.Call.TheVariants.{Start, Ask}
use Rattle.entry.specs.Tests.{free_rows}
use Rattle.slots.specs.declared.Rack.{Rack}
use Rattle.slots.specs.Slots.{empty_rack, slot_at}
use Rattle.rack_call.specs.Calls.{Left, called}

-- ---- a call with all that comes with it

pub record Asked : Type 0 where
  pub slot : ℕ
  pub call : Call
  pub log : List ℕ
  pub used : ℕ
  pub replies : List ℕ
  pub numbers : List Float

-- what it leaves of a rack
abbrev pub on : Rack → Asked → Left
on rack a = called rack a.slot a.call (free_rows a.used (length a.log)) a.replies a.numbers

-- the log and the used count afterwards
abbrev pub log_after : Asked → Left → List ℕ
log_after a x = written a.log a.used x.rows

abbrev pub used_after : Asked → Left → ℕ
used_after a x = a.used + length x.rows

-- the rows that a call adds at most: a start 20 (18, and two of a halt), a request 7
abbrev pub most_rows : Call → ℕ
most_rows (Start settings present) = 20
most_rows (Ask request givens) = 7

abbrev pub RowsAtMost : Type 0
RowsAtMost = (rack : Rack) (a : Asked) → length (on rack a).rows ≤ most_rows a.call

-- ---- one call after the other

-- the rack, and all rows that calls have added
pub record Past : Type 0 where
  pub rack : Rack
  pub rows : List Row

abbrev pub next : Past → Asked → Past
next past a = record { rack = (on past.rack a).rack; rows = past.rows ++ (on past.rack a).rows }

unfoldable pub goes_on : Past → List Asked → Past
goes_on past [] = past
goes_on past (a ∷ more) = goes_on (next past a) more

-- from eight slots without a channel
unfoldable pub history : List Asked → Past
history calls = goes_on (record { rack = empty_rack; rows = [] }) calls

-- the rows of one slot
unfoldable pub of_slot : ℕ → List Row → List Row
of_slot n [] = []
of_slot n (r ∷ rows) = cond (eqb (slot_of_row r) n) (r ∷ of_slot n rows) (of_slot n rows)

-- ---- the pin rule

-- q are the levels that the rows say: a channel holds these, and they are those of its state; after a halt both are low
unfoldable pub PinsStand : Levels → Slot → Type 0
PinsStand q S.Empty = Unit
PinsStand q (S.Halted cause) = q ≡ low
PinsStand q (S.Channel c) = (q ≡ held c) × (held c ≡ levels_in c.state)

-- after any calls, in each slot, whatever the pins were before the first call
abbrev pub PinRule : Type 0
PinRule = (p : Levels) (calls : List Asked) (n : ℕ) → n < 8 → PinsStand (levels_after p (of_slot n (history calls).rows)) (slot_at (history calls).rack n)

-- ---- a blocked channel

-- it stays blocked by its fault, or halts
unfoldable pub StaysBlocked : ChannelFault → Slot → Type 0
StaysBlocked f S.Empty = ⊥
StaysBlocked f (S.Halted cause) = Unit
StaysBlocked f (S.Channel c) = c.state ≡ Blocked f

-- eight bays, as every rack of the code has
abbrev pub Eight : Rack → Type 0
Eight rack = length rack.bays ≡ 8

unfoldable pub IsBlocked : ChannelFault → Slot → Type 0
IsBlocked f S.Empty = ⊥
IsBlocked f (S.Halted cause) = ⊥
IsBlocked f (S.Channel c) = c.state ≡ Blocked f

-- whatever is asked of whatever slot, also a start, and whatever the replies are
abbrev pub BlockedRule : Type 0
BlockedRule = (f : ChannelFault) (rack : Rack) → Eight rack → (n : ℕ) → n < 8 → IsBlocked f (slot_at rack n) → (a : Asked) → StaysBlocked f (slot_at (on rack a).rack n)

-- slot n was halted by one of some calls
unfoldable pub IsHalted : Slot → Type 0
IsHalted S.Empty = ⊥
IsHalted (S.Halted cause) = Unit
IsHalted (S.Channel c) = ⊥

unfoldable pub HaltedBy : ℕ → Past → List Asked → Type 0
HaltedBy n past [] = ⊥
HaltedBy n past (a ∷ more) = IsHalted (slot_at (next past a).rack n) ⊎ HaltedBy n (next past a) more

-- any calls: the channel is still blocked by the same fault, unless the slot was halted in between, and may have been started anew
abbrev pub BlockedAlways : Type 0
BlockedAlways = (f : ChannelFault) (past : Past) → Eight past.rack → (n : ℕ) → n < 8 → IsBlocked f (slot_at past.rack n) → (calls : List Asked) → IsBlocked f (slot_at (goes_on past calls).rack n) ⊎ HaltedBy n past calls
