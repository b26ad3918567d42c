-- The first demand: what each answer leaves, over any list of calls, whatever rack they find, whatever log, replies and numbers come with them. Definitions only.
use Rattle.std.specs.Prelude.{ℕ, ◌*◌, ◌≤◌, ◌<◌, ◌≡◌, false, ◌⊎◌, List, [], ◌∷◌, ◌++◌, length, get_or, Err}
use Rattle.bus.specs.declared.Note.TheVariants.{SignalOn, EnablePower}
use Rattle.bus.specs.declared.Transfer.TheVariants.{Write3}
use Rattle.bus.specs.Rows.{Row, noted, moved}
use Rattle.rf_channel.specs.declared.ChannelSettings.{ChannelSettings}
use Rattle.rf_channel.specs.declared.RfChannel.{RfChannel}
use Rattle.rf_call.specs.declared.Answer.TheVariants as A
use Rattle.rf_call.specs.declared.Givens.{Givens}
use Rattle.rf_call.specs.declared.Slot.{Slot}
use Rattle.rf_call.specs.declared.Slot.TheVariants as S
use Rattle.rf_changes.specs.Changes.{stored}
use Rattle.rf_calls.specs.declared.Request.TheVariants.{Settings}
use Rattle.rf_theorems.specs.Pins.{Levels, low, levels_after, Own}
use Rattle.gate.specs.Gate as G
use Rattle.entry.specs.declared.Call.{Call}
use Rattle.entry.specs.declared.Call.TheVariants.{Start, Ask}
use Rattle.slots.specs.declared.Rack.{Rack}
use Rattle.slots.specs.declared.Verdict.{Verdict}
use Rattle.slots.specs.declared.Verdict.TheVariants.{Refused, Answered, Absent, Halted}
use Rattle.slots.specs.Slots.{slot_at, number_of}
use Rattle.rack_call.specs.Calls.{Left}
use Rattle.rack_theorems.specs.History.{Asked, on, log_after, used_after, Eight}
use Rattle.bus.specs.Rows.{no_answer}

-- ---- what an answer leaves

-- rack, log, used count and numbers, all as they were
pub record Unchanged (rack : Rack) (a : Asked) (x : Left) : Type 0 where
  pub rack_stays : x.rack ≡ rack
  pub log_stays : log_after a x ≡ a.log
  pub count_stays : used_after a x ≡ a.used
  pub numbers_stay : x.numbers ≡ a.numbers

-- no pin was touched and nothing waited for: no event
unfoldable pub Transfers : List Row → Type 0
Transfers [] = Unit
Transfers (noted slot n ∷ rows) = ⊥
Transfers (moved slot t g ∷ rows) = Transfers rows

-- new settings were asked for and are stored; nothing else of the channel has changed, and no event was raised
pub record Stored (rack : Rack) (a : Asked) (x : Left) : Type 0 where
  pub channel : RfChannel
  pub settings : ChannelSettings
  pub givens : Givens
  pub before : slot_at rack a.slot ≡ S.Channel channel
  pub asked : a.call ≡ Ask (Settings settings) givens
  pub after : slot_at x.rack a.slot ≡ S.Channel (stored channel settings)
  pub no_event : Transfers x.rows
  pub numbers_stay : x.numbers ≡ a.numbers

-- the last row is a failed write to the interlock chip, whose address is 0x0E
pub record LastFailed (n : ℕ) (rows : List Row) : Type 0 where
  pub earlier : List Row
  pub first : ℕ
  pub second : ℕ
  pub third : ℕ
  pub ends : rows ≡ earlier ++ (moved n (Write3 0x0E first second third) (Err no_answer) ∷ [])

-- the last two rows set both output pins low
pub record EndsLow (n : ℕ) (rows : List Row) : Type 0 where
  pub earlier : List Row
  pub ends : rows ≡ earlier ++ (noted n (SignalOn false) ∷ noted n (EnablePower false) ∷ [])

-- the rows say that both output pins are low, whatever they were before
abbrev pub SaysLow : List Row → Type 0
SaysLow rows = (p : Levels) → levels_after p rows ≡ low

-- a channel stands in the slot
pub record Standing (s : Slot) : Type 0 where
  pub channel : RfChannel
  pub is : s ≡ S.Channel channel

-- a start was asked for
unfoldable pub IsStart : Call → Type 0
IsStart (Start settings present) = Unit
IsStart (Ask request givens) = ⊥

unfoldable pub LeftBy : Rack → Asked → Left → Verdict → Type 0
LeftBy rack a x (Refused refusal) = Unchanged rack a x
LeftBy rack a x (Answered (A.Done report)) = Standing (slot_at x.rack a.slot)
LeftBy rack a x (Answered A.NoTransition) = Unchanged rack a x
LeftBy rack a x (Answered A.GuardFalse) = Unchanged rack a x
LeftBy rack a x (Answered A.Range) = Stored rack a x
LeftBy rack a x (Answered A.Chip) = Stored rack a x × LastFailed a.slot x.rows
LeftBy rack a x Absent = (slot_at x.rack a.slot ≡ S.Empty) × IsStart a.call × SaysLow x.rows × (x.numbers ≡ a.numbers)
LeftBy rack a x (Halted cause) = (slot_at x.rack a.slot ≡ S.Halted cause) × EndsLow a.slot x.rows × (x.numbers ≡ a.numbers)

-- ---- any call

pub record Right (rack : Rack) (a : Asked) (x : Left) : Type 0 where
  pub answer : LeftBy rack a x x.verdict
  -- the other seven slots
  pub others : (j : ℕ) → (j ≡ a.slot → ⊥) → slot_at x.rack j ≡ slot_at rack j
  -- no more than 20 rows, all of the slot; the log is as long as it was, and bytes outside of the rows keep their contents
  pub rows : length x.rows ≤ G.rows
  pub own : Own a.slot x.rows
  pub log_length : length (log_after a x) ≡ length a.log
  pub bytes : (j : ℕ) → (j < 16 * a.used) ⊎ (16 * used_after a x ≤ j) → get_or (log_after a x) j 0 ≡ get_or a.log j 0
  pub bays : Eight x.rack

-- each of some calls one after the other
unfoldable pub Each : Rack → List Asked → Type 0
Each rack [] = Unit
Each rack (a ∷ more) = Right rack a (on rack a) × Each (on rack a).rack more

abbrev pub Demand1 : Type 0
Demand1 = (rack : Rack) (calls : List Asked) → Eight rack → Each rack calls

-- ---- in numbers

-- an answer 1 to 10 leaves everything as it was
abbrev pub NothingChanged : Type 0
NothingChanged = (rack : Rack) (a : Asked) → Eight rack → 1 ≤ number_of (on rack a).verdict → number_of (on rack a).verdict ≤ 10 → Unchanged rack a (on rack a)
