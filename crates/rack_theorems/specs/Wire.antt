-- Demand 3 on the wire, over any call on any slot of any rack: what the interlock chip is sent, and for what a level may be refused. Definitions only.
use Rattle.std.specs.Prelude.{ℕ, ◌≡◌, Bool, ◌⊎◌, None}
use Rattle.std.specs.Float.Ieee.{neg}
use Rattle.conversions.specs.Codes.{dac7571_code}
use Rattle.rf_channel.specs.declared.ChannelSettings.{ChannelSettings}
use Rattle.rf_call.specs.declared.Givens.{Givens}
use Rattle.rf_calls.specs.declared.Request.TheVariants.{Settings}
use Rattle.wire_theorems.specs.Wire.{Writes, Every, LevelOf, MayWrite}
use Rattle.wire_theorems.specs.Refusals.{ALevel}
use Rattle.entry.specs.declared.Call.{Call}
use Rattle.entry.specs.declared.Call.TheVariants.{Start, Ask}
use Rattle.slots.specs.declared.Rack.{Rack}
use Rattle.slots.specs.Slots.{number_of, cause_beside}
use Rattle.rack_theorems.specs.History.{Asked, on}

-- a start and settings may write the levels of the settings that they are given; no other call writes a code
unfoldable pub MayWriteIn : Call → ℕ → ℕ → ℕ → Type 0
MayWriteIn (Start settings present) first high low = LevelOf settings first high low
MayWriteIn (Ask request givens) first high low = MayWrite request first high low

pub record OnTheWire : Type 0 where
  -- each row that a call adds and that writes a code to the interlock chip, acknowledged or failed, carries the code of such a level, and demand 3 holds of it
  pub codes : (rack : Rack) (a : Asked) → Every (Writes (MayWriteIn a.call)) (on rack a).rows
  -- settings are answered 11 only if a level is out of range in demand 3's sense, or its premises do not hold, or the bias chip has no code for the bias
  pub eleven : (rack : Rack) (a : Asked) (s : ChannelSettings) (g : Givens) → a.call ≡ Ask (Settings s) g → number_of (on rack a).verdict ≡ 11 → ALevel s ⊎ (dac7571_code (neg s.bias_voltage) ≡ None)
  -- a start halts with cause 4 only if a level is out of range in demand 3's sense, or its premises do not hold
  pub cause_4 : (rack : Rack) (a : Asked) (s : ChannelSettings) (present : Bool) → a.call ≡ Start s present → cause_beside (on rack a).verdict ≡ 4 → ALevel s
