-- What rows say of the output pins, and where the pins are high. Definitions only.
use Rattle.std.specs.Prelude.{ℕ, ◌≡◌, Bool, true, false, List, [], ◌∷◌}
use Rattle.bus.specs.declared.Note.TheVariants.{SignalOn, EnablePower, Wait}
use Rattle.bus.specs.Rows.{Row, noted, moved}
use Rattle.rf_channel.specs.declared.RfChannel.{RfChannel}
use Rattle.rf_channel.specs.declared.States.{States}
use Rattle.rf_plan.specs.Table.{Shape}
use Rattle.rf_plan.specs.Table as T
use Rattle.rf_plan.specs.Plan.{shape_of}

-- the levels of both output pins
pub record Levels : Type 0 where
  pub signal : Bool
  pub power : Bool

abbrev pub low : Levels
low = record { signal = false; power = false }

-- ---- what rows say: the last row of each pin wins

abbrev pub after : Levels → Row → Levels
after p (noted slot (SignalOn on)) = record { signal = on; power = p.power }
after p (noted slot (EnablePower on)) = record { signal = p.signal; power = on }
after p (noted slot (Wait time)) = p
after p (moved slot t g) = p

unfoldable pub levels_after : Levels → List Row → Levels
levels_after p [] = p
levels_after p (r ∷ rows) = levels_after (after p r) rows

-- all rows are of one slot
abbrev pub slot_of_row : Row → ℕ
slot_of_row (noted slot n) = slot
slot_of_row (moved slot t g) = slot

unfoldable pub Own : ℕ → List Row → Type 0
Own slot [] = Unit
Own slot (r ∷ rows) = (slot_of_row r ≡ slot) × Own slot rows

-- ---- the pin rule

-- signal_on is high exactly in Enabled
abbrev pub signal_in : Shape → Bool
signal_in T.Off = false
signal_in T.Powerup = false
signal_in T.Powered = false
signal_in T.Enabled = true
signal_in T.Tripped = false
signal_in T.Powerdown = false
signal_in T.Blocked = false

-- enable_power is high exactly in Powerup, Powered, Enabled and Tripped
abbrev pub power_in : Shape → Bool
power_in T.Off = false
power_in T.Powerup = true
power_in T.Powered = true
power_in T.Enabled = true
power_in T.Tripped = true
power_in T.Powerdown = false
power_in T.Blocked = false

abbrev pub levels_in : States → Levels
levels_in s = record { signal = signal_in (shape_of s); power = power_in (shape_of s) }

-- the levels that a channel holds
abbrev pub held : RfChannel → Levels
held c = record { signal = c.signal_on; power = c.enable_power }
