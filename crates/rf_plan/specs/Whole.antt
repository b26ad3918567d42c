-- The table's lines need nothing that is not there: a state with a deadline where a timeout is checked, a trip on the way to Tripped, a fault on the way to Blocked. Definitions only.
use Rattle.std.specs.Prelude.{ℕ, Bool, true, false, ◌&&◌, T, List, [], ◌∷◌, ◌==◌}
use Rattle.std.proofs.Math.Option.{Option, none, some, IsSome}
use Rattle.rf_channel.specs.declared.Events.{Events}
use Rattle.rf_channel.specs.declared.RfChannel.{RfChannel}
use Rattle.rf_plan.specs.Table.{Shape, Name, Guard, Line, ◌+◌⟦◌⟧◌⇒◌, table}
use Rattle.rf_plan.specs.Table as T
use Rattle.rf_plan.specs.Plan.{name_number, holds, arrive, for}

-- a state that has a deadline
abbrev pub timed : Shape → Bool
timed T.Off = false
timed T.Powerup = true
timed T.Powered = false
timed T.Enabled = false
timed T.Tripped = false
timed T.Powerdown = true
timed T.Blocked = false

-- ---- one test over the table

abbrev pub guarded : Guard → Shape → Bool
guarded T.always from = true
guarded T.guard_powerup from = true
guarded T.check_timeout from = timed from
guarded T.guard_enable from = true

abbrev pub reached : Shape → Name → Bool
reached T.Off on = true
reached T.Powerup on = true
reached T.Powered on = true
reached T.Enabled on = true
reached T.Tripped on = name_number on == name_number T.Trip
reached T.Powerdown on = true
reached T.Blocked on = name_number on == name_number T.Fault

unfoldable pub whole : List Line → Bool
whole [] = true
whole ((from + on ⟦ guard ⟧ action ⇒ to) ∷ lines) = (guarded guard from && reached to on) && whole lines

abbrev pub TableWhole : Type 0
TableWhole = T (whole table)

-- ---- what it means: a line that is for the state and the event has all that it needs

abbrev pub Has : Line → RfChannel → Events → Type 0
Has (from + on ⟦ guard ⟧ action ⇒ to) c e = T (for from on c.state e) → (tick : ℕ) (watchdog : Bool) → IsSome (holds guard c tick watchdog) × IsSome (arrive to c.state e tick)

unfoldable pub AllHave : List Line → RfChannel → Events → Type 0
AllHave [] c e = Unit
AllHave (line ∷ lines) c e = Has line c e × AllHave lines c e

abbrev pub NothingMissing : Type 0
NothingMissing = (c : RfChannel) (e : Events) → AllHave table c e

-- ---- what holds of a thing, where there is one

abbrev pub IfAny : {A : Type 0} → (A → Type 0) → Option A → Type 0
IfAny P none = Unit
IfAny P (some a) = P a
