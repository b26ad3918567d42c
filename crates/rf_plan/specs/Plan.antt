-- What an event does: the first line of the table for the state and the event. Definitions only.
use Rattle.std.specs.Prelude.{ℕ, Bool, true, cond, ◌&&◌, List, [], ◌∷◌, ◌==◌}
use Rattle.std.proofs.Math.Option.{Option, none, some}
use Rattle.rf_channel.specs.declared.ChannelFault.{ChannelFault}
use Rattle.rf_channel.specs.declared.Interlock.{Interlock}
use Rattle.rf_channel.specs.declared.Action.{Action}
use Rattle.rf_channel.specs.declared.RfChannel.{RfChannel}
use Rattle.rf_channel.specs.declared.States.{States}
use Rattle.rf_channel.specs.declared.States.TheVariants as S
use Rattle.rf_channel.specs.declared.Events.{Events}
use Rattle.rf_channel.specs.declared.Events.TheVariants as E
use Rattle.rf_channel.specs.declared.Plan.{Plan}
use Rattle.rf_channel.specs.declared.Plan.TheVariants.{NoTransition, GuardFalse, Go}
use Rattle.rf_channel.specs.Guards.{later, late_of, powerup_of, enable_of}
use Rattle.rf_plan.specs.Table.{Shape, Name, Guard, Line, ◌+◌⟦◌⟧◌⇒◌}
use Rattle.rf_plan.specs.Table as T

-- ---- what a state and an event carry

abbrev pub shape_of : States → Shape
shape_of (S.Blocked f) = T.Blocked
shape_of S.Off = T.Off
shape_of (S.Powerup d) = T.Powerup
shape_of S.Powered = T.Powered
shape_of S.Enabled = T.Enabled
shape_of (S.Tripped i) = T.Tripped
shape_of (S.Powerdown d) = T.Powerdown

abbrev pub name_of : Events → Name
name_of E.InterlockReset = T.InterlockReset
name_of E.Update = T.Update
name_of E.Disable = T.Disable
name_of E.DisableRf = T.DisableRf
name_of (E.Trip i) = T.Trip
name_of (E.Fault f) = T.Fault

-- what is made of a thing, where there is one
abbrev pub given : {A B : Type 0} → (A → B) → Option A → Option B
given f none = none
given f (some a) = some (f a)

-- the deadline of a state that has one
abbrev pub deadline_of : States → Option ℕ
deadline_of (S.Blocked f) = none
deadline_of S.Off = none
deadline_of (S.Powerup d) = some d
deadline_of S.Powered = none
deadline_of S.Enabled = none
deadline_of (S.Tripped i) = none
deadline_of (S.Powerdown d) = some d

-- the source of an event that is a trip, and the fault of one that is a fault
abbrev pub trip_of : Events → Option Interlock
trip_of E.InterlockReset = none
trip_of E.Update = none
trip_of E.Disable = none
trip_of E.DisableRf = none
trip_of (E.Trip i) = some i
trip_of (E.Fault f) = none

abbrev pub new_fault : Events → Option ChannelFault
new_fault E.InterlockReset = none
new_fault E.Update = none
new_fault E.Disable = none
new_fault E.DisableRf = none
new_fault (E.Trip i) = none
new_fault (E.Fault f) = some f

-- the fault that a channel is blocked for when another comes: Blocked keeps its first one
abbrev pub fault_of : States → ChannelFault → ChannelFault
fault_of (S.Blocked first) f = first
fault_of S.Off f = f
fault_of (S.Powerup d) f = f
fault_of S.Powered f = f
fault_of S.Enabled f = f
fault_of (S.Tripped i) f = f
fault_of (S.Powerdown d) f = f

-- ---- the table's meaning

-- the two shapes are the same, and so are the two names
abbrev pub shape_number : Shape → ℕ
shape_number T.Off = 0
shape_number T.Powerup = 1
shape_number T.Powered = 2
shape_number T.Enabled = 3
shape_number T.Tripped = 4
shape_number T.Powerdown = 5
shape_number T.Blocked = 6

abbrev pub name_number : Name → ℕ
name_number T.InterlockReset = 0
name_number T.Update = 1
name_number T.Disable = 2
name_number T.DisableRf = 3
name_number T.Trip = 4
name_number T.Fault = 5

-- whether the guard holds; a timeout needs a state that has a deadline
abbrev pub holds : Guard → RfChannel → ℕ → Bool → Option Bool
holds T.always c tick watchdog = some true
holds T.guard_powerup c tick watchdog = some (powerup_of c.settings)
holds T.check_timeout c tick watchdog = given (λ (d : ℕ). late_of tick d) (deadline_of c.state)
holds T.guard_enable c tick watchdog = some (enable_of c watchdog)

-- the next state with what it carries: a power-up takes 200 ms, a power-down 500 ms; Tripped needs a trip, and Blocked a fault
abbrev pub arrive : Shape → States → Events → ℕ → Option States
arrive T.Off s e tick = some S.Off
arrive T.Powerup s e tick = some (S.Powerup (later tick 200))
arrive T.Powered s e tick = some S.Powered
arrive T.Enabled s e tick = some S.Enabled
arrive T.Tripped s e tick = given (λ (i : Interlock). S.Tripped i) (trip_of e)
arrive T.Powerdown s e tick = some (S.Powerdown (later tick 500))
arrive T.Blocked s e tick = given (λ (f : ChannelFault). S.Blocked (fault_of s f)) (new_fault e)

-- what a line does. One that needs what there is not does nothing, and the table has no such line (Whole)
abbrev pub meant : Action → Option Bool → Option States → Plan
meant action none next = NoTransition
meant action (some b) none = NoTransition
meant action (some b) (some next) = cond b (Go action next) GuardFalse

-- a line is for the state and the event
abbrev pub for : Shape → Name → States → Events → Bool
for from on s e = shape_number from == shape_number (shape_of s) && name_number on == name_number (name_of e)

-- the first line for the state and the event decides; where there is none, nothing happens
unfoldable pub planned : List Line → RfChannel → Events → ℕ → Bool → Plan
planned [] c e tick watchdog = NoTransition
planned ((from + on ⟦ guard ⟧ action ⇒ to) ∷ lines) c e tick watchdog =
    cond (for from on c.state e) (meant action (holds guard c tick watchdog) (arrive to c.state e tick)) (planned lines c e tick watchdog)
