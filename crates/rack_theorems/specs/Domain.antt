-- The second demand's domain, and what an event means there: the table with a clock that does not wrap. Definitions only.
use Rattle.std.specs.Prelude.{ℕ, ◌+◌ as plus, ◌^◌, ◌≤◌, ◌<◌, ◌≡◌, Bool, true, cond, List, [], ◌∷◌, ltb}
use Rattle.std.proofs.Math.Option.{Option, some}
use Rattle.rf_channel.specs.declared.ChannelFault.{ChannelFault}
use Rattle.rf_channel.specs.declared.Events.{Events}
use Rattle.rf_channel.specs.declared.Interlock.{Interlock}
use Rattle.rf_channel.specs.declared.Plan.{Plan}
use Rattle.rf_channel.specs.declared.Plan.TheVariants.{NoTransition, GuardFalse, Go}
use Rattle.rf_channel.specs.declared.RfChannel.{RfChannel}
use Rattle.rf_channel.specs.declared.States.{States}
use Rattle.rf_channel.specs.declared.States.TheVariants as St
use Rattle.rf_channel.specs.Guards.{powerup_of, enable_of}
use Rattle.rf_plan.specs.Table.{Shape, Guard, Line, ◌+◌⟦◌⟧◌⇒◌, table}
use Rattle.rf_plan.specs.Table as T
use Rattle.rf_plan.specs.Plan.{given, deadline_of, trip_of, new_fault, fault_of, meant, for, planned}
use Rattle.rf_plan.specs.Whole.{IfAny}
use Rattle.rf_call.specs.declared.Slot.{Slot}
use Rattle.rf_call.specs.declared.Slot.TheVariants as S
use Rattle.entry.specs.declared.Call.{Call}
use Rattle.entry.specs.declared.Call.TheVariants.{Start, Ask}
use Rattle.slots.specs.declared.Verdict.{Verdict}
use Rattle.slots.specs.declared.Verdict.TheVariants.{Refused, Answered, Absent, Halted}
use Rattle.slots.specs.Slots.{slot_at}
use Rattle.rack_theorems.specs.History.{Asked, on, Past, next, history}

-- ---- the domain

-- the tick by now: a start has none of its own
abbrev pub tick_by : Call → ℕ → ℕ
tick_by (Start settings present) last = last
tick_by (Ask request givens) last = givens.tick

-- a call that is answered 1 to 8 is left out: it moves no tick
abbrev pub tick_after : Verdict → Call → ℕ → ℕ
tick_after (Refused refusal) call last = last
tick_after (Answered answer) call last = tick_by call last
tick_after Absent call last = tick_by call last
tick_after (Halted cause) call last = tick_by call last

-- ticks never step back and stay below 2 ^ 31
abbrev pub Steady : Call → ℕ → Type 0
Steady call last = (last ≤ tick_by call last) × (tick_by call last < 2 ^ 31)

-- a call that is answered 1 to 8 is asked nothing
unfoldable pub TickFits : Verdict → Call → ℕ → Type 0
TickFits (Refused refusal) call last = Unit
TickFits (Answered answer) call last = Steady call last
TickFits Absent call last = Steady call last
TickFits (Halted cause) call last = Steady call last

unfoldable pub InDomain : Past → ℕ → List Asked → Type 0
InDomain past last [] = Unit
InDomain past last (a ∷ more) = let v = (on past.rack a).verdict in TickFits v a.call last × InDomain (next past a) (tick_after v a.call last) more

-- the last tick of some calls
unfoldable pub last_tick : Past → ℕ → List Asked → ℕ
last_tick past last [] = last
last_tick past last (a ∷ more) = last_tick (next past a) (tick_after (on past.rack a).verdict a.call last) more

-- ---- the table with a plain clock: 200 and 500 ms are added, and a deadline is late as soon as the tick is above it

abbrev pub passes : Guard → RfChannel → ℕ → Bool → Option Bool
passes T.always c tick watchdog = some true
passes T.guard_powerup c tick watchdog = some (powerup_of c.settings)
passes T.check_timeout c tick watchdog = given (λ (d : ℕ). ltb d tick) (deadline_of c.state)
passes T.guard_enable c tick watchdog = some (enable_of c watchdog)

abbrev pub leads : Shape → States → Events → ℕ → Option States
leads T.Off s e tick = some St.Off
leads T.Powerup s e tick = some (St.Powerup (plus tick 200))
leads T.Powered s e tick = some St.Powered
leads T.Enabled s e tick = some St.Enabled
leads T.Tripped s e tick = given (λ (i : Interlock). St.Tripped i) (trip_of e)
leads T.Powerdown s e tick = some (St.Powerdown (plus tick 500))
leads T.Blocked s e tick = given (λ (f : ChannelFault). St.Blocked (fault_of s f)) (new_fault e)

unfoldable pub spoken : List Line → RfChannel → Events → ℕ → Bool → Plan
spoken [] c e tick watchdog = NoTransition
spoken ((from + on ⟦ guard ⟧ action ⇒ to) ∷ lines) c e tick watchdog =
    cond (for from on c.state e) (meant action (passes guard c tick watchdog) (leads to c.state e tick)) (spoken lines c e tick watchdog)

-- ---- what is shown on the domain

-- a deadline, where there is one, is at most 500 ms away from the last tick
abbrev pub Near : ℕ → States → Type 0
Near last s = IfAny (λ (d : ℕ). d ≤ plus last 500) (deadline_of s)

unfoldable pub Sane : ℕ → Slot → Type 0
Sane last S.Empty = Unit
Sane last (S.Halted cause) = Unit
Sane last (S.Channel c) = Near last c.state

-- after any calls in the domain, for every slot's channel: whatever comes next, at whatever tick of the domain, does what the table says with a plain clock
unfoldable pub SpeaksPlainly : ℕ → Slot → Type 0
SpeaksPlainly last S.Empty = Unit
SpeaksPlainly last (S.Halted cause) = Unit
SpeaksPlainly last (S.Channel c) = (e : Events) (tick : ℕ) (watchdog : Bool) → last ≤ tick → tick < 2 ^ 31 → planned table c e tick watchdog ≡ spoken table c e tick watchdog

abbrev pub PlainClock : Type 0
PlainClock = (calls : List Asked) → InDomain (history []) 0 calls → (n : ℕ) → n < 8 → SpeaksPlainly (last_tick (history []) 0 calls) (slot_at (history calls).rack n)

-- The domain is wide: all calls whose ticks never step back and stay below 2 ^ 31 are in it, whatever they are answered.
unfoldable pub Ordered : ℕ → List Asked → Type 0
Ordered last [] = Unit
Ordered last (a ∷ more) = Steady a.call last × Ordered (tick_by a.call last) more

abbrev pub Wide : Type 0
Wide = (calls : List Asked) → Ordered 0 calls → InDomain (history []) 0 calls

-- within one call: an event that finds a near deadline does what the table says with a plain clock, and leads to a near one, which the next event of the same call finds
unfoldable pub LeadsNear : ℕ → Plan → Type 0
LeadsNear tick NoTransition = Unit
LeadsNear tick GuardFalse = Unit
LeadsNear tick (Go action state) = Near tick state

abbrev pub PlainEvents : Type 0
PlainEvents = (c : RfChannel) (e : Events) (tick : ℕ) (watchdog : Bool) → Near tick c.state → tick < 2 ^ 31 → (planned table c e tick watchdog ≡ spoken table c e tick watchdog) × LeadsNear tick (planned table c e tick watchdog)
