-- The pin rule of one event: every line of the table leads from the levels of its state to those of its next state (one computed test), and an action's run leaves the pins at the action's levels. So an event keeps what a channel holds, what the rows say and what the state asks for the same. Assumes nothing.
use Rattle.std.specs.Prelude.{Result, Ok, Err}
use Prim.Native.Nat.{ℕ}
use mathlib.Core.Path.{◌≡◌, refl, sym, ap, ◌∙◌}
use mathlib.Core.Bool.{Bool, true, false, cond, ◌&&◌, beq}
use mathlib.Core.List.{List, [], ◌∷◌}
use lib.Dec.{T, eqb}
use lib.Ieee.{lt}
use Rattle.bus.specs.declared.Note.TheVariants.{SignalOn, EnablePower, Wait}
use Rattle.bus.specs.Run.{Run, done, mapped}
use Rattle.rf_channel.specs.declared.Action.{Action}
use Rattle.rf_channel.specs.declared.Action.TheVariants.{Nothing, StartPowerup, ResetInterlocks, EnableOutput, StartDisable, HandleFault, HandleTrip, DisableRfSwitch}
use Rattle.rf_channel.specs.declared.ChannelSettings.{ChannelSettings}
use Rattle.rf_channel.specs.declared.Events.{Events}
use Rattle.rf_channel.specs.declared.Plan.{Plan}
use Rattle.rf_channel.specs.declared.Plan.TheVariants.{NoTransition, GuardFalse, Go}
use Rattle.rf_channel.specs.declared.RfChannel.{RfChannel}
use Rattle.rf_channel.specs.declared.States.{States}
use Rattle.rf_plan.specs.Table.{Shape, Line, table, ◌+◌⟦◌⟧◌⇒◌}
use Rattle.rf_plan.specs.Table as T
use Rattle.rf_channel.specs.Guards.{lowest}
use Rattle.rf_plan.specs.Plan.{shape_of, shape_number, trip_of, new_fault, holds, arrive, meant, for, planned}
use Rattle.rf_plan.specs.Whole.{IfAny}
use Rattle.rf_plan.proofs.Whole.{both, same_shape, if_given, if_more, if_meant}
use Rattle.rf_machine.specs.declared.Cause.{Cause}
use Rattle.rf_machine.specs.declared.Cause.TheVariants.{Level}
use Rattle.rf_machine.specs.Hardware.{on_did, ◌and_then◌, pin, pinch_off, apply_bias, enabled, start_powerup, reset_interlocks, disable_rf_switch, start_disable, enable_output, hardware}
use Rattle.rf_machine.specs.Event.{signal_after, power_after, moved, arrived, carry, process_event}
use Rattle.rf_theorems.specs.Pins.{Levels, signal_in, power_in, levels_in, held}
use Rattle.rf_theorems.proofs.Keeps.{Keeps, Still, keeps_done, keeps_more, keeps_bind, keeps_mapped, keeps_note, still_mapped}
use Rattle.rf_theorems.proofs.Chips.{still_dac7571, still_bias}
use Rattle.rf_machine.specs.declared.Told.{Told}

-- ---- one test over the table

abbrev line_ok : Line → Bool
line_ok (from + on ⟦ guard ⟧ action ⇒ to) = beq (signal_in to) (signal_after action (signal_in from)) && beq (power_in to) (power_after action (power_in from))

unfoldable all_ok : List Line → Bool
all_ok [] = true
all_ok (line ∷ lines) = line_ok line && all_ok lines

table_ok : T (all_ok table)
unfolding table all_ok
table_ok = tt

-- ---- what the test says of every plan

beq→eq : (a b : Bool) → T (beq a b) → a ≡ b
beq→eq true true t = refl
beq→eq true false t = absurd t
beq→eq false true t = absurd t
beq→eq false false t = refl

-- the next state is of the shape that the line names
arrives : (to : Shape) (s : States) (e : Events) (tick : ℕ) → IfAny (λ x. shape_of x ≡ to) (arrive to s e tick)
arrives T.Off s e tick = refl
arrives T.Powerup s e tick = refl
arrives T.Powered s e tick = refl
arrives T.Enabled s e tick = refl
arrives T.Tripped s e tick = if_given _ _ (trip_of e) (λ i. refl)
arrives T.Powerdown s e tick = refl
arrives T.Blocked s e tick = if_given _ _ (new_fault e) (λ f. refl)

-- the levels that a channel holds are those of its state
abbrev pub Right : RfChannel → Type 0
Right c = held c ≡ levels_in c.state

unfoldable Good : RfChannel → Plan → Type 0
Good c NoTransition = Unit
Good c GuardFalse = Unit
Good c (Go action state) = Right (moved c action state)

pair : {a a' b b' : Bool} → a ≡ a' → b ≡ b' → ◌≡◌ {A = Levels} (record { signal = a; power = b }) (record { signal = a'; power = b' })
pair e f = rw (e, f)

module _ (c : RfChannel) (e : Events) (tick : ℕ) (watchdog : Bool) (right : Right c) where
  line_good : (from to : Shape) (action : Action) (x : States) → shape_of x ≡ to → from ≡ shape_of c.state → T (beq (signal_in to) (signal_after action (signal_in from)) && beq (power_in to) (power_after action (power_in from))) → Right (moved c action x)
  line_good from to action x h s t =
      let u = both (beq (signal_in to) (signal_after action (signal_in from))) _ t in
      rw h
      (pair
      (ap (λ (x : Levels). signal_after action x.signal) right ∙ ap (λ (x : Shape). signal_after action (signal_in x)) (sym s) ∙ sym (beq→eq (signal_in to) (signal_after action (signal_in from)) u.0))
      (ap (λ (x : Levels). power_after action x.power) right ∙ ap (λ (x : Shape). power_after action (power_in x)) (sym s) ∙ sym (beq→eq (power_in to) (power_after action (power_in from)) u.1)))

  choose : (b : Bool) (x y : Plan) → (T b → Good c x) → Good c y → Good c (cond b x y)
  choose true x y f g = f tt
  choose false x y f g = g

  planned_good : (lines : List Line) → T (all_ok lines) → Good c (planned lines c e tick watchdog)
  unfolding all_ok planned Good
  planned_good [] t = tt
  planned_good ((from + on ⟦ guard ⟧ action ⇒ to) ∷ lines) t =
      let u = both (line_ok (from + on ⟦ guard ⟧ action ⇒ to)) (all_ok lines) t in
      let next = arrive to c.state e tick in
      let here = eqb (shape_number from) (shape_number (shape_of c.state)) in
      choose (for from on c.state e) (meant action (holds guard c tick watchdog) next) (planned lines c e tick watchdog)
      (λ s.
      let shape = same_shape from (shape_of c.state) (both here _ s).0 in
      if_meant (Good c) tt tt action (holds guard c tick watchdog) next (if_more _ _ next (λ x h. line_good from to action x h shape u.0) (arrives to c.state e tick)))
      (planned_good lines u.1)

plan_good : (c : RfChannel) (e : Events) (tick : ℕ) (watchdog : Bool) → Right c → Good c (planned table c e tick watchdog)
plan_good c e tick watchdog right = planned_good c e tick watchdog right table table_ok

-- ---- an action's run

-- work that was done leaves levels that satisfy P
unfoldable pub IfDid : (Levels → Type 0) → Levels → Result (Unit {0}) Cause → Type 0
IfDid P q (Ok tt) = P q
IfDid P q (Err cause) = Unit

abbrev pub At : Levels → Levels → Type 0
At p q = q ≡ p

pub keeps_then : (P R : Levels → Type 0) (p : Levels) (m k : Run (Result (Unit {0}) Cause)) → Keeps p m (IfDid P) → ((q : Levels) → P q → Keeps q k (IfDid R)) → Keeps p (m and_then k) (IfDid R)
unfolding IfDid on_did
keeps_then P R p m k x f = keeps_bind m (on_did k) x on
  where
    on : (q : Levels) (e : Result (Unit {0}) Cause) → IfDid P q e → Keeps q (on_did k e) (IfDid R)
    on q (Ok tt) h = f q h
    on q (Err cause) h = keeps_done (Err cause) tt

pub still_did : (p : Levels) (m : Run (Result (Unit {0}) Cause)) → Still m → Keeps p m (IfDid (At p))
unfolding IfDid
still_did p m s = keeps_more (s p) on
  where
    on : (q : Levels) (e : Result (Unit {0}) Cause) → q ≡ p → IfDid (At p) q e
    on q (Ok tt) h = h
    on q (Err cause) h = tt

pub keeps_pinch : (p : Levels) → Keeps p pinch_off (IfDid (At p))
unfolding pinch_off
keeps_pinch p = still_did p _ (still_mapped _ _ (still_dac7571 _))

pub keeps_signal : (p : Levels) (on : Bool) → Keeps p (pin (SignalOn on)) (IfDid (At (record { signal = on; power = p.power })))
unfolding pin IfDid
keeps_signal p on = keeps_mapped _ _ (keeps_note {Q = λ q u. q ≡ record { signal = on; power = p.power }} (SignalOn on) refl) (λ q u e. e)

pub keeps_power : (p : Levels) (on : Bool) → Keeps p (pin (EnablePower on)) (IfDid (At (record { signal = p.signal; power = on })))
unfolding pin IfDid
keeps_power p on = keeps_mapped _ _ (keeps_note {Q = λ q u. q ≡ record { signal = p.signal; power = on }} (EnablePower on) refl) (λ q u e. e)

keeps_pause : (p : Levels) (time : ℕ) → Keeps p (pin (Wait time)) (IfDid (At p))
unfolding pin IfDid
keeps_pause p time = keeps_mapped _ _ (keeps_note {Q = λ q u. q ≡ p} (Wait time) refl) (λ q u e. e)

did : (p : Levels) → Keeps p (done (Ok tt)) (IfDid (At p))
unfolding IfDid
did p = keeps_done (Ok tt) refl

stopped : (p : Levels) (P : Levels → Type 0) (cause : Cause) → Keeps p (done (Err cause)) (IfDid P)
unfolding IfDid
stopped p P cause = keeps_done (Err cause) tt

-- the levels after an action
abbrev pub acted : Action → Levels → Levels
acted action p = record { signal = signal_after action p.signal; power = power_after action p.power }

keeps_powerup : (p : Levels) → Keeps p start_powerup (IfDid (At (record { signal = p.signal; power = true })))
unfolding start_powerup
keeps_powerup p = keeps_then (At p) (At (record { signal = p.signal; power = true })) p pinch_off (pin (EnablePower true)) (keeps_pinch p) (λ q e. rw e (keeps_power p true))

keeps_reset : (p : Levels) → Keeps p reset_interlocks (IfDid (At (record { signal = false; power = p.power })))
unfolding reset_interlocks
keeps_reset p =
    let on : Levels = record { signal = true; power = p.power } in
    let off : Levels = record { signal = false; power = p.power } in
    keeps_then (At on) (At off) p (pin (SignalOn true)) _ (keeps_signal p true)
    (λ q e. rw e (keeps_then (At on) (At off) on (pin (Wait 1000)) (pin (SignalOn false)) (keeps_pause on 1000) (λ r f. rw f (keeps_signal on false))))

keeps_switch : (p : Levels) → Keeps p disable_rf_switch (IfDid (At (record { signal = false; power = p.power })))
unfolding disable_rf_switch
keeps_switch p = keeps_signal p false

keeps_disable : (p : Levels) → Keeps p start_disable (IfDid (At (record { signal = false; power = false })))
unfolding start_disable
keeps_disable p =
    let off : Levels = record { signal = false; power = p.power } in
    keeps_then (At off) (At (record { signal = false; power = false })) p disable_rf_switch _ (keeps_switch p)
    (λ q e. rw e (keeps_then (At off) (At (record { signal = false; power = false })) off pinch_off (pin (EnablePower false)) (keeps_pinch off) (λ r f. rw f (keeps_power off false))))

keeps_enable : (s : ChannelSettings) (p : Levels) → Keeps p (enable_output s) (IfDid (At (record { signal = true; power = p.power })))
unfolding enable_output
keeps_enable s p = on (lt (lowest s) s.output_interlock_threshold)
  where
    on : (b : Bool) → Keeps p (cond b (mapped enabled (apply_bias s) and_then pin (SignalOn true)) (done (Err Level))) (IfDid (At (record { signal = true; power = p.power })))
    on true = keeps_then (At p) (At (record { signal = true; power = p.power })) p (mapped enabled (apply_bias s)) (pin (SignalOn true)) (still_did p _ (still_mapped _ _ (still_bias s))) (λ q e. rw e (keeps_signal p true))
    on false = stopped p (At (record { signal = true; power = p.power })) Level

pub keeps_hardware : (action : Action) (s : ChannelSettings) (p : Levels) → Keeps p (hardware action s) (IfDid (At (acted action p)))
unfolding hardware
keeps_hardware Nothing s p = did p
keeps_hardware StartPowerup s p = keeps_powerup p
keeps_hardware ResetInterlocks s p = keeps_reset p
keeps_hardware EnableOutput s p = keeps_enable s p
keeps_hardware StartDisable s p = keeps_disable p
keeps_hardware HandleFault s p = keeps_disable p
keeps_hardware HandleTrip s p = keeps_switch p
keeps_hardware DisableRfSwitch s p = keeps_switch p

-- ---- an event

-- an event that leaves a channel leaves one that satisfies I
unfoldable pub Walked : (Levels → RfChannel → Type 0) → Levels → Result (RfChannel × Told) Cause → Type 0
Walked I q (Ok (c, told)) = I q c
Walked I q (Err cause) = Unit

-- what a plan leads to satisfies I
unfoldable pub Leads : (Levels → RfChannel → Type 0) → Levels → RfChannel → Plan → Type 0
Leads I p c NoTransition = Unit
Leads I p c GuardFalse = Unit
Leads I p c (Go action state) = I (acted action p) (moved c action state)

came : (I : Levels → RfChannel → Type 0) (p : Levels) (c : RfChannel) (action : Action) (state : States) → I (acted action p) (moved c action state) → (q : Levels) (e : Result (Unit {0}) Cause) → IfDid (At (acted action p)) q e → Walked I q (arrived c action state e)
unfolding IfDid Walked
came I p c action state i q (Ok tt) h = rw h i
came I p c action state i q (Err cause) h = tt

pub keeps_carry : (I : Levels → RfChannel → Type 0) (p : Levels) (c : RfChannel) (plan : Plan) → Leads I p c plan → I p c → Keeps p (carry c plan) (Walked I)
unfolding carry Leads Walked
keeps_carry I p c NoTransition l i = keeps_done _ i
keeps_carry I p c GuardFalse l i = keeps_done _ i
keeps_carry I p c (Go action state) l i = keeps_mapped (arrived c action state) (hardware action c.settings) (keeps_hardware action c.settings p) (came I p c action state l)

-- the levels that the rows say are those that the channel holds, and these are those of its state
abbrev pub Stand : Levels → RfChannel → Type 0
Stand q c = (q ≡ held c) × Right c

good_leads : (c : RfChannel) (plan : Plan) → Good c plan → Leads Stand (held c) c plan
unfolding Good Leads
good_leads c NoTransition g = tt
good_leads c GuardFalse g = tt
good_leads c (Go action state) g = (refl, g)

pub stand_event : (p : Levels) (c : RfChannel) (e : Events) (tick : ℕ) (watchdog : Bool) → Stand p c → Keeps p (process_event c e tick watchdog) (Walked Stand)
unfolding process_event
stand_event p c e tick watchdog h = rw h.0 (keeps_carry Stand (held c) c (planned table c e tick watchdog) (good_leads c _ (plan_good c e tick watchdog h.1)) (refl, h.1))
