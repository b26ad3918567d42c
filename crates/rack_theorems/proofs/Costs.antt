-- A judgement on runs: with j rows before it, the run m ends with f of its answer at most, whatever the replies are. So a run that stops early may be said to cost less. Rules for the pieces of a run, and the events. Assumes nothing.
use Rattle.std.specs.Prelude.{Result, Ok, Err}
use Prim.Native.Nat.{ℕ, ◌+◌, ◌≤◌}
use native.Mathlib.Omega.{arith}
use mathlib.Core.Bool.{Bool, true, false, cond}
use mathlib.Core.Path.{◌≡◌, refl}
use mathlib.Core.List.{List}
use lib.Dec.{lit≤}
use lib.Ieee.{lt}
use lib.ListN.{length, length-append}
use Rattle.bus.specs.declared.Note.{Note}
use Rattle.bus.specs.Run.{Ran, Run, done, bind, mapped, note}
use Rattle.rf_channel.specs.declared.Action.{Action}
use Rattle.rf_channel.specs.declared.ChannelFault.{ChannelFault}
use Rattle.rf_channel.specs.declared.ChannelSettings.{ChannelSettings}
use Rattle.rf_channel.specs.declared.Events.{Events}
use Rattle.rf_channel.specs.declared.Events.TheVariants as E
use Rattle.rf_channel.specs.declared.Plan.{Plan}
use Rattle.rf_channel.specs.declared.Plan.TheVariants.{NoTransition, GuardFalse, Go}
use Rattle.rf_channel.specs.declared.RfChannel.{RfChannel}
use Rattle.rf_channel.specs.declared.States.{States}
use Rattle.rf_channel.specs.declared.States.TheVariants as St
use Rattle.rf_channel.specs.Guards.{late_of, enable_of, lowest}
use Rattle.rf_plan.specs.Table.{table}
use Rattle.rf_plan.specs.Plan.{planned}
use Rattle.rf_machine.specs.Hardware.{on_did, ◌and_then◌, pin, pinched, pinch_off, enabled, apply_bias, start_powerup, reset_interlocks, disable_rf_switch, start_disable, enable_output, hardware}
use Rattle.rf_machine.specs.Event.{arrived, carry, process_event}
use Rattle.rf_tests.specs.Tests.{is_blocked}
use Rattle.rack_theorems.proofs.AtMost.{AtMost, most_note, most_dac7571}
use Rattle.rf_machine.specs.declared.Cause.{Cause}
use Rattle.rf_machine.specs.declared.Told.{Told}

pub record Cost {A : Type 0} (j : ℕ) (f : A → ℕ) (x : Ran A) : Type 0 where
  pub rows : j + length x.rows ≤ f x.ans

abbrev pub Within : {A : Type 0} → ℕ → (A → ℕ) → Run A → Type 0
Within j f m = (rs : List ℕ) (slot taken : ℕ) → Cost j f (m rs slot taken)

-- ---- the pieces

module _ {A : Type 0} where
  pub within_done : (j : ℕ) (f : A → ℕ) (a : A) → j ≤ f a → Within j f (done a)
  unfolding done
  within_done j f a h rs slot taken = record { rows = omega (arith, h) }

  pub within_most : (j k : ℕ) (f : A → ℕ) (m : Run A) → ((a : A) → j + k ≤ f a) → AtMost k m → Within j f m
  within_most j k f m h x rs slot taken = record { rows = omega (arith, h (m rs slot taken).ans, (x rs slot taken).rows) }

  pub within_less : (j : ℕ) (f g : A → ℕ) (m : Run A) → ((a : A) → f a ≤ g a) → Within j f m → Within j g m
  within_less j f g m h x rs slot taken = record { rows = omega (arith, h (m rs slot taken).ans, (x rs slot taken).rows) }

  -- no answer ends with more than k
  pub most_within : (k : ℕ) (m : Run A) → Within 0 (λ a. k) m → AtMost k m
  most_within k m x rs slot taken = record { rows = omega (arith, (x rs slot taken).rows) }

  within_cond : (j : ℕ) (f : A → ℕ) (b : Bool) (m n : Run A) → Within j f m → Within j f n → Within j f (cond b m n)
  within_cond j f true m n x y = x
  within_cond j f false m n x y = y

module _ {A B : Type 0} where
  pub within_bind : (j : ℕ) (f : A → ℕ) (g : B → ℕ) (m : Run A) (k : A → Run B) → Within j f m → ((a : A) → Within (f a) g (k a)) → Within j g (bind m k)
  unfolding bind
  within_bind j f g m k x y rs slot taken =
      let a = m rs slot taken in
      let b = k a.ans rs slot a.taken in
      record { rows = omega (arith, length-append a.rows b.rows, (x rs slot taken).rows, (y a.ans rs slot a.taken).rows) }

  pub within_mapped : (j : ℕ) (g : B → ℕ) (h : A → B) (m : Run A) → Within j (λ a. g (h a)) m → Within j g (mapped h m)
  unfolding mapped
  within_mapped j g h m x = within_bind j (λ a. g (h a)) g m (λ a. done (h a)) x (λ a. within_done (g (h a)) g (h a) (omega arith))

-- ---- the hardware: a where it did, b where it stopped

abbrev pub effect : ℕ → ℕ → Result (Unit {0}) Cause → ℕ
effect a b (Ok tt) = a
effect a b (Err cause) = b

same : (j : ℕ) (x : Result (Unit {0}) Cause) → j ≤ effect j j x
same j (Ok tt) = omega arith
same j (Err cause) = omega arith

up : (a c b d : ℕ) → a ≤ c → b ≤ d → (x : Result (Unit {0}) Cause) → effect a b x ≤ effect c d x
up a c b d h k (Ok tt) = h
up a c b d h k (Err cause) = k

on_did_lem : (a b c d : ℕ) (n : Run (Result (Unit {0}) Cause)) → b ≤ d → Within a (effect c d) n → (x : Result (Unit {0}) Cause) → Within (effect a b x) (effect c d) (on_did n x)
unfolding on_did
on_did_lem a b c d n h y (Ok tt) = y
on_did_lem a b c d n h y (Err cause) = within_done b (effect c d) (Err cause) h

within_then : (j a b c d : ℕ) (m n : Run (Result (Unit {0}) Cause)) → Within j (effect a b) m → b ≤ d → Within a (effect c d) n → Within j (effect c d) (m and_then n)
within_then j a b c d m n x h y = within_bind j (effect a b) (effect c d) m (on_did n) x (on_did_lem a b c d n h y)

within_pin : (j : ℕ) (n : Note) → Within j (effect (j + 1) 0) (pin n)
unfolding pin
within_pin j n = within_mapped j (effect (j + 1) 0) _ (note n) (within_most j 1 _ (note n) (λ u. omega arith) (most_note n))

within_pinch : (j : ℕ) → Within j (effect (j + 1) (j + 1)) pinch_off
unfolding pinch_off
within_pinch j = within_mapped j (effect (j + 1) (j + 1)) pinched _ (within_most j 1 _ _ (λ o. same (j + 1) (pinched o)) (most_dac7571 _))

within_bias : (s : ChannelSettings) → Within 0 (effect 1 1) (mapped enabled (apply_bias s))
unfolding apply_bias
within_bias s = within_mapped 0 (effect 1 1) enabled _ (within_most 0 1 _ _ (λ o. same 1 (enabled o)) (most_dac7571 _))

within_disable : Within 0 (effect 3 2) start_disable
unfolding start_disable disable_rf_switch
within_disable = within_then 0 1 0 3 2 _ _ (within_pin 0 _) (lit≤ tt) (within_then 1 2 2 3 2 _ _ (within_pinch 1) (lit≤ tt) (within_less 2 (effect 3 0) (effect 3 2) _ (up 3 3 0 2 (lit≤ tt) (lit≤ tt)) (within_pin 2 _)))

-- pins alone do not stop
within_reset : Within 0 (effect 3 0) reset_interlocks
unfolding reset_interlocks pin mapped bind note done on_did
within_reset rs slot taken = record { rows = lit≤ tt }

within_enable : (s : ChannelSettings) → Within 0 (effect 2 1) (enable_output s)
unfolding enable_output
within_enable s =
    within_cond 0 (effect 2 1) (lt (lowest s) s.output_interlock_threshold) _ _
    (within_then 0 1 1 2 1 _ _ (within_bias s) (lit≤ tt) (within_less 1 (effect 2 0) (effect 2 1) _ (up 2 2 0 1 (lit≤ tt) (lit≤ tt)) (within_pin 1 _)))
    (within_done 0 (effect 2 1) _ (omega arith))

pub within_hardware : (action : Action) (s : ChannelSettings) → Within 0 (effect 3 2) (hardware action s)
unfolding hardware start_powerup disable_rf_switch
within_hardware Action.Nothing s = within_done 0 (effect 3 2) (Ok tt) (lit≤ tt)
within_hardware Action.StartPowerup s = within_then 0 1 1 3 2 _ _ (within_pinch 0) (lit≤ tt) (within_less 1 (effect 2 0) (effect 3 2) _ (up 2 3 0 2 (lit≤ tt) (lit≤ tt)) (within_pin 1 _))
within_hardware Action.ResetInterlocks s = within_less 0 (effect 3 0) (effect 3 2) _ (up 3 3 0 2 (lit≤ tt) (lit≤ tt)) within_reset
within_hardware Action.EnableOutput s = within_less 0 (effect 2 1) (effect 3 2) _ (up 2 3 1 2 (lit≤ tt) (lit≤ tt)) (within_enable s)
within_hardware Action.StartDisable s = within_disable
within_hardware Action.HandleFault s = within_disable
within_hardware Action.HandleTrip s = within_less 0 (effect 1 0) (effect 3 2) _ (up 1 3 0 2 (lit≤ tt) (lit≤ tt)) (within_pin 0 _)
within_hardware Action.DisableRfSwitch s = within_less 0 (effect 1 0) (effect 3 2) _ (up 1 3 0 2 (lit≤ tt) (lit≤ tt)) (within_pin 0 _)

-- ---- the events: a where the channel went on, b where it stopped

abbrev pub step : ℕ → ℕ → Result (RfChannel × Told) Cause → ℕ
step a b (Ok (c, told)) = a
step a b (Err cause) = b

arrives : (a b : ℕ) (c : RfChannel) (action : Action) (state : States) (x : Result (Unit {0}) Cause) → effect a b x ≤ step a b (arrived c action state x)
arrives a b c action state (Ok tt) = omega arith
arrives a b c action state (Err cause) = omega arith

-- the work of a plan
abbrev Works : ℕ → ℕ → Plan → Type 0
Works a b NoTransition = Unit
Works a b GuardFalse = Unit
Works a b (Go action state) = (s : ChannelSettings) → Within 0 (effect a b) (hardware action s)

within_carry : (a b : ℕ) (c : RfChannel) (plan : Plan) → Works a b plan → Within 0 (step a b) (carry c plan)
unfolding carry
within_carry a b c NoTransition w = within_done 0 (step a b) _ (omega arith)
within_carry a b c GuardFalse w = within_done 0 (step a b) _ (omega arith)
within_carry a b c (Go action state) w = within_mapped 0 (step a b) (arrived c action state) _ (within_less 0 (effect a b) _ _ (arrives a b c action state) (w c.settings))

any_works : (plan : Plan) → Works 3 2 plan
any_works NoTransition = tt
any_works GuardFalse = tt
any_works (Go action state) = within_hardware action

pub within_event : (c : RfChannel) (e : Events) (tick : ℕ) (watchdog : Bool) → Within 0 (step 3 2) (process_event c e tick watchdog)
unfolding process_event
within_event c e tick watchdog = within_carry 3 2 c _ (any_works (planned table c e tick watchdog))

-- the Update event pulses a pin, switches the output on, or sets nothing: it stops after one row at most
guarded : (b : Bool) (action : Action) (state : States) → ((s : ChannelSettings) → Within 0 (effect 3 1) (hardware action s)) → Works 3 1 (cond b (Go action state) GuardFalse)
guarded true action state w = w
guarded false action state w = tt

pulses : (s : ChannelSettings) → Within 0 (effect 3 1) (hardware Action.ResetInterlocks s)
unfolding hardware
pulses s = within_less 0 (effect 3 0) (effect 3 1) reset_interlocks (up 3 3 0 1 (lit≤ tt) (lit≤ tt)) within_reset

switches : (s : ChannelSettings) → Within 0 (effect 3 1) (hardware Action.EnableOutput s)
unfolding hardware
switches s = within_less 0 (effect 2 1) (effect 3 1) (enable_output s) (up 2 3 1 1 (lit≤ tt) (lit≤ tt)) (within_enable s)

sets_nothing : (s : ChannelSettings) → Within 0 (effect 3 1) (hardware Action.Nothing s)
unfolding hardware
sets_nothing s = within_done 0 (effect 3 1) (Ok tt) (lit≤ tt)

update_works : (c : RfChannel) (tick : ℕ) (watchdog : Bool) (s : States) → c.state ≡ s → Works 3 1 (planned table c E.Update tick watchdog)
unfolding planned table
update_works c tick watchdog (St.Blocked f) h = rw h tt
update_works c tick watchdog St.Off h = rw h tt
update_works c tick watchdog (St.Powerup d) h = rw h (guarded (late_of tick d) Action.ResetInterlocks St.Powered pulses)
update_works c tick watchdog St.Powered h = rw h (guarded (enable_of c watchdog) Action.EnableOutput St.Enabled switches)
update_works c tick watchdog St.Enabled h = rw h tt
update_works c tick watchdog (St.Tripped i) h = rw h tt
update_works c tick watchdog (St.Powerdown d) h = rw h (guarded (late_of tick d) Action.Nothing St.Off sets_nothing)

pub within_update : (c : RfChannel) (tick : ℕ) (watchdog : Bool) → Within 0 (step 3 1) (process_event c E.Update tick watchdog)
unfolding process_event
within_update c tick watchdog = within_carry 3 1 c _ (update_works c tick watchdog c.state refl)

-- the event of a fault leads to Blocked: 3 rows where it went on
abbrev pub blocking : Result (RfChannel × Told) Cause → ℕ
blocking (Ok (c, told)) = cond (is_blocked c.state) 3 0
blocking (Err cause) = 2

abbrev Blocks : Plan → Type 0
Blocks NoTransition = Unit
Blocks GuardFalse = Unit
Blocks (Go action state) = is_blocked state ≡ true

fault_blocks : (c : RfChannel) (f : ChannelFault) (tick : ℕ) (watchdog : Bool) (s : States) → c.state ≡ s → Blocks (planned table c (E.Fault f) tick watchdog)
unfolding planned table
fault_blocks c f tick watchdog (St.Blocked g) h = rw h refl
fault_blocks c f tick watchdog St.Off h = rw h refl
fault_blocks c f tick watchdog (St.Powerup d) h = rw h refl
fault_blocks c f tick watchdog St.Powered h = rw h refl
fault_blocks c f tick watchdog St.Enabled h = rw h refl
fault_blocks c f tick watchdog (St.Tripped i) h = rw h refl
fault_blocks c f tick watchdog (St.Powerdown d) h = rw h refl

arrives_blocked : (c : RfChannel) (action : Action) (state : States) → is_blocked state ≡ true → (x : Result (Unit {0}) Cause) → effect 3 2 x ≤ blocking (arrived c action state x)
arrives_blocked c action state h (Ok tt) = rw h (lit≤ tt)
arrives_blocked c action state h (Err cause) = lit≤ tt

carry_blocking : (c : RfChannel) (plan : Plan) → Blocks plan → Within 0 blocking (carry c plan)
unfolding carry
carry_blocking c NoTransition b = within_done 0 blocking _ (omega arith)
carry_blocking c GuardFalse b = within_done 0 blocking _ (omega arith)
carry_blocking c (Go action state) b = within_mapped 0 blocking (arrived c action state) _ (within_less 0 (effect 3 2) _ _ (arrives_blocked c action state b) (within_hardware action c.settings))

pub within_fault : (c : RfChannel) (f : ChannelFault) (tick : ℕ) (watchdog : Bool) → Within 0 blocking (process_event c (E.Fault f) tick watchdog)
unfolding process_event
within_fault c f tick watchdog = carry_blocking c _ (fault_blocks c f tick watchdog c.state refl)
