-- Blocked is left by no event and keeps its first fault; a halt, and after it a start, alone end it. Assumes nothing.
use Prim.Native.Nat.{ℕ}
use mathlib.Core.Path.{◌≡◌, refl}
use mathlib.Core.Bool.{Bool}
use mathlib.Core.List.{List, [], ◌∷◌}
use mathlib.Core.Logic.{◌⊎◌, inl, inr}
use Rattle.rf_channel.specs.declared.ChannelFault.{ChannelFault}
use Rattle.rf_channel.specs.declared.Events.{Events}
use Rattle.rf_channel.specs.declared.Events.TheVariants as E
use Rattle.rf_channel.specs.declared.RfChannel.{RfChannel}
use Rattle.rf_channel.specs.declared.States.TheVariants.{Blocked}
use Rattle.rf_plan.specs.Table.{table}
use Rattle.rf_plan.specs.Plan.{planned}
use Rattle.rf_machine.specs.Event.{process_event}
use Rattle.rf_call.specs.declared.Slot.{Slot}
use Rattle.rf_call.specs.declared.Slot.TheVariants as S
use Rattle.rf_call.specs.Outcome.{slot_of}
use Rattle.rf_theorems.specs.Pins.{Levels, low}
use Rattle.rf_theorems.proofs.Keeps.{Keeps}
use Rattle.rf_theorems.proofs.Rule.{Walked, Leads, keeps_carry}
use Rattle.entry.specs.declared.Admitted.{Admitted}
use Rattle.entry.specs.declared.Call.{Call}
use Rattle.slots.specs.Slots.{slot_at}
use Rattle.slot_call.specs.Step.{acts}
use Rattle.rack_theorems.specs.History.{Past, next, goes_on, Asked, StaysBlocked, IsBlocked, BlockedRule, IsHalted, HaltedBy, BlockedAlways}
use Rattle.rack_theorems.proofs.Found.{NoChannel, Finds, found}
use Rattle.rack_theorems.proofs.Seen.{keeps_ask, eight_kept, seen}

module _ (f : ChannelFault) where
  abbrev InBlocked : Levels → RfChannel → Type 0
  InBlocked q c = c.state ≡ Blocked f

  -- the table leads from Blocked to Blocked with the same fault
  leads : (p : Levels) (c : RfChannel) (e : Events) (tick : ℕ) (watchdog : Bool) → c.state ≡ Blocked f → Leads InBlocked p c (planned table c e tick watchdog)
  unfolding planned table Leads
  leads p c E.InterlockReset tick watchdog h = rw h tt
  leads p c E.Update tick watchdog h = rw h tt
  leads p c E.Disable tick watchdog h = rw h tt
  leads p c E.DisableRf tick watchdog h = rw h tt
  leads p c (E.Trip i) tick watchdog h = rw h tt
  leads p c (E.Fault g) tick watchdog h = rw h refl

  blocked_event : (tick : ℕ) (watchdog : Bool) (p : Levels) (c : RfChannel) (e : Events) → c.state ≡ Blocked f → Keeps p (process_event c e tick watchdog) (Walked InBlocked)
  unfolding process_event
  blocked_event tick watchdog p c e h = keeps_carry InBlocked p c (planned table c e tick watchdog) (leads p c e tick watchdog h) h

  stays : (s : Slot) → IsBlocked f s → StaysBlocked f s
  unfolding IsBlocked StaysBlocked
  stays S.Empty h = h
  stays (S.Halted cause) h = tt
  stays (S.Channel c) h = h

  no_start : (s : Slot) → NoChannel s → IsBlocked f s → ⊥
  unfolding IsBlocked
  no_start S.Empty x h = h
  no_start (S.Halted cause) x h = h
  no_start (S.Channel c) x h = x

  -- a call that is let in: a start is not
  blocked_acts : (s : Slot) (call : Call) (b : Admitted) → Finds s call b → IsBlocked f s → Keeps low (acts b) (λ q x. StaysBlocked f (slot_of x))
  unfolding IsBlocked StaysBlocked
  blocked_acts = found (λ s call b. IsBlocked f s → Keeps low (acts b) (λ q x. StaysBlocked f (slot_of x)))
      (λ s x settings present h. absurd (no_start s x h))
      (λ c r g h. keeps_ask (λ q s. StaysBlocked f s) (λ q cause e. tt) g (blocked_event g.tick g.watchdog) (λ p x s i. i) low c r h)

pub blocked_rule : BlockedRule
blocked_rule f rack eight n inside h a = seen rack eight n inside (λ q s. StaysBlocked f s) low a (stays f (slot_at rack n) h) (λ b o. blocked_acts f (slot_at rack n) a.call b o h)

-- ---- any calls

module _ (f : ChannelFault) where
  or_halted : (s : Slot) → StaysBlocked f s → IsBlocked f s ⊎ IsHalted s
  unfolding StaysBlocked IsBlocked IsHalted
  or_halted S.Empty h = absurd h
  or_halted (S.Halted cause) h = inr tt
  or_halted (S.Channel c) h = inl h

-- a slot that is blocked after the first of some calls, or halted by it
module _ (f : ChannelFault) (n : ℕ) (past : Past) (a : Asked) (more : List Asked) where
  abbrev Still : Type 0
  Still = IsBlocked f (slot_at (goes_on past (a ∷ more)).rack n) ⊎ HaltedBy n past (a ∷ more)

  later : IsBlocked f (slot_at (goes_on (next past a) more).rack n) ⊎ HaltedBy n (next past a) more → Still
  unfolding goes_on HaltedBy
  later (inl b) = inl b
  later (inr k) = inr (inr k)

  first : IsBlocked f (slot_at (next past a).rack n) ⊎ IsHalted (slot_at (next past a).rack n) → (IsBlocked f (slot_at (next past a).rack n) → Still) → Still
  unfolding HaltedBy
  first (inl b) k = k b
  first (inr h) k = inr (inl h)

pub blocked_always : BlockedAlways
unfolding goes_on
blocked_always f past eight n inside h [] = inl h
blocked_always f past eight n inside h (a ∷ more) =
    first f n past a more (or_halted f (slot_at (next past a).rack n) (blocked_rule f past.rack eight n inside h a)) (λ b. later f n past a more (blocked_always f (next past a) (eight_kept past.rack a eight) n inside b more))
