-- The pin rule over any calls on the rack. Assumes nothing.
use Prim.Native.Nat.{ℕ, ◌<◌}
use mathlib.Core.Path.{refl}
use mathlib.Core.List.{List, [], ◌∷◌}
use Rattle.rf_call.specs.declared.Slot.{Slot}
use Rattle.rf_call.specs.Outcome.{slot_of}
use Rattle.rf_theorems.specs.Pins.{Levels, levels_after}
use Rattle.rf_theorems.proofs.Keeps.{Keeps, levels_append}
use Rattle.rf_theorems.proofs.Rule.{stand_event}
use Rattle.entry.specs.declared.Admitted.{Admitted}
use Rattle.entry.specs.declared.Call.{Call}
use Rattle.slots.specs.Slots.{empty_rack, slot_at}
use Rattle.slot_call.specs.Step.{acts}
use Rattle.rack_theorems.specs.History.{Asked, on, Past, next, goes_on, history, of_slot, PinsStand, PinRule, Eight}
use Rattle.rack_theorems.proofs.Found.{Finds, found}
use Rattle.rack_theorems.proofs.Seen.{keeps_start, keeps_ask, of_append, eight_kept, seen, first_empty}

-- a call that is let in
stand_acts : (p : Levels) (s : Slot) (call : Call) (b : Admitted) → Finds s call b → PinsStand p s → Keeps p (acts b) (λ q x. PinsStand q (slot_of x))
unfolding PinsStand
stand_acts p = found (λ s call b. PinsStand p s → Keeps p (acts b) (λ q x. PinsStand q (slot_of x)))
    (λ s x settings present h. keeps_start PinsStand (λ q cause e. e) settings (λ q. tt) (refl, refl) p present)
    (λ c r g h. keeps_ask PinsStand (λ q cause e. e) g (λ q c e i. stand_event q c e g.tick g.watchdog i) (λ q c t i. i) p c r h)

module _ (p : Levels) (n : ℕ) (inside : n < 8) where
  -- one call after the other
  stands_on : (past : Past) (calls : List Asked) → Eight past.rack → PinsStand (levels_after p (of_slot n past.rows)) (slot_at past.rack n)
      → PinsStand (levels_after p (of_slot n (goes_on past calls).rows)) (slot_at (goes_on past calls).rack n)
  unfolding goes_on
  stands_on past [] eight h = h
  stands_on past (a ∷ more) eight h =
      let q = levels_after p (of_slot n past.rows) in
      stands_on (next past a) more (eight_kept past.rack a eight)
      (rw (of_append n past.rows (on past.rack a).rows, levels_append p (of_slot n past.rows) (of_slot n (on past.rack a).rows))
      (seen past.rack eight n inside PinsStand q a h (λ b o. stand_acts q (slot_at past.rack n) a.call b o h)))

-- After any calls, in every slot: a channel holds the levels that the rows of the slot say, these are those of its state, and a halted slot has both low.
pub pin_rule : PinRule
unfolding history PinsStand
pin_rule p calls n inside = stands_on p n inside (record { rack = empty_rack; rows = [] }) calls refl (rw (first_empty n inside) tt)
