-- An answer rests on the slot, on what comes with the call and on the rows free alone (`rests`). Assumes nothing.
use Prim.Native.Nat.{ℕ}
use mathlib.Core.Path.{◌≡◌, refl, sym, ◌∙◌}
use mathlib.Core.Bool.{Bool, true, false}
use borrow.Author.Tests.{leb-false}
use lib.Dec.{leb}
use Rattle.rf_call.specs.declared.Slot.{Slot}
use Rattle.slots.specs.declared.Rack.{Rack}
use Rattle.slots.specs.Slots.{slot_at, put_at}
use Rattle.slots.proofs.Laws.{put_here}
use Rattle.rack_call.specs.Calls.{called}
use Rattle.rack_theorems.specs.History.{Eight}
use Rattle.rack_theorems.specs.Rests.{RestsOnSlot}

module _ (rack rack' : Rack) (n : ℕ) (eight : Eight rack) (eight' : Eight rack') where
  -- the same put into the same slot of both; above the eighth nothing stands in either
  same_put : (s : Slot) → slot_at (put_at rack n s) n ≡ slot_at (put_at rack' n s) n
  same_put s = go (leb 8 n) refl
    where
      go : (b : Bool) → leb 8 n ≡ b → slot_at (put_at rack n s) n ≡ slot_at (put_at rack' n s) n
      go true e = rw e
      go false e = let inside = leb-false 8 n e in put_here rack n s inside eight ∙ sym (put_here rack' n s inside eight')

-- the step sees nothing of the rack but the slot, so that both are one step put back
pub rests : RestsOnSlot
unfolding called
rests rack rack' n call free rs ns eight eight' agree = rw agree (record { verdict = refl; rows = refl; numbers = refl; slot = same_put rack rack' n eight eight' _ })
