-- What a step leaves, put back, is what a call leaves (`leaves`). A promise of this form fixes the rack, the answer, the used count and the log (`leaves_unique`). Assumes nothing.
use Prim.Native.Nat.{ℕ}
use mathlib.Core.Path.{◌≡◌, sym, ap, ◌∙◌}
use mathlib.Core.List.{List}
use lib.ListN.{length}
use lib.Ieee.{Float}
use Rattle.rf_call.specs.declared.Slot.{Slot}
use Rattle.entry.specs.declared.Call.{Call}
use Rattle.entry.specs.Tests.{free_rows}
use Rattle.slots.specs.declared.Rack.{Rack}
use Rattle.slots.specs.declared.Turn.{Turn}
use Rattle.slots.specs.Slots.{slot_at, put_at}
use Rattle.slots.proofs.Laws.{said_once}
use Rattle.slot_call.specs.declared.Stepped.{Stepped}
use Rattle.slot_call.specs.Step.{stepped, Steps}
use Rattle.rack_call.specs.Calls.{Left, called, Leaves}

module _ (rack : Rack) (n : ℕ) (call : Call) (u : ℕ) (l rs : List ℕ) (ns : List Float) {s : Slot} (p : s ≡ slot_at rack n) where
  pub leaves : {t : Stepped} {l' : List ℕ} {ns' : List Float} {rack' : Rack} → Steps (stepped n s call (free_rows u (length l)) rs ns) u l t l' ns' → rack' ≡ put_at rack n t.standing
      → Leaves (called rack n call (free_rows u (length l)) rs ns) u l (record { rack = rack'; verdict = t.verdict; used = t.used }) l' × (ns' ≡ (called rack n call (free_rows u (length l)) rs ns).numbers)
  unfolding called
  leaves d e = rw (sym p) (record { rack = e ∙ ap (put_at rack n) d.standing; said = d.said; used = d.used; log = d.log; rows = d.rows }, d.numbers)

pub leaves_unique : {x : Left} {u : ℕ} {l l' l'' : List ℕ} {t t' : Turn} → Leaves x u l t l' → Leaves x u l t' l'' → (l' ≡ l'') × (t ≡ t')
leaves_unique {t = t} {t' = t'} d e = (d.log ∙ sym e.log, λ i. record { rack = (d.rack ∙ sym e.rack) i; verdict = said_once t.verdict t'.verdict (d.said ∙ sym e.said) i; used = (d.used ∙ sym e.used) i })
