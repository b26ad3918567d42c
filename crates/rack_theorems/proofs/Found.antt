-- What is let in, by what stands in the slot: a start where there is no channel, or a request with the channel that stands there (`found`). Assumes nothing.
use Rattle.std.specs.Prelude.{Ok, Err, Result}
use Prim.Native.Nat.{ℕ}
use native.Mathlib.Omega.{arith}
use mathlib.Core.Path.{◌≡◌, subst}
use mathlib.Core.Bool.{Bool}
use mathlib.Core.List.{[]}
use Rattle.rf_channel.specs.declared.ChannelSettings.{ChannelSettings}
use Rattle.rf_channel.specs.declared.RfChannel.{RfChannel}
use Rattle.rf_call.specs.declared.Givens.{Givens}
use Rattle.rf_call.specs.declared.Slot.{Slot}
use Rattle.rf_call.specs.declared.Slot.TheVariants as S
use Rattle.rf_calls.specs.declared.Request.{Request}
use Rattle.entry.specs.declared.Admitted.{Admitted}
use Rattle.entry.specs.declared.Admitted.TheVariants as In
use Rattle.entry.specs.declared.Call.{Call}
use Rattle.entry.specs.declared.Call.TheVariants.{Start, Ask}
use Rattle.entry.specs.declared.Refusal.{Refusal}
use Rattle.entry.specs.Tests.{of_standing}

abbrev pub NoChannel : Slot → Type 0
NoChannel S.Empty = Unit
NoChannel (S.Halted cause) = Unit
NoChannel (S.Channel c) = ⊥

-- a call finds what it is for
abbrev pub Finds : Slot → Call → Admitted → Type 0
Finds s call b = of_standing s call [] ≡ Ok b

clash : {X : Type 0} {b : Admitted} {r : Refusal} → Err r ≡ Ok b → X
clash e = absurd (let z : ◌≡◌ {A = ℕ} 0 1 = cc in omega arith)

same : {b b' : Admitted} → ◌≡◌ {A = Result Admitted Refusal} (Ok b) (Ok b') → b ≡ b'
same e = cc

module _ (P : Slot → Call → Admitted → Type 0) (start : (s : Slot) → NoChannel s → (settings : ChannelSettings) (present : Bool) → P s (Start settings present) (In.Start settings present))
    (ask : (c : RfChannel) (r : Request) (g : Givens) → P (S.Channel c) (Ask r g) (In.Ask c r g)) where
  pub found : (s : Slot) (call : Call) (b : Admitted) → Finds s call b → P s call b
  found S.Empty (Start settings present) b e = subst (P S.Empty (Start settings present)) (same e) (start S.Empty tt settings present)
  found (S.Halted cause) (Start settings present) b e = subst (P (S.Halted cause) (Start settings present)) (same e) (start (S.Halted cause) tt settings present)
  found (S.Channel c) (Start settings present) b e = clash e
  found S.Empty (Ask r g) b e = clash e
  found (S.Halted cause) (Ask r g) b e = clash e
  found (S.Channel c) (Ask r g) b e = subst (P (S.Channel c) (Ask r g)) (same e) (ask c r g)
