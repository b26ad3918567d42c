-- The promise of each public entry, as the prover reads it, has one log, one answer and one used count. Assumes nothing.
use mathlib.Core.Path.{◌≡◌}
use mathlib.Core.List.{List}
use Prim.Native.Nat.{ℕ}
use contract.Lifetimes.{Lfts}
use borrow.Fn.World.{ArgsD}
use Rattle.gate.proofs.Laws.{enters_unique}
use Rattle.ads7924_entry.specs.contracts.default as default
use Rattle.ads7924_entry.proofs.default.Reads as default-reads
use Rattle.ads7924_entry.specs.contracts.get_voltage as get-voltage
use Rattle.ads7924_entry.proofs.get_voltage.Reads as get-voltage-reads
use Rattle.ads7924_entry.specs.contracts.get_voltages as get-voltages
use Rattle.ads7924_entry.proofs.get_voltages.Reads as get-voltages-reads
use Rattle.ads7924_entry.specs.contracts.clear_alarm as clear-alarm
use Rattle.ads7924_entry.proofs.clear_alarm.Reads as clear-alarm-reads
use Rattle.ads7924_entry.specs.contracts.set_thresholds as set-thresholds
use Rattle.ads7924_entry.proofs.set_thresholds.Reads as set-thresholds-reads

-- of what is returned and what is left, a promise has one
abbrev Only : {R S : Type 0} → (S → List ℕ) → (R → S → Type 0) → Type 0
Only {R} {S} log Post = (r r' : R) (s s' : S) → Post r s → Post r' s' → (log s ≡ log s') × (r ≡ r')

module _ (κs : Lfts 2) where
  pub only_default : (a : ArgsD default.signature κs) → Only (λ s. s.0.now) (default-reads.Post κs a)
  only_default a r r' s s' p q = let e = enters_unique p q in (e.0, λ i. record { answer = e.2 i; used = e.1 i })

  pub only_voltage : (a : ArgsD get-voltage.signature κs) → Only (λ s. s.0.now) (get-voltage-reads.Post κs a)
  only_voltage a r r' s s' p q = let e = enters_unique p q in (e.0, λ i. record { answer = e.2 i; used = e.1 i })

  pub only_voltages : (a : ArgsD get-voltages.signature κs) → Only (λ s. s.0.now) (get-voltages-reads.Post κs a)
  only_voltages a r r' s s' p q = let e = enters_unique p q in (e.0, λ i. record { answer = e.2 i; used = e.1 i })

  pub only_alarm : (a : ArgsD clear-alarm.signature κs) → Only (λ s. s.0.now) (clear-alarm-reads.Post κs a)
  only_alarm a r r' s s' p q = let e = enters_unique p q in (e.0, λ i. record { answer = e.2 i; used = e.1 i })

  pub only_thresholds : (a : ArgsD set-thresholds.signature κs) → Only (λ s. s.0.now) (set-thresholds-reads.Post κs a)
  only_thresholds a r r' s s' p q = let e = enters_unique p q in (e.0, λ i. record { answer = e.2 i; used = e.1 i })
