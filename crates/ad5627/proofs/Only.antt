-- The promises of `default` and of `set_voltage`, as the prover reads them, have one answer, one log and one used count. Assumes nothing.
use mathlib.Core.Path.{◌≡◌}
use contract.Lifetimes.{Lfts}
use denote.Triple.Clauses.{AtExit}
use borrow.Fn.World.{ArgsD, ResD}
use borrow.Fn.Kinds.{ended_of}
use Rattle.gate.proofs.Laws.{enters_unique}
use Rattle.ad5627.specs.contracts.default as default
use Rattle.ad5627.proofs.default.Kinds as default-kinds
use Rattle.ad5627.proofs.default.Reads as default-reads
use Rattle.ad5627.specs.contracts.set_voltage as set-voltage
use Rattle.ad5627.proofs.set_voltage.Kinds as set-voltage-kinds
use Rattle.ad5627.proofs.set_voltage.Reads as set-voltage-reads

module _ (κs : Lfts 2) (a : ArgsD default.signature κs) (r r' : ResD default.signature κs) (s s' : AtExit (ended_of 2 default-kinds.ps default-kinds.r) κs) where
  pub only_default : default-reads.Post κs a r s → default-reads.Post κs a r' s' → (s.0.now ≡ s'.0.now) × (r ≡ r')
  only_default p q = let e = enters_unique p q in (e.0, λ i. record { answer = e.2 i; used = e.1 i })

module _ (κs : Lfts 2) (a : ArgsD set-voltage.signature κs) (r r' : ResD set-voltage.signature κs) (s s' : AtExit (ended_of 2 set-voltage-kinds.ps set-voltage-kinds.r) κs) where
  pub only_set_voltage : set-voltage-reads.Post κs a r s → set-voltage-reads.Post κs a r' s' → (s.0.now ≡ s'.0.now) × (r ≡ r')
  only_set_voltage p q = let e = enters_unique p q in (e.0, λ i. record { answer = e.2 i; used = e.1 i })
