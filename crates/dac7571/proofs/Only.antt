-- The promise of `set_voltage`, as the prover reads it, has one answer, one log and one used count. Assumes nothing.
use mathlib.Core.Path.{◌≡◌}
use contract.Lifetimes.{Lfts}
use denote.Triple.Clauses.{AtExit}
use borrow.Fn.World.{ArgsD, ResD}
use borrow.Fn.Kinds.{ended_of}
use Rattle.gate.proofs.Laws.{enters_unique}
use Rattle.dac7571.specs.contracts.set_voltage as set-voltage
use Rattle.dac7571.proofs.set_voltage.Kinds as kinds
use Rattle.dac7571.proofs.set_voltage.Reads as reads

module _ (κs : Lfts 2) (a : ArgsD set-voltage.signature κs) (r r' : ResD set-voltage.signature κs) (s s' : AtExit (ended_of 2 kinds.ps kinds.r) κs) where
  pub only : reads.Post κs a r s → reads.Post κs a r' s' → (s.0.now ≡ s'.0.now) × (r ≡ r')
  only p q = let e = enters_unique p q in (e.0, λ i. record { answer = e.2 i; used = e.1 i })
