-- The promise of `get_voltage`, as the prover reads it, has one answer, one log and one used count. Assumes nothing.
use mathlib.Core.Path.{◌≡◌}
use contract.Lifetimes.{Lfts}
use denote.Triple.Clauses.{AtExit}
use borrow.Fn.World.{ArgsD, ResD}
use borrow.Fn.Kinds.{ended_of}
use Rattle.gate.proofs.Laws.{enters_unique}
use Rattle.mcp3221.specs.contracts.get_voltage as get-voltage
use Rattle.mcp3221.proofs.get_voltage.Kinds as kinds
use Rattle.mcp3221.proofs.get_voltage.Reads as reads

module _ (κs : Lfts 2) (a : ArgsD get-voltage.signature κs) (r r' : ResD get-voltage.signature κs) (s s' : AtExit (ended_of 2 kinds.ps kinds.r) κs) where
  pub only : reads.Post κs a r s → reads.Post κs a r' s' → (s.0.now ≡ s'.0.now) × (r ≡ r')
  only p q = let e = enters_unique p q in (e.0, λ i. record { answer = e.2 i; used = e.1 i })
