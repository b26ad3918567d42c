-- The promise of `start`, as the prover reads it, has one answer, one log and one cursor. Assumes nothing.
use mathlib.Core.Path.{◌≡◌}
use contract.Lifetimes.{Lfts}
use denote.Triple.Clauses.{AtExit}
use borrow.Fn.World.{ArgsD, ResD}
use borrow.Fn.Kinds.{ended_of}
use Rattle.bus.proofs.Runs.{runs_unique}
use Rattle.rf_start.specs.contracts.start as start
use Rattle.rf_start.proofs.start.Kinds as kinds
use Rattle.rf_start.proofs.start.Reads as reads

module _ (κs : Lfts 2) (a : ArgsD start.signature κs) (r r' : ResD start.signature κs) (s s' : AtExit (ended_of 2 kinds.ps kinds.r) κs) where
  pub only : reads.Post κs a r s → reads.Post κs a r' s' → (s.0.now.log.now ≡ s'.0.now.log.now) × (s.0.now.at ≡ s'.0.now.at) × (r ≡ r')
  only p q = runs_unique p.1 q.1
