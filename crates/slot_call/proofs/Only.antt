-- The promise of `step`, as the prover reads it, has one slot, one answer, one used count, one log and one number slice. Assumes nothing.
use mathlib.Core.Path.{◌≡◌}
use contract.Lifetimes.{Lfts}
use denote.Triple.Clauses.{AtExit}
use borrow.Fn.World.{ArgsD, ResD}
use borrow.Fn.Kinds.{ended_of}
use Rattle.slot_call.proofs.Laws.{steps_unique}
use Rattle.slot_call.specs.contracts.step as step
use Rattle.slot_call.proofs.step.Kinds as kinds
use Rattle.slot_call.proofs.step.Reads as reads

module _ (κs : Lfts 3) (a : ArgsD step.signature κs) (r r' : ResD step.signature κs) (s s' : AtExit (ended_of 3 kinds.ps kinds.r) κs) where
  pub only : reads.Post κs a r s → reads.Post κs a r' s' → (s.0.now ≡ s'.0.now) × (s.1.1.0.now ≡ s'.1.1.0.now) × (r ≡ r')
  only p q = steps_unique p q
