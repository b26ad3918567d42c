-- The promise of `call`, as the prover reads it, has one rack, one answer, one used count, one log and one number slice. Assumes nothing.
use mathlib.Core.Path.{◌≡◌, sym, ◌∙◌}
use contract.Lifetimes.{Lfts}
use denote.Triple.Clauses.{AtExit}
use borrow.Fn.World.{ArgsD, ResD}
use borrow.Fn.Kinds.{ended_of}
use Rattle.rack_call.proofs.Laws.{leaves_unique}
use Rattle.rack_call.specs.contracts.call as call
use Rattle.rack_call.proofs.call.Kinds as kinds
use Rattle.rack_call.proofs.call.Reads as reads

module _ (κs : Lfts 3) (a : ArgsD call.signature κs) (r r' : ResD call.signature κs) (s s' : AtExit (ended_of 3 kinds.ps kinds.r) κs) where
  pub only : reads.Post κs a r s → reads.Post κs a r' s' → (s.1.1.1.0.now ≡ s'.1.1.1.0.now) × (s.1.1.1.1.1.1.0.now ≡ s'.1.1.1.1.1.1.0.now) × (r ≡ r')
  only p q = let e = leaves_unique p.0 q.0 in (e.0, p.1 ∙ sym q.1, e.1)
