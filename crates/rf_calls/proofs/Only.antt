-- The promise of `request_at`, as the prover reads it, has one answer, one log, one cursor and one number slice. Assumes nothing.
use mathlib.Core.Path.{◌≡◌, sym, ◌∙◌}
use contract.Lifetimes.{Lfts}
use denote.Triple.Clauses.{AtExit}
use borrow.Fn.World.{ArgsD, ResD}
use borrow.Fn.Kinds.{ended_of}
use Rattle.bus.proofs.Runs.{runs_unique}
use Rattle.rf_calls.specs.contracts.request_at as request_at
use Rattle.rf_calls.proofs.request_at.Kinds as kinds
use Rattle.rf_calls.proofs.request_at.Reads as reads

module _ (κs : Lfts 3) (a : ArgsD request_at.signature κs) (r r' : ResD request_at.signature κs) (s s' : AtExit (ended_of 3 kinds.ps kinds.r) κs) where
  pub only : reads.Post κs a r s → reads.Post κs a r' s' → (s.0.now.log.now ≡ s'.0.now.log.now) × (s.0.now.at ≡ s'.0.now.at) × (s.1.0.now ≡ s'.1.0.now) × (r ≡ r')
  only p q = let e = runs_unique p.1.0 q.1.0 in (e.0, e.1, p.1.1 ∙ sym q.1.1, e.2)
