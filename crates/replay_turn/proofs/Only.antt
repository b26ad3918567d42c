-- The promise of `turn`, as the prover reads it, has one answer, and one content of each buffer that is lent. Assumes nothing.
use Prim.Native.Nat.{ℕ}
use mathlib.Core.Path.{◌≡◌, refl, sym, ap, ◌∙◌}
use contract.Lifetimes.{Lfts}
use denote.Triple.Clauses.{AtExit}
use borrow.Fn.World.{ArgsD, ResD}
use borrow.Fn.Kinds.{ended_of}
use Rattle.replay_feed.specs.declared.Replay.{Replay}
use Rattle.replay_feed.proofs.Only.{wrote_only, reading_only}
use Rattle.replay_feed.specs.declared.Fed.{Fed}
use Rattle.replay_turn.specs.declared.Moved.{Moved}
use Rattle.replay_turn.specs.declared.Moved.TheVariants.{More, Ended, Failed}
use Rattle.replay_turn.specs.Moves.{replay_after, past_of, goes_on, has_failed}
use Rattle.replay_turn.specs.contracts.turn as turn
use Rattle.replay_turn.proofs.turn.Kinds as turn-kinds
use Rattle.replay_turn.proofs.turn.Reads as turn-reads

fed : Replay → ℕ → Fed
fed replay past = record { replay = replay; past = past }

fed_same : (r r' : Fed) → r.replay ≡ r'.replay → r.past ≡ r'.past → r ≡ r'
unfolding fed
fed_same r r' e f = ap (λ (x : Replay). fed x r.past) e ∙ ap (fed r'.replay) f

-- what is told of an answer is all of it
moved_same : (replay : Replay) (r r' : Moved) → replay_after replay r ≡ replay_after replay r' → past_of r ≡ past_of r' → goes_on r ≡ goes_on r' → has_failed r ≡ has_failed r' → r ≡ r'
moved_same replay (More f) (More f') e p g h = ap More (fed_same f f' e p)
moved_same replay (More f) (Ended f') e p g h = cc
moved_same replay (More f) Failed e p g h = cc
moved_same replay (Ended f) (More f') e p g h = cc
moved_same replay (Ended f) (Ended f') e p g h = ap Ended (fed_same f f' e p)
moved_same replay (Ended f) Failed e p g h = cc
moved_same replay Failed (More f') e p g h = cc
moved_same replay Failed (Ended f') e p g h = cc
moved_same replay Failed Failed e p g h = refl

module _ (κs : Lfts 4) (a : ArgsD turn.signature κs) (r r' : ResD turn.signature κs) (s s' : AtExit (ended_of 4 turn-kinds.ps turn-kinds.r) κs) where
  pub only_turn : turn-reads.Post κs a r s → turn-reads.Post κs a r' s'
      → (s.1.0.now ≡ s'.1.0.now) × (s.1.1.0.now ≡ s'.1.1.0.now) × (s.1.1.1.1.1.0.now ≡ s'.1.1.1.1.1.0.now) × (r ≡ r')
  only_turn p q =
      let read = reading_only p.0 q.0 in
      let written = wrote_only p.1 q.1 in
      (read.0, read.1, written.0, moved_same a.0 r r' read.2 written.1 (p.2 ∙ sym q.2) (p.3 ∙ sym q.3))
