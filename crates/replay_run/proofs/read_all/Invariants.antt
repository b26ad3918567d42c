-- `replay_run::read_all` meets its contract. The loop's invariant: of the bytes that are left, some are done and written. Assumes nothing.
use Rattle.std.proofs.Common.{◌≡◌, ℕ, List, Some}
use Rattle.replay_feed.specs.Feed.{reading}
use Rattle.replay_run.proofs.Laws.{Along}
use Rattle.replay_run.proofs.read_all.Given as goal

abbrev pub invariant-reads : goal.invariant-reads
invariant-reads g l = (rest : List ℕ) → g.R.Read.remaining l.initial.trace ≡ Some rest
    → Along rest (reading l.initial.replay l.initial.log l.initial.hold) (g.R.Read.remaining l.trace) (reading l.replay l.log l.hold) (g.W.Write.contents l.initial.answers) (g.W.Write.contents l.answers)
