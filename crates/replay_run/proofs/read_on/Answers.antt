-- `replay_run::read_on` meets its contract: what the read consumed is what the turn was given. Assumes nothing.
use Rattle.std.proofs.Common.{rules}
use Rattle.replay_feed.specs.Feed.{reading}
use Rattle.replay_run.proofs.Laws.{moves}
use Rattle.replay_run.proofs.read_on.Goals as goal

pub returns : goal.returns
returns g c = λ rest e. let args = c.args in
    let told = rw c.ok-got.ensures.value at c.turn.ensures in
    moves rest (reading args.replay args.log.now args.hold.now) args.replay c.read.new.buf c.turn.new.log c.turn.new.hold args.out.now c.turn.new.out _ (g.R.Read.remaining c.read.new.self) c.read.result c.turn.result (search rules) (rw e at c.read.ensures.bytes) told.0 told.1 told.2 told.3
