-- `replay_feed::finish` meets its contract: nothing is held, or a last line. Assumes nothing.
use Rattle.std.proofs.Common.{sym}
use Rattle.replay_feed.specs.Feed.{reading}
use Rattle.replay_feed.proofs.Laws.{wrote_nothing, nothing_held, input_ended}
use Rattle.replay_feed.proofs.finish.Goals as goal

pub returns-then-replay-eq0 : goal.returns-then-replay-eq0
returns-then-replay-eq0 c = let none = nothing_held (reading c.args.replay c.args.log.now c.args.hold.now) c.if-replay-eq0.true in
    (none.0, rw (sym none.1) (wrote_nothing c.args.out.now 0))

pub returns : goal.returns
returns c = let passed = c.pass-replay.ensures.line in
    let line = input_ended (reading c.args.replay c.args.log.now c.args.hold.now) c.if-replay-eq0.false c.front-s.ensures passed.0 passed.1 in
    (line.0, rw (sym line.1) passed.2)
