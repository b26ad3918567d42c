-- `replay_feed::feed_byte` meets its contract: a line feed, and any other byte. Assumes nothing.
use Rattle.std.proofs.Common.{arith}
use Rattle.replay_feed.specs.Feed.{reading}
use Rattle.replay_feed.proofs.Laws.{steps_feed, steps_kept}
use Rattle.replay_feed.proofs.feed_byte.Goals as goal

pub returns-then-b-eq-LF-clause-byte : goal.returns-then-b-eq-LF-clause-byte
returns-then-b-eq-LF-clause-byte c = let ended = c.end_line.ensures.line in
    let now = steps_feed (reading c.args.replay c.args.log.now c.args.hold.now) c.args.b c.if-b-eq-LF.true ended.0 ended.1 in
    (now.0, now.1, ended.2)

pub returns-clause-byte : goal.returns-clause-byte
returns-clause-byte c = let writer = c.args.writer.now in
    let now = steps_kept (reading c.args.replay c.args.log.now c.args.hold.now) c.args.b writer.out.now writer.at c.if-b-eq-LF.false c.keep.ensures.0 c.keep.ensures.1 in
    (now.0, now.1, omega arith)
