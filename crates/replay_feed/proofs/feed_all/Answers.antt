-- `replay_feed::feed_all` meets its contract: no byte, and a byte more. Assumes nothing.
use Rattle.std.proofs.Common.{arith, rules, ◌∙◌}
use Rattle.replay_feed.specs.Feed.{reading, ran, ran_text}
use Rattle.replay_feed.proofs.Laws.{fed_step}
use Rattle.replay_feed.proofs.feed_all.Goals as goal

-- of no byte nothing comes
pub loop-b-init : goal.loop-b-init
unfolding ran ran_text
loop-b-init c = search rules

pub loop-b-preserved : goal.loop-b-preserved
loop-b-preserved c = let start = c.args in
    let turn = c.loop-b in
    let fed = c.feed_byte-replay.ensures in
    (omega (arith, turn.invariant.0, fed.byte.2), fed.lent ∙ turn.invariant.1, fed_step (reading start.replay start.log.now start.hold.now) start.chunk.now turn.b-index c.loop-b-test.true turn.invariant.2 fed.byte.0 fed.byte.1)
