-- `replay_feed::feed` meets its contract: the chunk's first 1024 bytes, for which there is room. Assumes nothing.
use Rattle.std.proofs.Common.{arith, rules}
use Rattle.replay_feed.proofs.Laws.{chunk_room}
use Rattle.replay_feed.proofs.feed.Goals as goal

pub feed_all-requires : goal.feed_all-requires
feed_all-requires c = (search rules, omega (arith, chunk_room c.args.chunk.now c.front-part.ensures))

pub returns : goal.returns
returns c = rw c.front-part.ensures at c.feed_all.ensures
