-- `replay_feed::feed_all` meets its contract. The loop's invariant: what the chunk's first bytes give is done and written, in at most 96 bytes for each. Assumes nothing.
use Rattle.std.proofs.Common.{◌≡◌, ◌*◌, ◌≤◌}
use Rattle.replay_feed.specs.Feed.{reading}
use Rattle.replay_feed.proofs.Laws.{SoFar}
use Rattle.replay_feed.proofs.feed_all.Given as goal

abbrev pub invariant-loop-b : goal.invariant-loop-b
invariant-loop-b l =
    (l.writer.at ≤ l.b-index * 96) × (l.writer.out.ghost_name ≡ l.initial.writer.out.ghost_name)
    × SoFar (reading l.fn.replay l.initial.log l.initial.hold) l.chunk l.b-index (reading l.replay l.log l.hold) l.initial.writer.out.now l.writer.out.now l.writer.at
