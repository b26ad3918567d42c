-- `replay_turn::turn` meets its contract: the read failed, the trace has ended, or bytes came. Assumes nothing.
use Rattle.std.proofs.Common.{◌≡◌, ℕ, Some, length, refl, sym, ap, rules}
use Rattle.replay_feed.specs.Feed.{reading}
use Rattle.replay_feed.proofs.Laws.{wrote_nothing}
use Rattle.replay_turn.specs.Turn.{turned, turned_text, more_after, failed_of}
use Rattle.replay_turn.proofs.Laws.{bytes_came}
use Rattle.replay_turn.proofs.turn.Goals as goal

pub returns-in-None : goal.returns-in-None
unfolding turned turned_text more_after failed_of
returns-in-None c = rw c.in-None.is (refl, wrote_nothing c.args.out.now 0, refl, refl)

pub returns-in-Some-eq0 : goal.returns-in-Some-eq0
unfolding turned turned_text more_after failed_of
returns-in-Some-eq0 c = let arm = c.in-Some-eq0 in
    let none : arm.field-0 ≡ 0 = rw arm.is at arm.field-0-test in
    rw (arm.is, none) (c.finish.ensures.0, c.finish.ensures.1, refl, refl)

pub returns-in-Some : goal.returns-in-Some
unfolding more_after failed_of
returns-in-Some c = let args = c.args in
    let arm = c.in-Some in
    let size : length args.chunk.now ≡ 1024 = search rules in
    let came = bytes_came (reading args.replay args.log.now args.hold.now) arm.n args.chunk.now size (rw arm.is at arm.n-test.1) c.front-came.ensures in
    rw (arm.is, sym came.reads, sym came.writes) (c.feed.ensures.0, c.feed.ensures.1, sym (ap (λ (m : ℕ). more_after (Some m)) came.is), refl)
