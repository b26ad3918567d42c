-- `replay_feed::end_line` meets its contract: the line that has ended is what is held, without its CR. Assumes nothing.
use Rattle.std.proofs.Common.{sym, ap, ◌∙◌}
use Rattle.line_hold.specs.Hold.{without_cr}
use Rattle.replay_feed.specs.Feed.{reading}
use Rattle.replay_feed.proofs.Laws.{line_ended}
use Rattle.replay_feed.proofs.end_line.Goals as goal

pub returns-clause-line : goal.returns-clause-line
returns-clause-line c = let passed = c.pass.ensures.line in
    let line = line_ended (reading c.args.replay c.args.log.now c.args.hold.now) (c.without_cr-s.ensures ∙ ap without_cr c.front-held.ensures) passed.0 passed.1 in
    (line.0, rw (sym line.1) passed.2, passed.3)
