-- `replay_feed::pass` meets its contract: the header, and any other line. Assumes nothing.
use Rattle.std.proofs.Common.{sym, refl, arith}
use Rattle.replay_feed.specs.Feed.{place_of}
use Rattle.replay_feed.proofs.Laws.{wrote_nothing, passes_header, passes_line}
use Rattle.replay_feed.proofs.pass.Goals as goal

pub returns-then-replay-eq0-clause-line : goal.returns-then-replay-eq0-clause-line
returns-then-replay-eq0-clause-line c = let header = passes_header (place_of c.args.replay c.args.log.now) c.args.s.now c.if-replay-eq0.true refl in
    (header.0, refl, rw (sym header.1) (wrote_nothing c.args.writer.now.out.now c.args.writer.now.at), omega arith)

pub returns-clause-line : goal.returns-clause-line
returns-clause-line c = let told = c.answer-told.ensures.line in
    let line = passes_line (place_of c.args.replay c.args.log.now) c.args.s.now c.if-replay-eq0.false refl told.0 in
    (line.0, refl, rw (sym line.1) told.1, told.2)
