-- `replay_run::run` meets its contract: the header, and what the reads give behind it. Assumes nothing.
use Rattle.std.proofs.Common.{replicate, rules}
use Rattle.replay_run.proofs.Laws.{sent, all_told, part_told}
use Rattle.replay_run.proofs.run.Goals as goal

pub returns-clause-all : goal.returns-clause-all
returns-clause-all g c = λ bytes e small. let header = rw (sent c.begin-begun.ensures.1) at c.in_ok-send.ensures.written in
    all_told (g.W.Write.contents c.args.answers.now) (g.W.Write.contents c.send.new.answers) (g.W.Write.contents c.read_all.new.answers) bytes (replicate 514 0) c.read_all.result c.begin-begun.ensures.0 (search rules) small header (c.read_all.ensures.all bytes e)

pub returns-clause-part : goal.returns-clause-part
returns-clause-part g c = λ bytes e stopped. let header = rw (sent c.begin-begun.ensures.1) at c.in_ok-send.ensures.written in
    part_told (g.W.Write.contents c.args.answers.now) (g.W.Write.contents c.send.new.answers) (g.W.Write.contents c.read_all.new.answers) bytes (replicate 514 0) c.begin-begun.ensures.0 header (c.read_all.ensures.part bytes e stopped)
