-- `replay_run::read_all` meets its contract: the beginning, a read that brings bytes, and the end. Assumes nothing.
use Rattle.replay_feed.specs.Feed.{reading}
use Rattle.replay_run.proofs.Laws.{begins, goes, ends, stops, ok_then}
use Rattle.replay_run.proofs.read_all.Goals as goal

pub reads-init : goal.reads-init
reads-init g c = λ rest e. begins rest (reading c.args.replay c.args.log.now c.args.hold.now) (g.R.Read.remaining c.args.trace.now) (g.W.Write.contents c.args.answers.now) e

pub reads-preserved : goal.reads-preserved
reads-preserved g c = λ rest e. let so_far = c.reads.invariant rest e in
    goes so_far (reading c.in-More.fed.replay c.read_on.new.log c.read_on.new.hold) (g.W.Write.contents c.send.new.answers) (c.in-More.ensures so_far.left so_far.is_left) c.in_ok-send-in-More.ensures.written

pub returns-in-Ended-clause-all : goal.returns-in-Ended-clause-all
returns-in-Ended-clause-all g c = λ rest e. let so_far = c.reads.invariant rest e in
    let last = c.in-Ended.ensures so_far.left so_far.is_left in
    ok_then c.send-in-Ended.result (λ w. ends so_far (g.W.Write.contents c.send-in-Ended.new.answers) last.0 last.1 w) c.send-in-Ended.ensures.written

-- what came before a read failed
pub returns-in-Failed-clause-part : goal.returns-in-Failed-clause-part
returns-in-Failed-clause-part g c = λ rest e _. stops (c.reads.invariant rest e)

pub returns-clause-part : goal.returns-clause-part
returns-clause-part g c = λ rest e _. stops (c.reads.invariant rest e)
