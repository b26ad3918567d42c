-- `slot_call::act` meets its contract: a start, or a request. Assumes nothing.
use Rattle.bus.proofs.Runs.{enough, within}
use Rattle.slot_call.specs.Step.{acts, shown_to}
use Rattle.slot_call.proofs.act.Goals as goal

pub request_at-requires : goal.request_at-requires
request_at-requires c = (enough c.requires.0 tt, rw c.in-Ask.is at c.requires.1)

pub returns-in-Start-clause-run : goal.returns-in-Start-clause-run
unfolding acts
returns-in-Start-clause-run c = rw c.in-Start.is c.start.ensures.run

pub returns-in-Start-clause-shown : goal.returns-in-Start-clause-shown
unfolding shown_to
returns-in-Start-clause-shown c = rw c.in-Start.is

pub returns-in-Ask-clause-run : goal.returns-in-Ask-clause-run
unfolding acts
returns-in-Ask-clause-run c = rw c.in-Ask.is (within c.request_at.ensures.run tt)

pub returns-in-Ask-clause-shown : goal.returns-in-Ask-clause-shown
unfolding shown_to
returns-in-Ask-clause-shown c = rw c.in-Ask.is c.request_at.ensures.shown
