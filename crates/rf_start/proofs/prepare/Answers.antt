-- `rf_start::prepare` meets its contract: the beginning stops it, or the power monitor says how it ends. Assumes nothing.
use Rattle.bus.proofs.Runs.{within, left, erred}
use Rattle.rf_machine.proofs.Laws.{runs_stop, runs_did}
use Rattle.rf_start.specs.Start.{preparing}
use Rattle.rf_start.proofs.prepare.Goals as goal

pub returns-in_err-begin-clause-run : goal.returns-in_err-begin-clause-run
unfolding preparing
returns-in_err-begin-clause-run c = within (runs_stop _ c.begin.ensures.run c.in_err-begin.was (erred c.from_residual.ensures)) tt

pub check_monitor-requires : goal.check_monitor-requires
check_monitor-requires c = left c.begin.ensures.run c.requires

pub returns-clause-run : goal.returns-clause-run
unfolding preparing
returns-clause-run c = runs_did _ c.begin.ensures.run c.in_ok-begin.was c.check_monitor.ensures.run
