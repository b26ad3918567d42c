-- `rf_call::send` meets its contract: the event, and then the answer or the halt. Assumes nothing.
use mathlib.Core.Path.{refl}
use Rattle.bus.proofs.Runs.{runs_done, within, rows, rows_left}
use Rattle.rf_call.specs.Calls.{quietly, answering}
use Rattle.rf_call.proofs.Laws.{runs_event, runs_halt}
use Rattle.rf_call.proofs.send.Goals as goal

pub halt-requires : goal.halt-requires
halt-requires c = rows_left c.process_event.ensures.run (rows c.requires tt)

pub returns-in-Ok-clause-run : goal.returns-in-Ok-clause-run
unfolding quietly answering
returns-in-Ok-clause-run c = within (runs_event _ c.process_event.ensures.run c.in-Ok.is (runs_done refl)) tt

pub returns-in-Err-clause-run : goal.returns-in-Err-clause-run
unfolding quietly answering
returns-in-Err-clause-run c = within (runs_halt _ c.process_event.ensures.run c.in-Err.is c.halt.ensures.run) tt
