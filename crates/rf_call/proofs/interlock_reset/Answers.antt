-- `rf_call::interlock_reset` meets its contract: the event, and then the answer or the halt. Assumes nothing.
use mathlib.Core.Path.{ap}
use Rattle.bus.proofs.Runs.{runs_done, within, rows, rows_left}
use Rattle.rf_call.specs.declared.Outcome.TheVariants.{Live}
use Rattle.rf_call.specs.Calls.{interlock_reset, answering}
use Rattle.rf_call.proofs.Laws.{runs_event, runs_halt}
use Rattle.rf_call.proofs.interlock_reset.Goals as goal

pub halt-requires : goal.halt-requires
halt-requires c = rows_left c.process_event.ensures.run (rows c.requires tt)

pub returns-in-Ok-clause-run : goal.returns-in-Ok-clause-run
unfolding interlock_reset answering
returns-in-Ok-clause-run c = within (runs_event _ c.process_event.ensures.run c.in-Ok.is (runs_done (ap (λ a. Live c.in-Ok.channel a) c.reset_answer.ensures))) tt

pub returns-in-Err-clause-run : goal.returns-in-Err-clause-run
unfolding interlock_reset answering
returns-in-Err-clause-run c = within (runs_halt _ c.process_event.ensures.run c.in-Err.is c.halt.ensures.run) tt
