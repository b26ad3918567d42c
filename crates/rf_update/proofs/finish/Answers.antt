-- `rf_update::finish` meets its contract: the Update event with the lights of the channel that it leaves, or a halt. Assumes nothing.
use mathlib.Core.Path.{ap}
use Rattle.bus.proofs.Runs.{runs_done, within, rows, rows_left}
use Rattle.rf_call.specs.declared.Answer.TheVariants.{Done}
use Rattle.rf_call.specs.declared.Outcome.TheVariants.{Live}
use Rattle.rf_call.specs.declared.Report.TheVariants.{Power}
use Rattle.rf_call.proofs.Laws.{runs_event, runs_halt}
use Rattle.rf_update.specs.Update.{finishing}
use Rattle.rf_update.proofs.finish.Goals as goal

pub halt-requires : goal.halt-requires
halt-requires c = rows_left c.process_event.ensures.run (rows c.requires tt)

pub returns-in-Ok-clause-run : goal.returns-in-Ok-clause-run
unfolding finishing
returns-in-Ok-clause-run c = within (runs_event _ c.process_event.ensures.run c.in-Ok.is (runs_done (ap (λ s. Live c.in-Ok.channel (Done (Power s))) c.power_status-status.ensures))) tt

pub returns-in-Err-clause-run : goal.returns-in-Err-clause-run
unfolding finishing
returns-in-Err-clause-run c = runs_halt _ c.process_event.ensures.run c.in-Err.is c.halt.ensures.run
