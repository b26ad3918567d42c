-- `rf_start::settle` meets its contract: a level that was not set halts, and after both the channel is a fresh one. Assumes nothing.
use mathlib.Core.Path.{ap}
use Rattle.bus.proofs.Runs.{runs_then, runs_done, within, rows, rows_left}
use Rattle.rf_call.specs.declared.Answer.TheVariants.{Done}
use Rattle.rf_call.specs.declared.Outcome.TheVariants.{Live}
use Rattle.rf_call.specs.declared.Report.TheVariants.{Plain}
use Rattle.rf_call.specs.Calls.{or_halt}
use Rattle.rf_start.specs.Start.{settling}
use Rattle.rf_start.proofs.settle.Goals as goal

pub halt-requires : goal.halt-requires
halt-requires c = rows_left c.set_levels.ensures.run (rows c.requires tt)

pub returns-in-Ok-clause-run : goal.returns-in-Ok-clause-run
unfolding settling or_halt
returns-in-Ok-clause-run c = within (runs_then (or_halt _) c.set_levels.ensures.run c.in-Ok.is (runs_done (ap (λ x. Live x (Done Plain)) c.fresh_channel.ensures))) tt

pub returns-in-Err-clause-run : goal.returns-in-Err-clause-run
unfolding settling or_halt
returns-in-Err-clause-run c = runs_then (or_halt _) c.set_levels.ensures.run c.in-Err.is c.halt.ensures.run
