-- `rf_status::get_status` meets its contract: a whole status fills the slice, and one that stopped halts and leaves it. Assumes nothing.
use mathlib.Core.Path.{ap}
use Rattle.bus.proofs.Runs.{runs_then, runs_done, within, rows, rows_left}
use Rattle.rf_call.specs.declared.Answer.TheVariants.{Done}
use Rattle.rf_call.specs.declared.Outcome.TheVariants.{Live}
use Rattle.rf_call.specs.declared.Report.TheVariants.{Status}
use Rattle.rf_status.specs.Status.{on_measures, getting_status}
use Rattle.rf_status.proofs.Laws.{shown_all, shown_none}
use Rattle.rf_status.proofs.get_status.Goals as goal

pub halt-requires : goal.halt-requires
halt-requires c = rows_left c.measure.ensures.run (rows c.requires.0 tt)

pub returns-in-Ok-clause-run : goal.returns-in-Ok-clause-run
unfolding getting_status on_measures
returns-in-Ok-clause-run c = within (runs_then (on_measures c.args.channel c.args.givens) c.measure.ensures.run c.in-Ok.is (runs_done (ap (λ s. Live c.args.channel (Done (Status s))) c.status_of-status.ensures))) tt

pub returns-in-Ok-clause-shown : goal.returns-in-Ok-clause-shown
returns-in-Ok-clause-shown c = shown_all c.args.numbers.now c.measure.ensures.run c.in-Ok.is c.fill.ensures

pub returns-in-Err-clause-run : goal.returns-in-Err-clause-run
unfolding getting_status on_measures
returns-in-Err-clause-run c = runs_then (on_measures c.args.channel c.args.givens) c.measure.ensures.run c.in-Err.is c.halt.ensures.run

pub returns-in-Err-clause-shown : goal.returns-in-Err-clause-shown
returns-in-Err-clause-shown c = shown_none c.args.numbers.now c.measure.ensures.run c.in-Err.is
