-- `rf_update::raise` meets its contract: it is the event's run, of whose answer the channel or the cause is kept. Assumes nothing.
use mathlib.Core.Path.{sym, ap}
use Rattle.bus.proofs.Runs.{runs_mapped}
use Rattle.rf_update.specs.Update.{stage_of, raising}
use Rattle.rf_update.proofs.raise.Goals as goal

pub returns-in-Ok-clause-run : goal.returns-in-Ok-clause-run
unfolding raising
returns-in-Ok-clause-run c = runs_mapped stage_of c.process_event.ensures.run (sym (ap stage_of c.in-Ok.is))

pub returns-in-Err-clause-run : goal.returns-in-Err-clause-run
unfolding raising
returns-in-Err-clause-run c = runs_mapped stage_of c.process_event.ensures.run (sym (ap stage_of c.in-Err.is))
