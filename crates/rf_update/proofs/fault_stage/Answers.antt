-- `rf_update::fault_stage` meets its contract: no fault, the event of the fault that was found, or a halt for the temperature. Assumes nothing.
use mathlib.Core.Path.{refl}
use Rattle.bus.proofs.Runs.{runs_done, within}
use Rattle.rf_update.specs.Update.{on_check, fault_stage}
use Rattle.rf_update.proofs.fault_stage.Goals as goal

pub returns-in-Ok-None-clause-run : goal.returns-in-Ok-None-clause-run
unfolding fault_stage on_check
returns-in-Ok-None-clause-run c = rw (← c.check_faults.ensures, c.in-Ok-None.is, c.in-Ok-None.field-0-is) (within (runs_done refl) tt)

pub returns-in-Ok-Some-clause-run : goal.returns-in-Ok-Some-clause-run
unfolding fault_stage on_check
returns-in-Ok-Some-clause-run c = rw (← c.check_faults.ensures, c.in-Ok-Some.is, c.in-Ok-Some.field-0-is) c.raise.ensures.run

pub returns-in-Err-clause-run : goal.returns-in-Err-clause-run
unfolding fault_stage on_check
returns-in-Err-clause-run c = rw (← c.check_faults.ensures, c.in-Err.is) (within (runs_done refl) tt)
