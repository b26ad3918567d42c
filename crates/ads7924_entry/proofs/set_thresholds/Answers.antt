-- `ads7924_entry::set_thresholds` meets its contract: a shut gate changes nothing, and an open one leaves room for the call. Assumes nothing.
use mathlib.Core.Path.{refl}
use Rattle.bus.proofs.Runs.{runs_mapped, enough}
use Rattle.gate.proofs.Laws.{enters_shut, enters_open, open_bus}
use Rattle.ads7924_entry.proofs.set_thresholds.Goals as goal

pub set_thresholds_at-answer-requires : goal.set_thresholds_at-answer-requires
set_thresholds_at-answer-requires c = enough (open_bus c.args.slot c.args.used c.in-Ok.ensures) tt

pub returns-in-Ok : goal.returns-in-Ok
returns-in-Ok c = let f = c.set_thresholds_at-answer.ensures in enters_open c.log-1.given c.in-Ok.ensures refl refl f.lent (runs_mapped _ f.run refl)

pub returns-in-Err : goal.returns-in-Err
returns-in-Err c = enters_shut c.in-Err.ensures
