-- `ads7924_entry::get_voltage` meets its contract: a shut gate changes nothing, and an open one leaves room for the call. Assumes nothing.
use mathlib.Core.Path.{refl}
use Rattle.bus.proofs.Runs.{runs_mapped, enough}
use Rattle.gate.proofs.Laws.{enters_shut, enters_open, open_bus}
use Rattle.ads7924_entry.proofs.get_voltage.Goals as goal

pub get_voltage_at-answer-requires : goal.get_voltage_at-answer-requires
get_voltage_at-answer-requires c = enough (open_bus c.args.slot c.args.used c.in-Ok.ensures) tt

pub returns-in-Ok : goal.returns-in-Ok
returns-in-Ok c = let f = c.get_voltage_at-answer.ensures in enters_open c.log-1.given c.in-Ok.ensures refl refl f.lent (runs_mapped _ f.run refl)

pub returns-in-Err : goal.returns-in-Err
returns-in-Err c = enters_shut c.in-Err.ensures
