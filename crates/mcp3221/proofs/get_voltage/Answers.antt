-- `mcp3221::get_voltage` meets its contract: it is shut out, or it runs with room for any call. Assumes nothing.
use mathlib.Core.Path.{refl}
use Rattle.bus.proofs.Runs.{runs_mapped, enough}
use Rattle.gate.proofs.Laws.{enters_shut, enters_open, open_bus}
use Rattle.mcp3221.specs.Voltage.{default_voltage}
use Rattle.mcp3221.proofs.get_voltage.Goals as goal

pub get_voltage_at-answer-requires : goal.get_voltage_at-answer-requires
get_voltage_at-answer-requires c = enough (open_bus c.args.slot c.args.used c.in-Ok.ensures) tt

pub returns-in-Ok : goal.returns-in-Ok
unfolding default_voltage
returns-in-Ok c = let f = c.get_voltage_at-answer.ensures in enters_open c.log-1.given c.in-Ok.ensures refl refl f.lent (runs_mapped _ f.run refl)

pub returns-in-Err : goal.returns-in-Err
returns-in-Err c = enters_shut c.in-Err.ensures
