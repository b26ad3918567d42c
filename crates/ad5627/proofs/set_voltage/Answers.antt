-- `ad5627::set_voltage` meets its contract: it is shut out, or it runs with room for any call. Assumes nothing.
use mathlib.Core.Path.{refl}
use Rattle.bus.proofs.Runs.{runs_mapped, enough}
use Rattle.gate.proofs.Laws.{enters_shut, enters_open, open_bus}
use Rattle.ad5627.specs.Voltage.{own_voltage}
use Rattle.ad5627.proofs.set_voltage.Goals as goal

pub set_voltage_at-programmed-requires : goal.set_voltage_at-programmed-requires
set_voltage_at-programmed-requires c = enough (open_bus c.args.slot c.args.used c.in-Ok.ensures) tt

pub returns-in-Ok : goal.returns-in-Ok
unfolding own_voltage
returns-in-Ok c = let f = c.set_voltage_at-programmed.ensures in enters_open c.log-1.given c.in-Ok.ensures refl refl f.lent (runs_mapped _ f.run refl)

pub returns-in-Err : goal.returns-in-Err
returns-in-Err c = enters_shut c.in-Err.ensures
