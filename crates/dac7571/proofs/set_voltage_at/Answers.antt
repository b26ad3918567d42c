-- `dac7571::set_voltage_at` meets its contract: refused for range, failed on the bus or programmed, each way out is the run that the definition has there. Assumes nothing.
use Rattle.std.specs.Prelude.{Ok}
use mathlib.Core.Path.{refl, ap}
use Rattle.bus.proofs.Runs.{runs_lost, runs_got, runs_done, within, erred}
use Rattle.dac7571.specs.Voltage.{set_voltage}
use Rattle.dac7571.proofs.set_voltage_at.Goals as goal

pub returns-in_default-clause-run : goal.returns-in_default-clause-run
unfolding set_voltage
returns-in_default-clause-run c = rw (← c.in_default.ensures) (within (runs_done refl) tt)

pub returns-in_err-transfer-clause-run : goal.returns-in_err-transfer-clause-run
unfolding set_voltage
returns-in_err-transfer-clause-run c = rw (← c.in-Some.ensures, ← c.write_of.ensures) (runs_lost _ _ c.transfer.ensures.run c.in_err-transfer.was (erred c.from_residual.ensures))

pub returns-clause-run : goal.returns-clause-run
unfolding set_voltage
returns-clause-run c = rw (← c.in-Some.ensures, ← c.write_of.ensures) (runs_got _ _ c.transfer.ensures.run c.in_ok-transfer.was (runs_done (ap Ok c.volts_of.ensures)))
