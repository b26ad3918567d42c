-- `mcp3221::get_voltage_at` meets its contract: the read failed, or its two bytes are the code. Assumes nothing.
use native.Mathlib.Nat.{mul_comm}
use Rattle.bus.proofs.Runs.{runs_lost, runs_got, runs_done, erred}
use Rattle.mcp3221.specs.Voltage.{get_voltage}
use Rattle.mcp3221.proofs.get_voltage_at.Goals as goal

pub returns-in_err-data-clause-run : goal.returns-in_err-data-clause-run
unfolding get_voltage
returns-in_err-data-clause-run c = runs_lost _ _ c.transfer.ensures.run c.in_err-data.was (erred c.from_residual.ensures)

pub returns-clause-run : goal.returns-clause-run
unfolding get_voltage
returns-clause-run c = runs_got _ _ c.transfer.ensures.run c.in_ok-data.was (runs_done (rw (c.volts_of.ensures, c.from_be_bytes-code.ensures, mul_comm c.in_ok-data.data.b0 256)))
