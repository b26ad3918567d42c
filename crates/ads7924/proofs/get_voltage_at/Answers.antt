-- `ads7924::get_voltage_at` meets its contract: it is the sample's run, with its answer turned into volts. Assumes nothing.
use Rattle.bus.proofs.Runs.{runs_mapped, erred}
use Rattle.ads7924.specs.Calls.{reading, get_voltage}
use Rattle.ads7924.proofs.get_voltage_at.Goals as goal

pub returns-in_err-data-clause-run : goal.returns-in_err-data-clause-run
unfolding get_voltage
returns-in_err-data-clause-run c = rw (← c.command_of.ensures) (runs_mapped reading c.sample_at.ensures.run (rw c.in_err-data.was (erred c.from_residual.ensures)))

pub returns-clause-run : goal.returns-clause-run
unfolding get_voltage
returns-clause-run c = rw (← c.command_of.ensures) (runs_mapped reading c.sample_at.ensures.run (rw (c.in_ok-data.was, c.volts_of.ensures)))
