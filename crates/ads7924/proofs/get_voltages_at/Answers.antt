-- `ads7924::get_voltages_at` meets its contract: it is the sample's run, with its answer turned into volts. Assumes nothing.
use Rattle.bus.proofs.Runs.{runs_mapped, erred}
use Rattle.ads7924.specs.Calls.{readings, get_voltages}
use Rattle.ads7924.proofs.get_voltages_at.Goals as goal

pub returns-in_err-data-clause-run : goal.returns-in_err-data-clause-run
unfolding get_voltages
returns-in_err-data-clause-run c = runs_mapped readings c.sample_at.ensures.run (rw c.in_err-data.was (erred c.from_residual.ensures))

pub returns-clause-run : goal.returns-clause-run
unfolding get_voltages
returns-clause-run c = runs_mapped readings c.sample_at.ensures.run (rw (c.in_ok-data.was, c.volts_of.ensures, c.volts_of-2.ensures, c.volts_of-3.ensures, c.volts_of-4.ensures))
