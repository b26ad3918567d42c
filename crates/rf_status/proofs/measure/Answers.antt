-- `rf_status::measure` meets its contract: the voltages, the temperature and the input power, each of which may stop it. Assumes nothing.
use Rattle.std.specs.Prelude.{Some, None, Ok}
use mathlib.Core.Path.{refl, ap}
use Rattle.bus.proofs.Runs.{runs_then, runs_done, within, left, erred}
use Rattle.rf_status.specs.Status.{numbers_of, on_input, on_temperature, on_voltages, measuring}
use Rattle.rf_status.proofs.measure.Goals as goal

pub returns-in_err-four-clause-run : goal.returns-in_err-four-clause-run
unfolding measuring on_voltages
returns-in_err-four-clause-run c = within (runs_then (on_voltages c.args.channel.settings c.args.detectors c.args.temperature) c.get_voltages_at.ensures.run c.in_err-four.was (runs_done (erred c.from_residual.ensures))) tt

pub returns-in_default-clause-run : goal.returns-in_default-clause-run
unfolding measuring on_voltages on_temperature
returns-in_default-clause-run c = rw c.in_default.is (within (runs_then (on_voltages c.args.channel.settings c.args.detectors None) c.get_voltages_at.ensures.run c.in_ok-four.was (runs_done refl)) tt)

pub get_input_power-requires : goal.get_input_power-requires
get_input_power-requires c = left c.get_voltages_at.ensures.run c.requires

pub returns-in_err-dbm-clause-run : goal.returns-in_err-dbm-clause-run
unfolding measuring on_voltages on_temperature on_input
returns-in_err-dbm-clause-run c = rw c.in-Some.is (runs_then (on_voltages c.args.channel.settings c.args.detectors (Some c.in-Some.celsius)) c.get_voltages_at.ensures.run c.in_ok-four.was (runs_then (on_input (numbers_of c.args.channel.settings c.args.detectors c.in_ok-four.four c.in-Some.celsius)) c.get_input_power.ensures.run c.in_err-dbm.was (runs_done (erred c.from_residual-in_err-dbm.ensures))))

pub returns-clause-run : goal.returns-clause-run
unfolding measuring on_voltages on_temperature on_input
returns-clause-run c = rw c.in-Some.is (runs_then (on_voltages c.args.channel.settings c.args.detectors (Some c.in-Some.celsius)) c.get_voltages_at.ensures.run c.in_ok-four.was (runs_then (on_input (numbers_of c.args.channel.settings c.args.detectors c.in_ok-four.four c.in-Some.celsius)) c.get_input_power.ensures.run c.in_ok-dbm.was (runs_done (ap Ok c.numbers_of.ensures))))
