-- `rf_devices::get_input_power` meets its contract: it is the measurement, with its answer mapped. Assumes nothing.
use mathlib.Core.Path.{ap, ◌∙◌, sym}
use Rattle.std.specs.Prelude.{Ok}
use Rattle.bus.proofs.Runs.{runs_mapped, erred}
use Rattle.rf_devices.specs.Devices.{dbm, get_input_power}
use Rattle.rf_devices.proofs.get_input_power.Goals as goal

pub returns-in_err-voltage-clause-run : goal.returns-in_err-voltage-clause-run
unfolding get_input_power
returns-in_err-voltage-clause-run c = runs_mapped _ c.get_voltage_at.ensures.run (erred c.from_residual.ensures ∙ sym (ap (dbm c.args.settings) c.in_err-voltage.was))

pub returns-clause-run : goal.returns-clause-run
unfolding get_input_power
returns-clause-run c = runs_mapped _ c.get_voltage_at.ensures.run (ap Ok c.map.ensures ∙ sym (ap (dbm c.args.settings) c.in_ok-voltage.was))
