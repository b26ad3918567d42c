-- `rf_start::find_module` meets its contract: the interlock chip, the flag or the input power's chip says that there is none, or all are there. Assumes nothing.
use mathlib.Core.Path.{refl, sym, ap}
use Rattle.bus.proofs.Runs.{runs_then, runs_mapped, runs_done, within, left}
use Rattle.rf_start.specs.Start.{opened, there, on_present, module_there}
use Rattle.rf_start.proofs.find_module.Goals as goal

pub returns-in_default-clause-run : goal.returns-in_default-clause-run
unfolding module_there on_present
returns-in_default-clause-run c = within (runs_then (on_present _) (runs_mapped opened c.default_at.ensures.run refl) (ap opened c.in_default.is) (runs_done refl)) tt

pub get_voltage_at-requires : goal.get_voltage_at-requires
get_voltage_at-requires c = left c.default_at.ensures.run c.requires

pub returns-in-Ok-get_voltage_at-clause-run : goal.returns-in-Ok-get_voltage_at-clause-run
unfolding module_there on_present
returns-in-Ok-get_voltage_at-clause-run c = rw c.if-present.true (runs_then (on_present _) (runs_mapped opened c.default_at.ensures.run refl) (ap opened c.in-Ok.is) (runs_mapped there c.get_voltage_at.ensures.run (sym (ap there c.in-Ok-get_voltage_at.is))))

pub returns-in_default-get_voltage_at-clause-run : goal.returns-in_default-get_voltage_at-clause-run
unfolding module_there on_present
returns-in_default-get_voltage_at-clause-run c = rw c.if-present.true (runs_then (on_present _) (runs_mapped opened c.default_at.ensures.run refl) (ap opened c.in-Ok.is) (runs_mapped there c.get_voltage_at.ensures.run (sym (ap there c.in_default-get_voltage_at.is))))

pub returns-else-present-clause-run : goal.returns-else-present-clause-run
unfolding module_there on_present
returns-else-present-clause-run c = rw c.if-present.false (within (runs_then (on_present _) (runs_mapped opened c.default_at.ensures.run refl) (ap opened c.in-Ok.is) (runs_done refl)) tt)
