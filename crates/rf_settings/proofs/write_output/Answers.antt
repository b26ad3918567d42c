-- `rf_settings::write_output` meets its contract: a level that has changed is the chip's run, and one that has not is no row. Assumes nothing.
use mathlib.Core.Path.{refl, sym, ap}
use Rattle.bus.proofs.Runs.{runs_mapped, runs_done, within}
use Rattle.rf_settings.specs.Settings.{level_applied, write_output}
use Rattle.rf_settings.proofs.write_output.Goals as goal

pub returns-then-not-changed-clause-run : goal.returns-then-not-changed-clause-run
unfolding write_output
returns-then-not-changed-clause-run c = rw c.if-not-changed.true (within (runs_done refl) tt)

pub returns-in_default-clause-run : goal.returns-in_default-clause-run
unfolding write_output
returns-in_default-clause-run c = rw c.if-not-changed.false (runs_mapped _ c.apply_output_interlock_threshold-output.ensures.run c.level_written.ensures)

pub returns-clause-run : goal.returns-clause-run
unfolding write_output
returns-clause-run c = rw c.if-not-changed.false (runs_mapped _ c.apply_output_interlock_threshold-output.ensures.run (sym (ap level_applied c.in-Ok.is)))
