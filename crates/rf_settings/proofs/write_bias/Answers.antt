-- `rf_settings::write_bias` meets its contract: a bias that has changed is the chip's run, and one that has not is no row. Assumes nothing.
use mathlib.Core.Path.{refl, sym, ap}
use Rattle.bus.proofs.Runs.{runs_mapped, runs_done, within}
use Rattle.rf_settings.specs.Settings.{bias_applied, write_bias}
use Rattle.rf_settings.proofs.write_bias.Goals as goal

pub returns-then-not-changed-clause-run : goal.returns-then-not-changed-clause-run
unfolding write_bias
returns-then-not-changed-clause-run c = rw c.if-not-changed.true (within (runs_done refl) tt)

pub returns-in_default-clause-run : goal.returns-in_default-clause-run
unfolding write_bias
returns-in_default-clause-run c = rw c.if-not-changed.false (runs_mapped _ c.apply_bias-output.ensures.run c.bias_written.ensures)

pub returns-clause-run : goal.returns-clause-run
unfolding write_bias
returns-clause-run c = rw c.if-not-changed.false (runs_mapped _ c.apply_bias-output.ensures.run (sym (ap bias_applied c.in-Ok.is)))
