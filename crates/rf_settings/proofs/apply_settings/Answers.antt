-- `rf_settings::apply_settings` meets its contract: equal settings change nothing, and others are stored whether or not all was written. Assumes nothing.
use mathlib.Core.Path.{refl, sym, ap}
use Rattle.bus.proofs.Runs.{runs_mapped, runs_done, within}
use Rattle.rf_settings.specs.Settings.{applied_to, apply_settings}
use Rattle.rf_settings.proofs.apply_settings.Goals as goal

pub returns-then-equal-clause-run : goal.returns-then-equal-clause-run
unfolding apply_settings
returns-then-equal-clause-run c = rw (← c.same_settings-equal.ensures, c.if-equal.true) (within (runs_done refl) tt)

pub returns-in-Ok-clause-run : goal.returns-in-Ok-clause-run
unfolding apply_settings
returns-in-Ok-clause-run c = rw (← c.same_settings-equal.ensures, c.if-equal.false, ← c.changes_of-due.ensures) (runs_mapped (applied_to _) c.write_changes.ensures.run (rw c.store-stored.ensures (sym (ap (applied_to _) c.in-Ok.is))))

pub returns-in-Err-clause-run : goal.returns-in-Err-clause-run
unfolding apply_settings
returns-in-Err-clause-run c = rw (← c.same_settings-equal.ensures, c.if-equal.false, ← c.changes_of-due.ensures) (runs_mapped (applied_to _) c.write_changes.ensures.run (rw c.store-stored.ensures (sym (ap (applied_to _) c.in-Err.is))))
