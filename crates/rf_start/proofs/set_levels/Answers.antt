-- `rf_start::set_levels` meets its contract: a level that is not taken stops it, and after both it is done. Assumes nothing.
use mathlib.Core.Path.{◌≡◌, refl, sym, ap, ◌∙◌}
use Rattle.std.specs.Prelude.{Err}
use Rattle.bus.specs.declared.Error.{Error}
use Rattle.bus.specs.declared.Error.TheVariants.{Range, Bus}
use Rattle.bus.proofs.Runs.{runs_mapped, within, left}
use Rattle.rf_machine.specs.declared.Cause.{Cause}
use Rattle.rf_machine.proofs.Laws.{runs_stop, runs_did}
use Rattle.rf_start.specs.Start.{level_set, levels}
use Rattle.rf_start.proofs.set_levels.Goals as goal

-- a level that is not taken has a cause
cause_of : Error → Cause
cause_of Range = Cause.Threshold
cause_of Bus = Cause.Bus

stopped : (e : Error) → level_set (Err e) ≡ Err (cause_of e)
unfolding cause_of
stopped Range = refl
stopped Bus = refl

pub returns-in_default-clause-run : goal.returns-in_default-clause-run
unfolding levels
returns-in_default-clause-run c = let cause = ap level_set c.in_default.is ∙ stopped _ in
    within (runs_stop _ (runs_mapped _ c.apply_output_interlock_threshold-output.ensures.run refl) cause (c.level_set.ensures ∙ cause)) tt

pub set_reflected_interlock_threshold-reflected-requires : goal.set_reflected_interlock_threshold-reflected-requires
set_reflected_interlock_threshold-reflected-requires c = left c.apply_output_interlock_threshold-output.ensures.run c.requires

pub returns-in_default-reflected-clause-run : goal.returns-in_default-reflected-clause-run
unfolding levels
returns-in_default-reflected-clause-run c = runs_did _ (runs_mapped _ c.apply_output_interlock_threshold-output.ensures.run refl) (ap level_set c.in-Ok.is) (runs_mapped _ c.set_reflected_interlock_threshold-reflected.ensures.run c.level_set-in_default-reflected.ensures)

pub returns-clause-run : goal.returns-clause-run
unfolding levels
returns-clause-run c = runs_did _ (runs_mapped _ c.apply_output_interlock_threshold-output.ensures.run refl) (ap level_set c.in-Ok.is) (runs_mapped _ c.set_reflected_interlock_threshold-reflected.ensures.run (sym (ap level_set c.in-Ok-reflected.is)))
