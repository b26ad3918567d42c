-- `rf_machine::enable_output` meets its contract: the level stops it, the bias stops it, or the pin follows. Assumes nothing.
use mathlib.Core.Path.{◌≡◌, refl, ap, ◌∙◌}
use Rattle.std.specs.Prelude.{Err}
use Rattle.bus.specs.declared.Error.{Error}
use Rattle.bus.specs.declared.Error.TheVariants.{Range, Bus}
use Rattle.bus.proofs.Runs.{runs_mapped, runs_done, within, rows_left, rows}
use Rattle.rf_machine.specs.declared.Cause.{Cause}
use Rattle.rf_machine.specs.Hardware.{enabled, enable_output}
use Rattle.rf_machine.proofs.Laws.{runs_stop, runs_did, runs_pin}
use Rattle.rf_machine.proofs.enable_output.Goals as goal

-- a bias that is not taken has a cause
cause_of : Error → Cause
cause_of Range = Cause.Bias
cause_of Bus = Cause.Bus

stopped : (e : Error) → enabled (Err e) ≡ Err (cause_of e)
unfolding cause_of
stopped Range = refl
stopped Bus = refl

pub returns-in_default-clause-run : goal.returns-in_default-clause-run
unfolding enable_output
returns-in_default-clause-run c = let cause = ap enabled c.in_default.is ∙ stopped _ in
    rw (← c.map-lowest.ensures, c.if-settings-lowest.true) (within (runs_stop _ (runs_mapped _ c.apply_bias-biased.ensures.run refl) cause (c.enabled.ensures ∙ cause)) tt)

pub note-requires : goal.note-requires
note-requires c = rows_left c.apply_bias-biased.ensures.run (rows c.requires tt)

pub returns-in-Ok-clause-run : goal.returns-in-Ok-clause-run
unfolding enable_output
returns-in-Ok-clause-run c = rw (← c.map-lowest.ensures, c.if-settings-lowest.true) (runs_did _ (runs_mapped _ c.apply_bias-biased.ensures.run refl) (ap enabled c.in-Ok.is) (runs_pin _ c.note.ensures.run))

pub returns-else-settings-lowest-clause-run : goal.returns-else-settings-lowest-clause-run
unfolding enable_output
returns-else-settings-lowest-clause-run c = rw (← c.map-lowest.ensures, c.if-settings-lowest.false) (within (runs_done refl) tt)
