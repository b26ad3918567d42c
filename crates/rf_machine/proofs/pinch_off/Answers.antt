-- `rf_machine::pinch_off` meets its contract: the chip's answer, as the definition turns it. Assumes nothing.
use mathlib.Core.Path.{◌≡◌, refl, ap, sym, ◌∙◌}
use Rattle.std.specs.Prelude.{Err}
use Rattle.bus.specs.declared.Error.{Error}
use Rattle.bus.specs.declared.Error.TheVariants.{Range, Bus}
use Rattle.bus.proofs.Runs.{runs_mapped}
use Rattle.rf_machine.specs.declared.Cause.TheVariants as Cause
use Rattle.rf_machine.specs.Hardware.{pinched, pinch_off}
use Rattle.rf_machine.proofs.pinch_off.Goals as goal

-- any error is cause 1
lost : (e : Error) → Err Cause.Bus ≡ pinched (Err e)
lost Range = refl
lost Bus = refl

pub returns-in_default-clause-run : goal.returns-in_default-clause-run
unfolding pinch_off
returns-in_default-clause-run c = runs_mapped pinched c.set_voltage_at.ensures.run (lost _ ∙ sym (ap pinched c.in_default.is))

pub returns-clause-run : goal.returns-clause-run
unfolding pinch_off
returns-clause-run c = runs_mapped pinched c.set_voltage_at.ensures.run (sym (ap pinched c.in-Ok.is))
