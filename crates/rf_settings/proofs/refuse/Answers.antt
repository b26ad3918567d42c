-- `rf_settings::refuse` meets its contract: two answers with the channel, and a halt. Assumes nothing.
use mathlib.Core.Path.{refl}
use Rattle.bus.proofs.Runs.{runs_done, within}
use Rattle.rf_settings.specs.Settings.{refusing}
use Rattle.rf_settings.proofs.refuse.Goals as goal

pub returns-in-Range-clause-run : goal.returns-in-Range-clause-run
unfolding refusing
returns-in-Range-clause-run c = rw c.in-Range.is (within (runs_done refl) tt)

pub returns-in-Chip-clause-run : goal.returns-in-Chip-clause-run
unfolding refusing
returns-in-Chip-clause-run c = rw c.in-Chip.is (within (runs_done refl) tt)

pub returns-in-Bus-clause-run : goal.returns-in-Bus-clause-run
unfolding refusing
returns-in-Bus-clause-run c = rw c.in-Bus.is c.halt.ensures.run
