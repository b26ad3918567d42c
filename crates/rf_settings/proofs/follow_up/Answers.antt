-- `rf_settings::follow_up` meets its contract: no event answers at once, and an event is sent. Assumes nothing.
use mathlib.Core.Path.{refl}
use Rattle.bus.proofs.Runs.{runs_done, within}
use Rattle.rf_settings.specs.Settings.{on_follow, following}
use Rattle.rf_settings.proofs.follow_up.Goals as goal

pub returns-in-None-clause-run : goal.returns-in-None-clause-run
unfolding following on_follow
returns-in-None-clause-run c = rw (← c.event_of.ensures, c.in-None.is) (within (runs_done refl) tt)

pub returns-in-Some-clause-run : goal.returns-in-Some-clause-run
unfolding following on_follow
returns-in-Some-clause-run c = rw (← c.event_of.ensures, c.in-Some.is) c.send.ensures.run
