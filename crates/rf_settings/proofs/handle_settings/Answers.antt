-- `rf_settings::handle_settings` meets its contract: settings in force are followed up, and others are refused. Assumes nothing.
use Rattle.bus.proofs.Runs.{runs_then, within, left, rows, rows_left}
use Rattle.rf_settings.specs.Settings.{on_applied, handle_settings}
use Rattle.rf_settings.proofs.handle_settings.Goals as goal

pub follow_up-requires : goal.follow_up-requires
follow_up-requires c = left c.apply_settings.ensures.run c.requires

pub refuse-requires : goal.refuse-requires
refuse-requires c = rows_left c.apply_settings.ensures.run (rows c.requires tt)

pub returns-in-Ok-clause-run : goal.returns-in-Ok-clause-run
unfolding handle_settings on_applied
returns-in-Ok-clause-run c = runs_then (on_applied _ _) c.apply_settings.ensures.run c.in-Ok.is c.follow_up.ensures.run

pub returns-in-Err-clause-run : goal.returns-in-Err-clause-run
unfolding handle_settings on_applied
returns-in-Err-clause-run c = within (runs_then (on_applied _ _) c.apply_settings.ensures.run c.in-Err.is c.refuse.ensures.run) tt
