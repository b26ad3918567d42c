-- `rf_settings::write_changes` meets its contract: the first write that goes wrong ends it, and the bias is the last. Assumes nothing.
use Rattle.bus.proofs.Runs.{within, left, enough, erred}
use Rattle.rf_settings.specs.Settings.{write_changes}
use Rattle.rf_settings.proofs.Laws.{runs_wrong, runs_fine}
use Rattle.rf_settings.proofs.write_changes.Goals as goal

pub returns-in_err-write_output-clause-run : goal.returns-in_err-write_output-clause-run
unfolding write_changes
returns-in_err-write_output-clause-run c = within (runs_wrong _ c.write_output.ensures.run c.in_err-write_output.was (erred c.from_residual.ensures)) tt

pub write_reflected-requires : goal.write_reflected-requires
write_reflected-requires c = left c.write_output.ensures.run (enough c.requires tt)

pub returns-in_err-write_reflected-clause-run : goal.returns-in_err-write_reflected-clause-run
unfolding write_changes
returns-in_err-write_reflected-clause-run c = within (runs_fine _ c.write_output.ensures.run c.in_ok-write_output.was (runs_wrong _ c.write_reflected.ensures.run c.in_err-write_reflected.was (erred c.from_residual-in_err-write_reflected.ensures))) tt

pub write_bias-requires : goal.write_bias-requires
write_bias-requires c = left c.write_reflected.ensures.run (left c.write_output.ensures.run c.requires)

pub returns-clause-run : goal.returns-clause-run
unfolding write_changes
returns-clause-run c = runs_fine _ c.write_output.ensures.run c.in_ok-write_output.was (runs_fine _ c.write_reflected.ensures.run c.in_ok-write_reflected.was c.write_bias.ensures.run)
