-- `rf_machine::start_powerup` meets its contract: the bias chip stops it, or the pin follows. Assumes nothing.
use Rattle.bus.proofs.Runs.{within, erred, rows_left, rows}
use Rattle.rf_machine.specs.Hardware.{start_powerup}
use Rattle.rf_machine.proofs.Laws.{runs_stop, runs_did, runs_pin}
use Rattle.rf_machine.proofs.start_powerup.Goals as goal

pub returns-in_err-pinch_off-clause-run : goal.returns-in_err-pinch_off-clause-run
unfolding start_powerup
returns-in_err-pinch_off-clause-run c = within (runs_stop _ c.pinch_off.ensures.run c.in_err-pinch_off.was (erred c.from_residual.ensures)) tt

pub note-requires : goal.note-requires
note-requires c = rows_left c.pinch_off.ensures.run (rows c.requires tt)

pub returns-clause-run : goal.returns-clause-run
unfolding start_powerup
returns-clause-run c = runs_did _ c.pinch_off.ensures.run c.in_ok-pinch_off.was (runs_pin _ c.note.ensures.run)
