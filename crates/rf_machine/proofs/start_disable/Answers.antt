-- `rf_machine::start_disable` meets its contract: after the pin the bias chip stops it, or the other pin follows. Assumes nothing.
use mathlib.Core.Path.{refl}
use Rattle.bus.proofs.Runs.{within, left, enough, erred, rows_left, rows}
use Rattle.rf_machine.specs.Hardware.{disable_rf_switch, start_disable}
use Rattle.rf_machine.proofs.Laws.{runs_stop, runs_did, runs_pin}
use Rattle.rf_machine.proofs.start_disable.Goals as goal

pub pinch_off-requires : goal.pinch_off-requires
pinch_off-requires c = left c.note.ensures.run (enough c.requires tt)

pub returns-in_err-pinch_off-clause-run : goal.returns-in_err-pinch_off-clause-run
unfolding start_disable disable_rf_switch
returns-in_err-pinch_off-clause-run c = within (runs_did _ (runs_pin _ c.note.ensures.run) refl (runs_stop _ c.pinch_off.ensures.run c.in_err-pinch_off.was (erred c.from_residual.ensures))) tt

pub note-requires-2 : goal.note-requires-2
note-requires-2 c = rows_left c.pinch_off.ensures.run (rows_left c.note.ensures.run (rows c.requires tt))

pub returns-clause-run : goal.returns-clause-run
unfolding start_disable disable_rf_switch
returns-clause-run c = runs_did _ (runs_pin _ c.note.ensures.run) refl (runs_did _ c.pinch_off.ensures.run c.in_ok-pinch_off.was (runs_pin _ c.note-2.ensures.run))
