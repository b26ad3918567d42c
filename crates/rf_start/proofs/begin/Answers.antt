-- `rf_start::begin` meets its contract: two notes and the bias chip, one after the other. Assumes nothing.
use mathlib.Core.Path.{refl}
use Rattle.bus.proofs.Runs.{left, rows, rows_left}
use Rattle.rf_machine.proofs.Laws.{runs_did, runs_pin}
use Rattle.rf_start.specs.Start.{beginning}
use Rattle.rf_start.proofs.begin.Goals as goal

pub note-requires-2 : goal.note-requires-2
note-requires-2 c = rows_left c.note.ensures.run (rows c.requires tt)

pub pinch_off-requires : goal.pinch_off-requires
pinch_off-requires c = left c.note-2.ensures.run (left c.note.ensures.run c.requires)

pub returns-clause-run : goal.returns-clause-run
unfolding beginning
returns-clause-run c = runs_did _ (runs_pin _ c.note.ensures.run) refl (runs_did _ (runs_pin _ c.note-2.ensures.run) refl c.pinch_off.ensures.run)
