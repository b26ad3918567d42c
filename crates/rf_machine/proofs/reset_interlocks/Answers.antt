-- `rf_machine::reset_interlocks` meets its contract: three notes, one after the other. Assumes nothing.
use mathlib.Core.Path.{refl}
use Rattle.bus.proofs.Runs.{rows_left, rows}
use Rattle.rf_machine.specs.Hardware.{reset_interlocks}
use Rattle.rf_machine.proofs.Laws.{runs_did, runs_pin}
use Rattle.rf_machine.proofs.reset_interlocks.Goals as goal

pub note-requires-2 : goal.note-requires-2
note-requires-2 c = rows_left c.note.ensures.run (rows c.requires tt)

pub note-requires-3 : goal.note-requires-3
note-requires-3 c = rows_left c.note-2.ensures.run (rows_left c.note.ensures.run (rows c.requires tt))

pub returns-clause-run : goal.returns-clause-run
unfolding reset_interlocks
returns-clause-run c = runs_did _ (runs_pin _ c.note.ensures.run) refl (runs_did _ (runs_pin _ c.note-2.ensures.run) refl (runs_pin _ c.note-3.ensures.run))
