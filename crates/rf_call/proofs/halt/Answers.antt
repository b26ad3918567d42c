-- `rf_call::halt` meets its contract: two notes, one after the other. Assumes nothing.
use mathlib.Core.Path.{refl}
use Rattle.bus.proofs.Runs.{runs_next, runs_done, rows_left}
use Rattle.rf_call.specs.Calls.{halting}
use Rattle.rf_call.proofs.halt.Goals as goal

pub note-requires-2 : goal.note-requires-2
note-requires-2 c = rows_left c.note.ensures.run c.requires

pub returns-clause-run : goal.returns-clause-run
unfolding halting
returns-clause-run c = runs_next _ c.note.ensures.run (runs_next _ c.note-2.ensures.run (runs_done refl))
