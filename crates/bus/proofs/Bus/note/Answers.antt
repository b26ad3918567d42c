-- `bus::Bus::note` meets its contract, by the law of one row.
-- Assumes nothing.
use mathlib.Core.Path.{refl}
use Rattle.bus.proofs.Runs.{does_note}
use Rattle.bus.proofs.Bus.note.Goals as goal

pub returns-clause-run : goal.returns-clause-run
returns-clause-run c = record { does = does_note _ c.note_head.ensures (rw (← c.no_data.ensures) c.add_row.ensures); replies = refl }
