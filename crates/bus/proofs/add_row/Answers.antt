-- `bus::add_row` meets its contract: the free tail, back with the row at its front, makes the log with the row in its place.
-- Assumes nothing.
use Rattle.bus.specs.Rows.{laid}
use Rattle.bus.proofs.Log.{length_laid, put_back}
use Rattle.bus.proofs.add_row.Goals as goal

pub returns : goal.returns
returns c = let a = c.args in
    put_back a.log.now a.at.used (laid a.at.slot a.head a.got) (length_laid a.at.slot a.head a.got) c.requires.2 c.write_row.ensures
