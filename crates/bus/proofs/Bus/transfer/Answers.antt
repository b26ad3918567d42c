-- `bus::Bus::transfer` meets its contract, by the law of one row.
-- Assumes nothing.
use mathlib.Core.Path.{refl}
use Rattle.bus.proofs.Runs.{does_transfer}
use Rattle.bus.proofs.Bus.transfer.Goals as goal

pub returns-clause-run : goal.returns-clause-run
returns-clause-run c = record { does = does_transfer _ c.transfer_head-head.ensures c.reply_at-got.ensures c.add_row.ensures; replies = refl }
