-- `ad5627::default_at` meets its contract: the first write failed, the second did, or neither. Assumes nothing.
use mathlib.Core.Path.{refl}
use Rattle.bus.proofs.Runs.{runs_lost, runs_got, runs_done, within, left, erred}
use Rattle.ad5627.specs.Opening.{opening}
use Rattle.ad5627.proofs.default_at.Goals as goal

pub returns-in_err-transfer-clause-run : goal.returns-in_err-transfer-clause-run
unfolding opening
returns-in_err-transfer-clause-run c = within (runs_lost _ _ c.transfer.ensures.run c.in_err-transfer.was (erred c.from_residual.ensures)) tt

pub transfer-requires-2 : goal.transfer-requires-2
transfer-requires-2 c = left c.transfer.ensures.run c.requires

pub returns-in_err-transfer-2-clause-run : goal.returns-in_err-transfer-2-clause-run
unfolding opening
returns-in_err-transfer-2-clause-run c = runs_got _ _ c.transfer.ensures.run c.in_ok-transfer.was (runs_lost _ _ c.transfer-2.ensures.run c.in_err-transfer-2.was (erred c.from_residual-in_err-transfer-2.ensures))

pub returns-clause-run : goal.returns-clause-run
unfolding opening
returns-clause-run c = runs_got _ _ c.transfer.ensures.run c.in_ok-transfer.was (runs_got _ _ c.transfer-2.ensures.run c.in_ok-transfer-2.was (runs_done refl))
