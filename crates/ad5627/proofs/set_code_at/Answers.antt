-- `ad5627::set_code_at` meets its contract: failed on the bus or programmed. Assumes nothing.
use Rattle.std.specs.Prelude.{Ok}
use mathlib.Core.Path.{ap}
use Rattle.bus.proofs.Runs.{runs_lost, runs_got, runs_done, erred}
use Rattle.ad5627.proofs.set_code_at.Goals as goal

pub returns-in_err-transfer-clause-run : goal.returns-in_err-transfer-clause-run
returns-in_err-transfer-clause-run c = rw (← c.write_of.ensures) (runs_lost _ _ c.transfer.ensures.run c.in_err-transfer.was (erred c.from_residual.ensures))

pub returns-clause-run : goal.returns-clause-run
returns-clause-run c = rw (← c.write_of.ensures) (runs_got _ _ c.transfer.ensures.run c.in_ok-transfer.was (runs_done (ap Ok c.volts_of.ensures)))
