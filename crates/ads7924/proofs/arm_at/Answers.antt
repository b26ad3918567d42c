-- `ads7924::arm_at` meets its contract: each transfer failed or did not, and each way out is the run that the definition has there. Assumes nothing.
use mathlib.Core.Path.{refl}
use Rattle.bus.proofs.Runs.{runs_lost, runs_got, runs_done, within, left, enough, erred}
use Rattle.ads7924.specs.Calls.{arm}
use Rattle.ads7924.proofs.arm_at.Goals as goal

pub returns-in_err-transfer-clause-run : goal.returns-in_err-transfer-clause-run
unfolding arm
returns-in_err-transfer-clause-run c = rw (← c.command_of.ensures) (within (runs_lost _ _ c.transfer.ensures.run c.in_err-transfer.was (erred c.from_residual.ensures)) tt)

pub read_registers-requires : goal.read_registers-requires
read_registers-requires c = left c.transfer.ensures.run (enough c.requires tt)

pub returns-in_err-data-clause-run : goal.returns-in_err-data-clause-run
unfolding arm
returns-in_err-data-clause-run c = rw (← c.command_of.ensures) (within (
    runs_got _ _ c.transfer.ensures.run c.in_ok-transfer.was (
    runs_lost _ _ c.read_registers.ensures.run c.in_err-data.was (erred c.from_residual-in_err-data.ensures))) tt)

pub write_register-requires : goal.write_register-requires
write_register-requires c = left c.read_registers.ensures.run (left c.transfer.ensures.run c.requires)

pub returns-in_err-write_register-clause-run : goal.returns-in_err-write_register-clause-run
unfolding arm
returns-in_err-write_register-clause-run c = rw (← c.command_of.ensures) (
    runs_got _ _ c.transfer.ensures.run c.in_ok-transfer.was (
    runs_got _ _ c.read_registers.ensures.run c.in_ok-data.was (
    runs_lost _ _ (rw c.enable.ensures at c.write_register.ensures.run) c.in_err-write_register.was (erred c.from_residual-in_err-write_register.ensures))))

pub returns-clause-run : goal.returns-clause-run
unfolding arm
returns-clause-run c = rw (← c.command_of.ensures) (
    runs_got _ _ c.transfer.ensures.run c.in_ok-transfer.was (
    runs_got _ _ c.read_registers.ensures.run c.in_ok-data.was (
    runs_got _ _ (rw c.enable.ensures at c.write_register.ensures.run) c.in_ok-write_register.was (runs_done refl))))
