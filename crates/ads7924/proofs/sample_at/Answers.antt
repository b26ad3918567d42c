-- `ads7924::sample_at` meets its contract: each transfer failed or did not, and each way out is the run that the definition has there. Assumes nothing.
use mathlib.Core.Path.{refl}
use Rattle.bus.proofs.Runs.{runs_lost, runs_got, runs_done, within, left, enough, erred}
use Rattle.ads7924.specs.Calls.{sample}
use Rattle.ads7924.proofs.sample_at.Goals as goal

pub returns-in_err-write_register-clause-run : goal.returns-in_err-write_register-clause-run
unfolding sample
returns-in_err-write_register-clause-run c = within (runs_lost _ _ c.write_register.ensures.run c.in_err-write_register.was (erred c.from_residual.ensures)) tt

pub read_registers-requires : goal.read_registers-requires
read_registers-requires c = left c.write_register.ensures.run (enough c.requires tt)

pub returns-in_err-data-clause-run : goal.returns-in_err-data-clause-run
unfolding sample
returns-in_err-data-clause-run c = within (
    runs_got _ _ c.write_register.ensures.run c.in_ok-write_register.was (
    runs_lost _ _ c.read_registers.ensures.run c.in_err-data.was (erred c.from_residual-in_err-data.ensures))) tt

pub write_register-requires-2 : goal.write_register-requires-2
write_register-requires-2 c = left c.read_registers.ensures.run (left c.write_register.ensures.run (enough c.requires tt))

pub returns-in_err-write_register-2-clause-run : goal.returns-in_err-write_register-2-clause-run
unfolding sample
returns-in_err-write_register-2-clause-run c = within (
    runs_got _ _ c.write_register.ensures.run c.in_ok-write_register.was (
    runs_got _ _ c.read_registers.ensures.run c.in_ok-data.was (
    runs_lost _ _ c.write_register-2.ensures.run c.in_err-write_register-2.was (erred c.from_residual-in_err-write_register-2.ensures)))) tt

pub write_register-requires-3 : goal.write_register-requires-3
write_register-requires-3 c = left c.write_register-2.ensures.run (left c.read_registers.ensures.run (left c.write_register.ensures.run c.requires))

pub returns-in_err-write_register-3-clause-run : goal.returns-in_err-write_register-3-clause-run
unfolding sample
returns-in_err-write_register-3-clause-run c =
    runs_got _ _ c.write_register.ensures.run c.in_ok-write_register.was (
    runs_got _ _ c.read_registers.ensures.run c.in_ok-data.was (
    runs_got _ _ c.write_register-2.ensures.run c.in_ok-write_register-2.was (
    runs_lost _ _ c.write_register-3.ensures.run c.in_err-write_register-3.was (erred c.from_residual-in_err-write_register-3.ensures))))

pub returns-clause-run : goal.returns-clause-run
unfolding sample
returns-clause-run c =
    runs_got _ _ c.write_register.ensures.run c.in_ok-write_register.was (
    runs_got _ _ c.read_registers.ensures.run c.in_ok-data.was (
    runs_got _ _ c.write_register-2.ensures.run c.in_ok-write_register-2.was (
    runs_got _ _ c.write_register-3.ensures.run c.in_ok-write_register-3.was (runs_done refl))))
