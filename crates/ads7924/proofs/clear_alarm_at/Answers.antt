-- `ads7924::clear_alarm_at` meets its contract: it is the transfer's run, with its answer turned into a mask. Assumes nothing.
use Rattle.bus.proofs.Runs.{runs_mapped, erred}
use Rattle.ads7924.specs.Calls.{alarm, clear_alarm}
use Rattle.ads7924.proofs.clear_alarm_at.Goals as goal

pub returns-in_err-alarm-clause-run : goal.returns-in_err-alarm-clause-run
unfolding clear_alarm
returns-in_err-alarm-clause-run c = runs_mapped alarm c.read_registers.ensures.run (rw c.in_err-alarm.was (erred c.from_residual.ensures))

pub returns-clause-run : goal.returns-clause-run
unfolding clear_alarm
returns-clause-run c = runs_mapped alarm c.read_registers.ensures.run (rw (c.in_ok-alarm.was, c.alarmed.ensures))
