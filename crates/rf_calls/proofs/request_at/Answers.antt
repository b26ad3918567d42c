-- `rf_calls::request_at` meets its contract: each request is its call, and only a status has numbers to show. Assumes nothing.
use Rattle.bus.proofs.Runs.{within}
use Rattle.rf_calls.specs.Requests.{requested}
use Rattle.rf_calls.proofs.request_at.Goals as goal

pub returns-in-Startup-clause-run : goal.returns-in-Startup-clause-run
unfolding requested
returns-in-Startup-clause-run c = rw c.in-Startup.is (within c.handle_startup.ensures.run tt)

pub returns-in-Update-clause-run : goal.returns-in-Update-clause-run
unfolding requested
returns-in-Update-clause-run c = rw c.in-Update.is (within c.update.ensures.run tt)

pub returns-in-Reset-clause-run : goal.returns-in-Reset-clause-run
unfolding requested
returns-in-Reset-clause-run c = rw c.in-Reset.is (within c.interlock_reset.ensures.run tt)

pub returns-in-Standby-clause-run : goal.returns-in-Standby-clause-run
unfolding requested
returns-in-Standby-clause-run c = rw c.in-Standby.is (within c.standby.ensures.run tt)

pub returns-in-Settings-clause-run : goal.returns-in-Settings-clause-run
unfolding requested
returns-in-Settings-clause-run c = rw c.in-Settings.is (within c.handle_settings.ensures.run tt)

pub returns-in-Status-clause-run : goal.returns-in-Status-clause-run
unfolding requested
returns-in-Status-clause-run c = rw c.in-Status.is (within c.get_status.ensures.run tt)
