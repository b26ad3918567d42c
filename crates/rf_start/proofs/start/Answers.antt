-- `rf_start::start` meets its contract: the mainboard halts it, the module is absent, or the trip levels and the channel follow. Assumes nothing.
use mathlib.Core.Path.{refl}
use Rattle.bus.proofs.Runs.{runs_then, runs_done, within, left, enough, rows, rows_left}
use Rattle.rf_call.specs.Calls.{or_halt}
use Rattle.rf_start.specs.Start.{if_present, starting}
use Rattle.rf_start.proofs.start.Goals as goal

pub halt-requires : goal.halt-requires
halt-requires c = rows_left c.prepare.ensures.run (rows c.requires tt)

pub find_module-requires : goal.find_module-requires
find_module-requires c = left c.prepare.ensures.run (enough c.requires tt)

pub settle-requires : goal.settle-requires
settle-requires c = left c.find_module.ensures.run (left c.prepare.ensures.run c.requires)

pub returns-in-Err-clause-run : goal.returns-in-Err-clause-run
unfolding starting or_halt
returns-in-Err-clause-run c = within (runs_then (or_halt _) c.prepare.ensures.run c.in-Err.is c.halt.ensures.run) tt

pub returns-in-Absent-clause-run : goal.returns-in-Absent-clause-run
unfolding starting or_halt if_present
returns-in-Absent-clause-run c = within (runs_then (or_halt _) c.prepare.ensures.run c.in-Ok.is (runs_then (if_present _) c.find_module.ensures.run c.in-Absent.is (runs_done refl))) tt

pub returns-in-Present-clause-run : goal.returns-in-Present-clause-run
unfolding starting or_halt if_present
returns-in-Present-clause-run c = runs_then (or_halt _) c.prepare.ensures.run c.in-Ok.is (runs_then (if_present _) c.find_module.ensures.run c.in-Present.is c.settle.ensures.run)
