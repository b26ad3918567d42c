-- `rf_update::update` meets its contract: the fault stage, the trip stage and what is left, one after the other; a stage that stops halts. Assumes nothing.
use Rattle.bus.proofs.Runs.{runs_then, within, left, enough, rows, rows_left}
use Rattle.rf_update.specs.Update.{after_stage, updating}
use Rattle.rf_update.proofs.update.Goals as goal

pub halt-requires : goal.halt-requires
halt-requires c = rows_left c.fault_stage.ensures.run (rows c.requires tt)

pub trip_stage-requires : goal.trip_stage-requires
trip_stage-requires c = left c.fault_stage.ensures.run (enough c.requires tt)

pub halt-requires-in-Err-trip_stage : goal.halt-requires-in-Err-trip_stage
halt-requires-in-Err-trip_stage c = rows_left c.trip_stage.ensures.run (rows_left c.fault_stage.ensures.run (rows c.requires tt))

pub finish-requires : goal.finish-requires
finish-requires c = left c.trip_stage.ensures.run (left c.fault_stage.ensures.run c.requires)

pub returns-in-Err-clause-run : goal.returns-in-Err-clause-run
unfolding updating after_stage
returns-in-Err-clause-run c = within (runs_then (after_stage _) c.fault_stage.ensures.run c.in-Err.is c.halt.ensures.run) tt

pub returns-in-Err-trip_stage-clause-run : goal.returns-in-Err-trip_stage-clause-run
unfolding updating after_stage
returns-in-Err-trip_stage-clause-run c = within (runs_then (after_stage _) c.fault_stage.ensures.run c.in-Ok.is (runs_then (after_stage _) c.trip_stage.ensures.run c.in-Err-trip_stage.is c.halt-in-Err-trip_stage.ensures.run)) tt

pub returns-in-Ok-trip_stage-clause-run : goal.returns-in-Ok-trip_stage-clause-run
unfolding updating after_stage
returns-in-Ok-trip_stage-clause-run c = runs_then (after_stage _) c.fault_stage.ensures.run c.in-Ok.is (runs_then (after_stage _) c.trip_stage.ensures.run c.in-Ok-trip_stage.is c.finish.ensures.run)
