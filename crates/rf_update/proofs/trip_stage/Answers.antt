-- `rf_update::trip_stage` meets its contract: an enabled channel's power is read, and no reading, no overdrive and an overdrive each end as the definition says; any other channel is left as it is. Assumes nothing.
use mathlib.Core.Path.{refl}
use Rattle.bus.proofs.Runs.{runs_then, runs_done, within, left, erred}
use Rattle.rf_update.specs.Update.{on_overdrive, on_power, trip_stage}
use Rattle.rf_update.proofs.trip_stage.Goals as goal

pub returns-in_err-dbm-clause-run : goal.returns-in_err-dbm-clause-run
unfolding trip_stage on_power
returns-in_err-dbm-clause-run c = rw (← c.state_is_enabled-enabled.ensures, c.if-enabled.true) (within (runs_then (on_power _ _) c.get_input_power.ensures.run c.in_err-dbm.was (runs_done (erred c.from_residual.ensures))) tt)

pub raise-requires : goal.raise-requires
raise-requires c = left c.get_input_power.ensures.run c.requires

pub returns-in-None-clause-run : goal.returns-in-None-clause-run
unfolding trip_stage on_power on_overdrive
returns-in-None-clause-run c = rw (← c.state_is_enabled-enabled.ensures, c.if-enabled.true) (within (runs_then {n' = 0} {t' = 0} (on_power _ _) c.get_input_power.ensures.run c.in_ok-dbm.was (rw (← c.get_overdrive_source.ensures, c.in-None.is) (runs_done refl))) tt)

pub returns-in-Some-clause-run : goal.returns-in-Some-clause-run
unfolding trip_stage on_power on_overdrive
returns-in-Some-clause-run c = rw (← c.state_is_enabled-enabled.ensures, c.if-enabled.true) (runs_then {n' = 3} {t' = 1} (on_power _ _) c.get_input_power.ensures.run c.in_ok-dbm.was (rw (← c.get_overdrive_source.ensures, c.in-Some.is) c.raise.ensures.run))

pub returns-else-enabled-clause-run : goal.returns-else-enabled-clause-run
unfolding trip_stage
returns-else-enabled-clause-run c = rw (← c.state_is_enabled-enabled.ensures, c.if-enabled.false) (within (runs_done refl) tt)
