-- `rf_start::check_monitor` meets its contract: the opening stops it, the voltage stops it, or the alarm says how it ends. Assumes nothing.
use mathlib.Core.Path.{refl, sym, ap}
use Rattle.bus.proofs.Runs.{runs_mapped, within, left, enough, erred}
use Rattle.rf_machine.proofs.Laws.{runs_stop, runs_did}
use Rattle.rf_start.specs.Start.{ready, heard, monitor}
use Rattle.rf_start.proofs.check_monitor.Goals as goal

pub returns-in_err-default_at-clause-run : goal.returns-in_err-default_at-clause-run
unfolding monitor
returns-in_err-default_at-clause-run c = within (runs_stop _ (runs_mapped ready c.default_at.ensures.run (sym (ap ready c.in_err-default_at.was))) refl (erred c.from_residual.ensures)) tt

pub get_voltage_at-requires : goal.get_voltage_at-requires
get_voltage_at-requires c = left c.default_at.ensures.run (enough c.requires tt)

pub returns-in_err-get_voltage_at-clause-run : goal.returns-in_err-get_voltage_at-clause-run
unfolding monitor
returns-in_err-get_voltage_at-clause-run c = within (runs_did _ (runs_mapped ready c.default_at.ensures.run (sym (ap ready c.in_ok-default_at.was))) refl (runs_stop _ (runs_mapped heard c.get_voltage_at.ensures.run (sym (ap heard c.in_err-get_voltage_at.was))) refl (erred c.from_residual-in_err-get_voltage_at.ensures))) tt

pub clear_alarm_at-alarm-requires : goal.clear_alarm_at-alarm-requires
clear_alarm_at-alarm-requires c = left c.get_voltage_at.ensures.run (left c.default_at.ensures.run c.requires)

pub returns-clause-run : goal.returns-clause-run
unfolding monitor
returns-clause-run c = runs_did _ (runs_mapped ready c.default_at.ensures.run (sym (ap ready c.in_ok-default_at.was))) refl (runs_did _ (runs_mapped heard c.get_voltage_at.ensures.run (sym (ap heard c.in_ok-get_voltage_at.was))) refl (runs_mapped _ c.clear_alarm_at-alarm.ensures.run c.quiet.ensures))
