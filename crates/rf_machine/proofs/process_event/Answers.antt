-- `rf_machine::process_event` meets its contract: the plan has nothing to do, or its action is done or stops, and each way out is the run that the definition has there. Assumes nothing.
use mathlib.Core.Path.{refl, sym, ap, ◌∙◌}
use Rattle.std.specs.Prelude.{Ok}
use Rattle.bus.proofs.Runs.{runs_mapped, runs_done, within, erred}
use Rattle.rf_machine.specs.declared.Told.TheVariants.{Moved}
use Rattle.rf_machine.specs.Event.{arrived, carry, process_event}
use Rattle.rf_machine.proofs.process_event.Goals as goal

pub returns-in-NoTransition-clause-run : goal.returns-in-NoTransition-clause-run
unfolding process_event carry
returns-in-NoTransition-clause-run c = rw (← c.in-NoTransition.ensures) (within (runs_done refl) tt)

pub returns-in-GuardFalse-clause-run : goal.returns-in-GuardFalse-clause-run
unfolding process_event carry
returns-in-GuardFalse-clause-run c = rw (← c.in-GuardFalse.ensures) (within (runs_done refl) tt)

pub returns-in_err-act-in-Go-clause-run : goal.returns-in_err-act-in-Go-clause-run
unfolding process_event carry
returns-in_err-act-in-Go-clause-run c = let w = arrived c.args.channel c.in-Go.action c.in-Go.state in rw (← c.in-Go.ensures) (runs_mapped w c.act.ensures.run (erred c.from_residual.ensures ∙ sym (ap w c.in_err-act-in-Go.was)))

pub returns-in_ok-act-in-Go-clause-run : goal.returns-in_ok-act-in-Go-clause-run
unfolding process_event carry
returns-in_ok-act-in-Go-clause-run c = let w = arrived c.args.channel c.in-Go.action c.in-Go.state in rw (← c.in-Go.ensures) (runs_mapped w c.act.ensures.run (ap (λ x. Ok (x, Moved)) c.arrive.ensures ∙ sym (ap w c.in_ok-act-in-Go.was)))
