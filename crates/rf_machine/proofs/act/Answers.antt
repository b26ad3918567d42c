-- `rf_machine::act` meets its contract: each action is the run that the definition has for it. Assumes nothing.
use mathlib.Core.Logic.{inl, inr}
use mathlib.Core.Path.{refl}
use Rattle.bus.proofs.Runs.{runs_done, within}
use Rattle.rf_machine.specs.Hardware.{disable_rf_switch, hardware}
use Rattle.rf_machine.proofs.Laws.{runs_pin}
use Rattle.rf_machine.proofs.act.Goals as goal

pub returns-in-Nothing-clause-run : goal.returns-in-Nothing-clause-run
unfolding hardware
returns-in-Nothing-clause-run c = rw c.in-Nothing.is (within (runs_done refl) tt)

pub returns-in-StartPowerup-clause-run : goal.returns-in-StartPowerup-clause-run
unfolding hardware
returns-in-StartPowerup-clause-run c = rw c.in-StartPowerup.is (within c.start_powerup.ensures.run tt)

pub returns-in-ResetInterlocks-clause-run : goal.returns-in-ResetInterlocks-clause-run
unfolding hardware
returns-in-ResetInterlocks-clause-run c = rw c.in-ResetInterlocks.is (within c.reset_interlocks.ensures.run tt)

pub returns-in-EnableOutput-clause-run : goal.returns-in-EnableOutput-clause-run
unfolding hardware
returns-in-EnableOutput-clause-run c = rw c.in-EnableOutput.is (within c.enable_output.ensures.run tt)

pub returns-in-StartDisable-clause-run : goal.returns-in-StartDisable-clause-run
unfolding hardware
returns-in-StartDisable-clause-run c = elim c.in-StartDisable.is [ inl e ↦ rw e c.start_disable.ensures.run | inr e ↦ rw e c.start_disable.ensures.run ]

pub returns-in-HandleTrip-clause-run : goal.returns-in-HandleTrip-clause-run
unfolding hardware disable_rf_switch
returns-in-HandleTrip-clause-run c = elim c.in-HandleTrip.is [ inl e ↦ rw e (within (runs_pin _ c.note.ensures.run) tt) | inr e ↦ rw e (within (runs_pin _ c.note.ensures.run) tt) ]
