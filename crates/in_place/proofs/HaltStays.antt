-- A halt is kept in a bay that is lent, said of the promise of `call_in_place` itself, in every model of the logic: where it answers 14 with a cause, the bay at exit holds the halt with that cause, and every request of what it holds is answered 3. Assumes nothing.
use mathlib.Core.Path.{◌≡◌}
use seplogic.Ra.Ura.{Ura}
use base.Logic.{SProp, ent}
use prog.Memory.{Memory}
use prog.Routine.{Routine}
use types.Logic.{Logic}
use contract.Monad.{Fun, fact, fact_mono}
use contract.Lifetimes.{Lfts}
use denote.Triple.Entry.{Args, Res}
use denote.Triple.Clauses.{AtExit}
use Rattle.rf_machine.specs.declared.Cause.{Cause}
use Rattle.rf_call.specs.declared.Slot.TheVariants as S
use Rattle.slots.specs.declared.Verdict.TheVariants.{Halted}
use Rattle.slot_call.specs.HaltStays.{AnswersThree}
use Rattle.slot_call.proofs.HaltStays.{halt_stays_in_bay}
use Rattle.in_place.specs.contracts.call_in_place as own
use Rattle.in_place.proofs.Only.{Promise}

module _ {M : Type 1} {𝓤 : Ura M} (𝓛 : Logic 𝓤) (at_mem : Memory → SProp 𝓤) (run : Routine → Fun 𝓤) (κs : Lfts 4) (a : Args own.signature κs) where
  pub halt_kept : (r : Res own.signature κs) (s : AtExit own.ended κs) (cause : Cause) → r.verdict ≡ Halted cause
      → ent 𝓤 (Promise 𝓛 at_mem run κs a r s) (fact 𝓤 ((s.0.now.slot ≡ S.Halted cause) × AnswersThree s.0.now.slot))
  halt_kept r s cause h = fact_mono 𝓤 _ _ (λ p. halt_stays_in_bay _ a.0.now s.0.now _ _ _ _ _ r _ _ cause p.0 p.1 h)
