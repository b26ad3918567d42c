-- The promise of `call_in_place` has one log, one number slice, one bay and one answer. It is stated of the clause itself, in every model of the logic: whoever has the promise twice, at two exits and two results, knows that they are the same. So code that left another bay behind would not meet it. Assumes nothing.
use mathlib.Core.Path.{◌≡◌, sym, ap, ◌∙◌}
use seplogic.Ra.Ura.{Ura}
use base.Logic.{SProp, ent, sep}
use prog.Memory.{Memory}
use prog.Routine.{Routine}
use types.Logic.{Logic}
use contract.Monad.{Fun, fact, fact_mono}
use contract.Lifetimes.{Lfts}
use denote.Triple.Entry.{Args, Res}
use denote.Triple.Clauses.{AtExit}
use denote.Triple.Walked.{needs}
use Rattle.slots.specs.declared.Bay.{Bay}
use Rattle.slot_call.specs.declared.Stepped.{Stepped}
use Rattle.slot_call.proofs.Laws.{steps_unique}
use Rattle.in_place.specs.contracts.call_in_place as own

-- bays that hold the same are the same
same_bay : {b b' : Bay} → b.slot ≡ b'.slot → b ≡ b'
same_bay e = λ i. record { slot = e i }

module _ {M : Type 1} {𝓤 : Ura M} (𝓛 : Logic 𝓤) (at_mem : Memory → SProp 𝓤) (run : Routine → Fun 𝓤) (κs : Lfts 4) (a : Args own.signature κs) where
  abbrev pub Promise : Res own.signature κs → AtExit own.ended κs → SProp 𝓤
  Promise r s = (own.clauses 𝓛 at_mem run κs a).ensures tt r s

  pub only : (r r' : Res own.signature κs) (s s' : AtExit own.ended κs) → ent 𝓤 (sep 𝓤 (Promise r s) (Promise r' s'))
      (fact 𝓤 ((s.1.0.now ≡ s'.1.0.now) × (s.1.1.1.0.now ≡ s'.1.1.1.0.now) × (s.0.now ≡ s'.0.now) × (r ≡ r')))
  only r r' s s' = needs 𝓤 _ _ (λ q. fact_mono 𝓤 _ _ (λ p. let e = steps_unique p.0 q.0 in (e.0, e.1, same_bay (p.1 ∙ ap (λ (z : Stepped). z.standing) e.2 ∙ sym q.1), e.2)))
