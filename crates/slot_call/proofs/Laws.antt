-- What is refused changes nothing (`steps_shut`), and what is let in is the run (`steps_open`). A promise of this form fixes all (`steps_unique`). Assumes nothing.
use Rattle.std.specs.Prelude.{Ok, Err}
use Prim.Native.Nat.{ℕ}
use native.Mathlib.Omega.{arith}
use mathlib.Core.Path.{◌≡◌, refl, sym, ap, ◌∙◌}
use mathlib.Core.List.{List}
use lib.Dec.{lit≤}
use lib.ListN.{length}
use lib.Ieee.{Float}
use Rattle.bus.specs.declared.Bus.{Bus}
use Rattle.bus.specs.declared.Cursor.{Cursor}
use Rattle.bus.specs.Rows.{written}
use Rattle.bus.specs.Run.{Runs}
use Rattle.gate.specs.Gate.{start}
use Rattle.rf_call.specs.declared.Outcome.{Outcome}
use Rattle.rf_call.specs.declared.Slot.{Slot}
use Rattle.rf_call.specs.Outcome.{slot_of}
use Rattle.entry.specs.declared.Admitted.{Admitted}
use Rattle.entry.specs.declared.Call.{Call}
use Rattle.entry.specs.declared.Refusal.{Refusal}
use Rattle.entry.specs.Tests.{free_rows, entry_of}
use Rattle.slots.specs.declared.Verdict.TheVariants.{Refused}
use Rattle.slots.specs.Slots.{verdict_of, said_of}
use Rattle.slots.proofs.Laws.{said_once}
use Rattle.slot_call.specs.declared.Stepped.{Stepped}
use Rattle.slot_call.specs.Step.{After, acts, shown_to, stepped, Steps}

module _ (n : ℕ) (s : Slot) (call : Call) (u : ℕ) (l rs : List ℕ) (ns : List Float) {t : Stepped} where
  pub steps_shut : {refusal : Refusal} → Err refusal ≡ entry_of n s call (free_rows u (length l)) (length rs) (length ns) → t ≡ record { standing = s; verdict = Refused refusal; used = u }
      → Steps (stepped n s call (free_rows u (length l)) rs ns) u l t l ns
  unfolding stepped written
  steps_shut e h = rw (← e, h) (record { standing = refl; said = refl; used = omega arith; log = refl; numbers = refl; rows = lit≤ tt })

  -- `back` is what comes back of the log that the bus was lent: what the bus leaves, as long as it is that log that the bus holds
  pub steps_open : {a : Admitted} {i : ℕ} {b b' : Bus} {ns' : List Float} {x : Outcome} (back : (z : List ℕ) × (length z ≡ length l × (i ≡ b'.log.ghost_name → z ≡ b'.log.now)))
      → Ok a ≡ entry_of n s call (free_rows u (length l)) (length rs) (length ns) → b.at ≡ start n u → b.log.now ≡ l → b.replies.now ≡ rs → b'.log.ghost_name ≡ i
      → Runs (acts a) b 20 15 b' x → ns' ≡ shown_to a rs n 0 ns → (t.standing ≡ slot_of x) × (t.verdict ≡ verdict_of x) × (t.used ≡ b'.at.used)
      → Steps (stepped n s call (free_rows u (length l)) rs ns) u l t back.0 ns'
  unfolding stepped
  steps_open back e at_start f g h run w k =
      let d = rw (at_start, f, g) at run.does in
      rw (← e)
      (record {
        standing = rw (sym d.ans) k.0;
        said = rw (sym d.ans) (ap said_of k.1);
        used = k.2 ∙ ap (λ (z : Cursor). z.used) d.next;
        log = back.1.1 (sym h) ∙ d.log;
        numbers = w;
        rows = d.rows;
      })

pub steps_unique : {x : After} {u : ℕ} {l l' l'' : List ℕ} {f' f'' : List Float} {t t' : Stepped} → Steps x u l t l' f' → Steps x u l t' l'' f'' → (l' ≡ l'') × (f' ≡ f'') × (t ≡ t')
steps_unique {t = t} {t' = t'} d e = (d.log ∙ sym e.log, d.numbers ∙ sym e.numbers, λ i. record { standing = (d.standing ∙ sym e.standing) i; verdict = said_once t.verdict t'.verdict (d.said ∙ sym e.said) i; used = (d.used ∙ sym e.used) i })
