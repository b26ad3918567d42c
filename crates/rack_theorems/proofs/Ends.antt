-- A run that is answered 0, or that halts: before it anything may have been done, and a halt's last two rows set both pins low. The start, and all requests but a reset and new settings. Assumes nothing.
use Prim.Native.Nat.{ℕ}
use mathlib.Core.Path.{refl, ap, sym, ◌∙◌}
use mathlib.Core.Bool.{Bool}
use mathlib.Core.List.{List, [], ◌++◌, append_assoc}
use Rattle.std.specs.Prelude.{Option, None, Some, Result, Ok, Err}
use Rattle.bus.specs.Rows.{Row}
use Rattle.bus.specs.Run.{Run, done, bind, note}
use Rattle.rf_channel.specs.declared.ChannelSettings.{ChannelSettings}
use Rattle.rf_channel.specs.declared.Events.{Events}
use Rattle.rf_channel.specs.declared.RfChannel.{RfChannel}
use Rattle.rf_machine.specs.declared.Cause.{Cause}
use Rattle.rf_machine.specs.declared.Told.{Told}
use Rattle.rf_call.specs.declared.Answer.TheVariants.{Done, NoTransition, GuardFalse, Range, Chip}
use Rattle.rf_call.specs.declared.Givens.{Givens}
use Rattle.rf_call.specs.declared.Outcome.{Outcome}
use Rattle.rf_call.specs.declared.Outcome.TheVariants.{Live, Absent, Halted}
use Rattle.rf_call.specs.declared.Report.{Report}
use Rattle.rf_call.specs.Calls.{halting, or_halt, after_event, answering, quietly}
use Rattle.rf_update.specs.Update.{after_stage, finishing, updating}
use Rattle.rf_settings.specs.Settings.{on_follow}
use Rattle.rf_status.specs.declared.Detectors.{Detectors}
use Rattle.rf_status.specs.Status.{on_measures, getting_status}
use Rattle.rf_start.specs.declared.Presence.{Presence}
use Rattle.rf_start.specs.declared.Presence.TheVariants.{Present, Absent as NotThere}
use Rattle.rf_start.specs.Start.{settling, if_present, starting}
use Rattle.rack_theorems.specs.Demand1.{EndsLow}
use Rattle.rf_machine.proofs.Gives.{Gives, gives_any, gives_done, gives_bind}
use Rattle.rf_status.specs.declared.Numbers.{Numbers}

-- ---- a run that is answered 0, or is absent where X holds, or halts

unfoldable pub Ends : Type 0 → ℕ → List Row → Outcome → Type 0
Ends X n rows (Live c (Done report)) = Unit
Ends X n rows (Live c NoTransition) = ⊥
Ends X n rows (Live c GuardFalse) = ⊥
Ends X n rows (Live c Range) = ⊥
Ends X n rows (Live c Chip) = ⊥
Ends X n rows Absent = X
Ends X n rows (Halted cause) = EndsLow n rows

low_after : {n : ℕ} (xs : List Row) {ys : List Row} → EndsLow n ys → EndsLow n (xs ++ ys)
low_after xs l = record { earlier = xs ++ l.earlier; ends = ap (λ (z : List Row). xs ++ z) l.ends ∙ sym (append_assoc xs l.earlier _) }

module _ (X : Type 0) (n : ℕ) where
  pub ends_after : (xs ys : List Row) (o : Outcome) → Ends X n ys o → Ends X n (xs ++ ys) o
  unfolding Ends
  ends_after xs ys (Live c (Done report)) h = tt
  ends_after xs ys (Live c NoTransition) h = h
  ends_after xs ys (Live c GuardFalse) h = h
  ends_after xs ys (Live c Range) h = h
  ends_after xs ys (Live c Chip) h = h
  ends_after xs ys Absent h = h
  ends_after xs ys (Halted cause) h = low_after xs h

  -- whatever was done before
  ends_bind : {A : Type 0} (m : Run A) (k : A → Run Outcome) → ((a : A) → Gives n (k a) (Ends X n)) → Gives n (bind m k) (Ends X n)
  ends_bind m k f = gives_bind m k (gives_any m) (λ rows a u rs taken. record { holds = ends_after rows _ _ (f a rs taken).holds })

  pub ends_done : (c : RfChannel) (report : Report) → Gives n (done (Live c (Done report))) (Ends X n)
  unfolding Ends
  ends_done c report = gives_done _ tt

  pub ends_halting : (cause : Cause) → Gives n (halting cause) (Ends X n)
  unfolding halting Ends bind note done
  ends_halting cause rs taken = record { holds = record { earlier = []; ends = refl } }

  -- ---- events

  ends_event : (k : RfChannel → Told → Report) (x : Result (RfChannel × Told) Cause) → Gives n (after_event (λ c told. done (Live c (Done (k c told)))) x) (Ends X n)
  unfolding after_event
  ends_event k (Ok (c, told)) = ends_done c (k c told)
  ends_event k (Err cause) = ends_halting cause

  pub ends_quietly : (e : Events) (c : RfChannel) (g : Givens) → Gives n (quietly e c g) (Ends X n)
  unfolding quietly answering
  ends_quietly e c g = ends_bind _ _ (ends_event _)

  pub ends_follow : (c : RfChannel) (g : Givens) (x : Option Events) → Gives n (on_follow c g x) (Ends X n)
  unfolding on_follow
  ends_follow c g None = ends_done c _
  ends_follow c g (Some e) = ends_quietly e c g

  -- ---- the update

  ends_stage : (k : RfChannel → Run Outcome) → ((c : RfChannel) → Gives n (k c) (Ends X n)) → (x : Result RfChannel Cause) → Gives n (after_stage k x) (Ends X n)
  unfolding after_stage
  ends_stage k f (Ok c) = f c
  ends_stage k f (Err cause) = ends_halting cause

  ends_finishing : (g : Givens) (c : RfChannel) → Gives n (finishing g c) (Ends X n)
  unfolding finishing
  ends_finishing g c = ends_bind _ _ (ends_event _)

  pub ends_updating : (c : RfChannel) (g : Givens) → Gives n (updating c g) (Ends X n)
  unfolding updating
  ends_updating c g = ends_bind _ _ (ends_stage _ (λ x. ends_bind _ _ (ends_stage _ (ends_finishing g))))

  -- ---- the status

  ends_measures : (c : RfChannel) (g : Givens) (x : Result Numbers Cause) → Gives n (on_measures c g x) (Ends X n)
  unfolding on_measures
  ends_measures c g (Ok m) = ends_done _ _
  ends_measures c g (Err cause) = ends_halting cause

  pub ends_status : (c : RfChannel) (d : Detectors) (g : Givens) → Gives n (getting_status c d g) (Ends X n)
  unfolding getting_status
  ends_status c d g = ends_bind _ _ (ends_measures c g)

  -- ---- the start

  ends_effect : (k : Run Outcome) → Gives n k (Ends X n) → (x : Result (Unit {0}) Cause) → Gives n (or_halt k x) (Ends X n)
  unfolding or_halt
  ends_effect k h (Ok tt) = h
  ends_effect k h (Err cause) = ends_halting cause

  ends_present : X → (k : Run Outcome) → Gives n k (Ends X n) → (x : Presence) → Gives n (if_present k x) (Ends X n)
  unfolding if_present Ends
  ends_present may k h Present = h
  ends_present may k h NotThere = gives_done _ may

  pub ends_starting : X → (s : ChannelSettings) (present : Bool) → Gives n (starting s present) (Ends X n)
  unfolding starting settling
  ends_starting may s present = ends_bind _ _ (ends_effect _ (ends_bind _ _ (ends_present may _ (ends_bind _ _ (ends_effect _ (ends_done _ _))))))
