-- One call, seen from one slot: what a call that is let in keeps true of its own slot, every call keeps true of the slot, with the rows of the slot alone. A call that is refused changes nothing, and one to another slot leaves the slot and adds no row of it. Assumes nothing.
use Rattle.std.specs.Prelude.{Result, Ok, Err}
use Prim.Native.Nat.{ℕ, ◌<◌}
use mathlib.Core.Path.{◌≡◌, refl, sym, ap, ◌∙◌}
use mathlib.Core.Bool.{Bool, true, false, cond}
use mathlib.Core.List.{List, [], ◌∷◌, ◌++◌}
use lib.Dec.{eqb}
use lib.ListN.{length, get_or-replicate}
use borrow.Author.Tests.{eqb-true, eqb-false, eq-eqb, ne_eqb, lt-leb}
use Rattle.bus.specs.Rows.{Row}
use Rattle.rf_channel.specs.declared.ChannelSettings.{ChannelSettings}
use Rattle.rf_channel.specs.declared.Events.{Events}
use Rattle.rf_channel.specs.declared.Plan.{Plan}
use Rattle.rf_channel.specs.declared.Plan.TheVariants.{NoTransition, GuardFalse, Go}
use Rattle.rf_channel.specs.declared.RfChannel.{RfChannel}
use Rattle.rf_machine.specs.declared.Cause.{Cause}
use Rattle.rf_machine.specs.Event.{process_event}
use Rattle.rf_call.specs.declared.Givens.{Givens}
use Rattle.rf_call.specs.declared.Outcome.{Outcome}
use Rattle.rf_call.specs.declared.Outcome.TheVariants as O
use Rattle.rf_call.specs.declared.Slot.{Slot}
use Rattle.rf_call.specs.declared.Slot.TheVariants as S
use Rattle.rf_call.specs.Outcome.{slot_of}
use Rattle.rf_changes.specs.Changes.{stored}
use Rattle.rf_start.specs.Start.{fresh}
use Rattle.rf_calls.specs.declared.Request.{Request}
use Rattle.rf_theorems.specs.Pins.{Levels, low, levels_after, slot_of_row, Own}
use Rattle.rf_theorems.proofs.Keeps.{Keeps, keeps_more}
use Rattle.rf_theorems.proofs.Rule.{Walked, Leads, keeps_carry}
use Rattle.rf_theorems.proofs.Calls.{Ends, keeps_requested}
use Rattle.rf_theorems.proofs.Start.{Starts, keeps_starting}
use Rattle.entry.specs.declared.Admitted.{Admitted}
use Rattle.entry.specs.declared.Admitted.TheVariants.{Start, Ask}
use Rattle.entry.specs.Tests.{free_rows, entry_of}
use Rattle.entry.proofs.Laws.{entered}
use Rattle.slots.specs.declared.Rack.{Rack}
use Rattle.slots.specs.Slots.{empty_bay, empty_rack, slot_at, put_at}
use Rattle.slots.proofs.Laws.{put_here, put_there, put_length, put_same}
use Rattle.slot_call.specs.Step.{acts, through, stepped}
use Rattle.rack_call.specs.Calls.{called}
use Rattle.rack_theorems.specs.History.{Asked, on, of_slot, Eight}
use Rattle.rack_theorems.proofs.Found.{Finds}
use Rattle.entry.specs.declared.Refusal.{Refusal}

-- ---- a call that is let in

-- J speaks of the levels that the rows say and of what stands in the slot; it holds after a halt, which leaves both pins low
module _ (J : Levels → Slot → Type 0) (halted : (q : Levels) (cause : Cause) → q ≡ low → J q (S.Halted cause)) where
  abbrev OfChannel : Levels → RfChannel → Type 0
  OfChannel q c = J q (S.Channel c)

  ended : (q : Levels) (x : Outcome) → Ends OfChannel q x → J q (slot_of x)
  unfolding Ends
  ended q (O.Live c answer) h = h
  ended q O.Absent h = absurd h
  ended q (O.Halted cause) h = halted q cause h

  -- a request
  pub keeps_ask : (g : Givens)
      → ((p : Levels) (c : RfChannel) (e : Events) → J p (S.Channel c) → Keeps p (process_event c e g.tick g.watchdog) (Walked (λ q c'. J q (S.Channel c'))))
      → ((p : Levels) (c : RfChannel) (s : ChannelSettings) → J p (S.Channel c) → J p (S.Channel (stored c s)))
      → (p : Levels) (c : RfChannel) (r : Request) → J p (S.Channel c) → Keeps p (acts (Ask c r g)) (λ q x. J q (slot_of x))
  unfolding acts
  keeps_ask g events stores p c r h = keeps_more (keeps_requested OfChannel g events stores p c r h) ended

  started : (s : ChannelSettings) → ((q : Levels) → J q S.Empty) → J low (S.Channel (fresh s)) → (q : Levels) (x : Outcome) → Starts s q x → J q (slot_of x)
  unfolding Starts
  started s empty first q (O.Live c answer) h = rw (h.0, h.1) first
  started s empty first q O.Absent h = empty q
  started s empty first q (O.Halted cause) h = halted q cause h

  -- a start
  pub keeps_start : (settings : ChannelSettings) → ((q : Levels) → J q S.Empty) → J low (S.Channel (fresh settings)) → (p : Levels) (present : Bool) → Keeps p (acts (Start settings present)) (λ q x. J q (slot_of x))
  unfolding acts
  keeps_start settings empty first p present = keeps_more (keeps_starting p settings present) (started settings empty first)

-- ---- all rows of a call are of its slot

anywhere : (p : Levels) (c : RfChannel) (plan : Plan) → Leads (λ q c'. Unit) p c plan
unfolding Leads
anywhere p c NoTransition = tt
anywhere p c GuardFalse = tt
anywhere p c (Go action state) = tt

pub any_event : (g : Givens) (p : Levels) (c : RfChannel) (e : Events) → Unit {0} → Keeps p (process_event c e g.tick g.watchdog) (Walked (λ q c'. Unit))
unfolding process_event
any_event g p c e h = keeps_carry (λ q c'. Unit) p c _ (anywhere p c _) h

any_acts : (b : Admitted) → Keeps low (acts b) (λ q x. Unit)
any_acts (Start settings present) = keeps_start (λ q t. Unit) (λ q cause h. tt) settings (λ q. tt) tt low present
any_acts (Ask c r g) = keeps_ask (λ q t. Unit) (λ q cause h. tt) g (any_event g) (λ p c t h. h) low c r tt

pub own_rows : (b : Admitted) (replies : List ℕ) (n taken : ℕ) → Own n (acts b replies n taken).rows
own_rows b replies n taken = (any_acts b replies n taken).own

-- ---- the rows of one slot

pub of_append : (n : ℕ) (xs ys : List Row) → of_slot n (xs ++ ys) ≡ of_slot n xs ++ of_slot n ys
unfolding of_slot
of_append n [] ys = refl
of_append n (x ∷ xs) ys = go (eqb (slot_of_row x) n) (of_append n xs ys)
  where
    go : (b : Bool) → of_slot n (xs ++ ys) ≡ of_slot n xs ++ of_slot n ys → cond b (x ∷ of_slot n (xs ++ ys)) (of_slot n (xs ++ ys)) ≡ cond b (x ∷ of_slot n xs) (of_slot n xs) ++ of_slot n ys
    go true h = ap (λ (zs : List Row). x ∷ zs) h
    go false h = h

pub of_own : (n : ℕ) (xs : List Row) → Own n xs → of_slot n xs ≡ xs
unfolding of_slot Own
of_own n [] o = refl
of_own n (x ∷ xs) o = rw (eq-eqb (slot_of_row x) n o.0, of_own n xs o.1)

pub of_other : (n m : ℕ) (xs : List Row) → (m ≡ n → ⊥) → Own m xs → of_slot n xs ≡ []
unfolding of_slot Own
of_other n m [] d o = refl
of_other n m (x ∷ xs) d o = rw (ne_eqb (slot_of_row x) n (λ e. d (sym o.0 ∙ e)), of_other n m xs d o.1)

-- ---- any call

-- how what stands in slot n is entered
abbrev pub entry : Slot → ℕ → Asked → Result Admitted Refusal
entry s n a = entry_of n s a.call (free_rows a.used (length a.log)) (length a.replies) (length a.numbers)

-- what is let in has found what it is for
pub let_in : (s : Slot) (n : ℕ) (a : Asked) (b : Admitted) → entry s n a ≡ Ok b → (n < 8) × Finds s a.call b
let_in s n a b o = let p = entered n s a.call (free_rows a.used (length a.log)) (length a.replies) (length a.numbers) o in (p.0, p.2)

pub eight_kept : (rack : Rack) (a : Asked) → Eight rack → Eight (on rack a).rack
unfolding called
eight_kept rack a eight = put_length rack a.slot _ ∙ eight

-- all rows that a call adds are of the slot that it names
pub own_added : (rack : Rack) (a : Asked) → Own a.slot (on rack a).rows
unfolding called stepped Own
own_added rack a = go (entry (slot_at rack a.slot) a.slot a)
  where
    go : (e : Result Admitted Refusal) → Own a.slot (through e a.slot (slot_at rack a.slot) a.replies a.numbers).rows
    go (Err refusal) = tt
    go (Ok b) = own_rows b a.replies a.slot 0

-- J holds in slot n, where the levels are p
module _ (rack : Rack) (eight : Eight rack) (n : ℕ) (inside : n < 8) (J : Levels → Slot → Type 0) (p : Levels) (a : Asked) (stands : J p (slot_at rack n)) where
  -- what is let in keeps it
  abbrev Keep : Type 0
  Keep = (b : Admitted) → Finds (slot_at rack n) a.call b → Keeps p (acts b) (λ q x. J q (slot_of x))

  -- a call to slot n itself
  here : Keep → (e : Result Admitted Refusal) → entry (slot_at rack n) n a ≡ e → let x = through e n (slot_at rack n) a.replies a.numbers in J (levels_after p (of_slot n x.rows)) (slot_at (put_at rack n x.standing) n)
  unfolding levels_after of_slot
  here k (Err refusal) o = rw (put_same rack n) stands
  here k (Ok b) o =
      let x = acts b a.replies n 0 in
      let y = k b (let_in (slot_at rack n) n a b o).1 a.replies n 0 in
      rw (of_own n x.rows y.own, put_here rack n (slot_of x.ans) inside eight) y.holds

  at_once : Keep → J (levels_after p (of_slot n (called rack n a.call (free_rows a.used (length a.log)) a.replies a.numbers).rows)) (slot_at (called rack n a.call (free_rows a.used (length a.log)) a.replies a.numbers).rack n)
  unfolding called stepped
  at_once k = here k (entry (slot_at rack n) n a) refl

  -- a call to another slot
  there : (a.slot ≡ n → ⊥) → J (levels_after p (of_slot n (on rack a).rows)) (slot_at (on rack a).rack n)
  unfolding levels_after called
  there d = rw (of_other n a.slot (on rack a).rows d (own_added rack a), put_there rack a.slot _ n (λ e. d (sym e))) stands

  pub seen : Keep → J (levels_after p (of_slot n (on rack a).rows)) (slot_at (on rack a).rack n)
  seen k = go (eqb a.slot n) refl
    where
      go : (b : Bool) → eqb a.slot n ≡ b → J (levels_after p (of_slot n (on rack a).rows)) (slot_at (on rack a).rack n)
      go true e = rw (eqb-true a.slot n e) (at_once k)
      go false e = there (eqb-false a.slot n e)

-- ---- the first rack

pub first_empty : (n : ℕ) → n < 8 → slot_at empty_rack n ≡ S.Empty
first_empty n inside = rw (lt-leb 8 n inside, get_or-replicate 8 n empty_bay empty_bay inside)
