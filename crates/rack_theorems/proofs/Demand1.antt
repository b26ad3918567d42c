-- The first demand (`demand_1`), from what one call leaves (`right`); and in numbers (`nothing_changed`). Assumes nothing.
use Rattle.std.specs.Prelude.{Result, Ok, Err}
use Prim.Native.Nat.{◌≤◌, ◌<◌}
use native.Mathlib.Omega.{arith}
use mathlib.Core.Path.{◌≡◌, refl, ap, sym, ◌∙◌}
use mathlib.Core.List.{List, [], ◌∷◌}
use lib.Dec.{lit≤}
use lib.Ieee.{Float}
use Rattle.bus.specs.Rows.{Row, written}
use Rattle.bus.proofs.Log.{length_written, written_outside}
use Rattle.rf_theorems.specs.Pins.{Own}
use Rattle.rf_channel.specs.declared.RfChannel.{RfChannel}
use Rattle.rf_call.specs.declared.Answer.TheVariants.{Done, NoTransition, GuardFalse, Range, Chip}
use Rattle.rf_call.specs.declared.Outcome.{Outcome}
use Rattle.rf_call.specs.declared.Outcome.TheVariants.{Live, Absent, Halted}
use Rattle.rf_call.specs.declared.Slot.{Slot}
use Rattle.rf_call.specs.declared.Slot.TheVariants as S
use Rattle.rf_call.specs.Outcome.{slot_of}
use Rattle.slots.specs.declared.Rack.{Rack}
use Rattle.slots.specs.declared.Verdict.{Verdict}
use Rattle.slots.specs.declared.Verdict.TheVariants as Said
use Rattle.slots.specs.Slots.{slot_at, put_at, verdict_of, number_of}
use Rattle.slots.proofs.Laws.{put_length, put_there, put_here, put_same}
use Rattle.slot_call.specs.Step.{acts, shown_to, through, stepped}
use Rattle.rack_call.specs.Calls.{Left, in_rack, called}
use Rattle.rack_theorems.specs.History.{Asked, on, Eight}
use Rattle.rack_theorems.specs.Demand1.{Unchanged, Stored, SaysLow, LeftBy, Right, Each, Demand1, NothingChanged}
use Rattle.rack_theorems.proofs.Seen.{entry, let_in, own_rows}
use Rattle.rack_theorems.proofs.Answers.{Untouched, Kept, Acted, acts_gives, absent_low, NotDone, shown_stays}
use Rattle.rack_theorems.proofs.Bounds.{acts_at_most}
use Rattle.entry.specs.declared.Admitted.{Admitted}
use Rattle.entry.specs.declared.Refusal.{Refusal}

module _ (rack : Rack) (a : Asked) (eight : Eight rack) where
  abbrev before : Slot
  before = slot_at rack a.slot

  -- ---- a call that is let in

  -- the slot is what the run left of it
  abbrev left : Outcome → List Row → List Float → Left
  left o rows numbers = record { rack = put_at rack a.slot (slot_of o); verdict = verdict_of o; rows = rows; numbers = numbers }

  module _ (inside : a.slot < 8) (rows : List Row) (numbers : List Float) where
    here : (s : Slot) → slot_at (put_at rack a.slot s) a.slot ≡ s
    here s = put_here rack a.slot s inside eight

    -- no row, and what stood there put back
    untouched : (o : Outcome) (c : RfChannel) → slot_of o ≡ S.Channel c → Untouched before rows c → numbers ≡ a.numbers → Unchanged rack a (left o rows numbers)
    unfolding written
    untouched o c e u h =
        record {
          rack_stays = ap (put_at rack a.slot) (e ∙ sym u.stays) ∙ put_same rack a.slot;
          log_stays = rw u.none;
          count_stays = rw u.none (omega arith);
          numbers_stay = h;
        }

    stored_by : (o : Outcome) (c : RfChannel) → slot_of o ≡ S.Channel c → Kept before a.call rows c → numbers ≡ a.numbers → Stored rack a (left o rows numbers)
    stored_by o c e k h =
        record {
          channel = k.channel;
          settings = k.settings;
          givens = k.givens;
          before = k.before;
          asked = k.asked;
          after = here (slot_of o) ∙ e ∙ ap S.Channel k.after;
          no_event = k.moves;
          numbers_stay = h;
        }

    answered : (o : Outcome) → Acted a.slot before a.call rows o → (o ≡ Absent → SaysLow rows) → (NotDone o → numbers ≡ a.numbers) → LeftBy rack a (left o rows numbers) (verdict_of o)
    unfolding Acted LeftBy
    answered (Live c (Done report)) h low k = record { channel = c; is = here (S.Channel c) }
    answered (Live c NoTransition) h low k = untouched (Live c NoTransition) c refl h (k tt)
    answered (Live c GuardFalse) h low k = untouched (Live c GuardFalse) c refl h (k tt)
    answered (Live c Range) h low k = stored_by (Live c Range) c refl h (k tt)
    answered (Live c Chip) h low k = (stored_by (Live c Chip) c refl h.0 (k tt), h.1)
    answered Absent h low k = (here S.Empty, h, low refl, k tt)
    answered (Halted cause) h low k = (here (S.Halted cause), h, k tt)

  -- ---- any call

  goes : (x : Result Admitted Refusal) → entry before a.slot a ≡ x → Right rack a (in_rack rack a.slot (through x a.slot before a.replies a.numbers))
  unfolding written LeftBy Own
  goes (Err refusal) e =
      record {
        answer = record { rack_stays = put_same rack a.slot; log_stays = refl; count_stays = omega arith; numbers_stay = refl };
        others = put_there rack a.slot before;
        rows = lit≤ tt;
        own = tt;
        log_length = refl;
        bytes = λ j h. refl;
        bays = put_length rack a.slot before ∙ eight;
      }
  goes (Ok b) e =
      let p = let_in before a.slot a b e in
      let x = acts b a.replies a.slot 0 in
      let numbers = shown_to b a.replies a.slot 0 a.numbers in
      record {
        answer = answered p.0 x.rows numbers x.ans (acts_gives a.slot before a.call b p.1 a.replies 0).holds (absent_low b a.replies a.slot 0) (shown_stays a.replies a.slot 0 a.numbers b);
        others = put_there rack a.slot (slot_of x.ans);
        rows = (acts_at_most b a.replies a.slot 0).rows;
        own = own_rows b a.replies a.slot 0;
        log_length = length_written a.log a.used x.rows;
        bytes = written_outside a.log a.used x.rows;
        bays = put_length rack a.slot (slot_of x.ans) ∙ eight;
      }

  pub right : Right rack a (on rack a)
  unfolding called stepped
  right = goes _ refl

pub demand_1 : Demand1
unfolding Each
demand_1 rack [] eight = tt
demand_1 rack (a ∷ more) eight = let r = right rack a eight in (r, demand_1 (on rack a).rack more r.bays)

-- ---- in numbers

module _ (rack : Rack) (a : Asked) (x : Left) where
  by_number : (v : Verdict) → 1 ≤ number_of v → number_of v ≤ 10 → LeftBy rack a x v → Unchanged rack a x
  unfolding LeftBy
  by_number (Said.Refused refusal) l u h = h
  by_number (Said.Answered (Done report)) l u h = absurd (omega (arith, l))
  by_number (Said.Answered NoTransition) l u h = h
  by_number (Said.Answered GuardFalse) l u h = h
  by_number (Said.Answered Range) l u h = absurd (omega (arith, u))
  by_number (Said.Answered Chip) l u h = absurd (omega (arith, u))
  by_number Said.Absent l u h = absurd (omega (arith, u))
  by_number (Said.Halted cause) l u h = absurd (omega (arith, u))

pub nothing_changed : NothingChanged
nothing_changed rack a eight l u = by_number rack a (on rack a) (on rack a).verdict l u (right rack a eight).answer
