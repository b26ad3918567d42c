-- Demand 3 on the wire, over any call on any slot: what holds of a start and of a request of a channel holds of every call, since one that is refused adds no row and is answered neither 11 nor 14. Assumes nothing.
use Rattle.std.specs.Prelude.{Result, Ok, Err, None}
use Prim.Native.Nat.{ℕ}
use native.Mathlib.Omega.{arith}
use mathlib.Core.Path.{◌≡◌, refl, sym, subst}
use mathlib.Core.Bool.{Bool}
use mathlib.Core.Logic.{◌⊎◌}
use mathlib.Core.List.{List}
use lib.Ieee.{neg}
use Rattle.conversions.specs.Codes.{dac7571_code}
use Rattle.rf_channel.specs.declared.ChannelSettings.{ChannelSettings}
use Rattle.rf_channel.specs.declared.RfChannel.{RfChannel}
use Rattle.rf_machine.specs.declared.Cause.TheVariants as Causes
use Rattle.rf_call.specs.declared.Answer.TheVariants as A
use Rattle.rf_call.specs.declared.Givens.{Givens}
use Rattle.rf_call.specs.declared.Outcome.{Outcome}
use Rattle.rf_call.specs.declared.Outcome.TheVariants as O
use Rattle.rf_call.specs.declared.Slot.{Slot}
use Rattle.rf_start.specs.Start.{starting}
use Rattle.rf_calls.specs.declared.Request.{Request}
use Rattle.rf_calls.specs.declared.Request.TheVariants.{Settings}
use Rattle.rf_calls.specs.Requests.{requested}
use Rattle.wire_theorems.specs.Wire.{Writes, Every, Rows}
use Rattle.wire_theorems.specs.Refusals.{ALevel}
use Rattle.wire_theorems.proofs.Wire.{codes_sent}
use Rattle.wire_theorems.proofs.Refusals.{refused_for_range}
use Rattle.entry.specs.declared.Admitted.{Admitted}
use Rattle.entry.specs.declared.Call.{Call}
use Rattle.entry.specs.declared.Call.TheVariants.{Start, Ask}
use Rattle.entry.specs.declared.Refusal.{Refusal}
use Rattle.entry.specs.declared.Refusal.TheVariants as No
use Rattle.entry.specs.Tests as E
use Rattle.slots.specs.declared.Rack.{Rack}
use Rattle.slots.specs.Slots.{slot_at, verdict_of, number_of, cause_beside}
use Rattle.slot_call.specs.Step.{acts, through, stepped}
use Rattle.rack_call.specs.Calls.{called}
use Rattle.rack_theorems.specs.History.{Asked, on}
use Rattle.rack_theorems.specs.Wire.{MayWriteIn, OnTheWire}
use Rattle.rack_theorems.proofs.Found.{Finds, found}
use Rattle.rack_theorems.proofs.Seen.{entry, let_in}

-- ---- the rows

written : (s : Slot) (call : Call) (b : Admitted) → Finds s call b → Rows (Writes (MayWriteIn call)) (acts b)
unfolding acts MayWriteIn
written = found (λ s call b. Rows (Writes (MayWriteIn call)) (acts b)) (λ s x settings present. codes_sent.start settings present) (λ c r g. codes_sent.request c r g)

sent : (rack : Rack) (a : Asked) → Every (Writes (MayWriteIn a.call)) (on rack a).rows
unfolding called stepped Every
sent rack a = go (entry (slot_at rack a.slot) a.slot a) refl
  where
    go : (e : Result Admitted Refusal) → entry (slot_at rack a.slot) a.slot a ≡ e → Every (Writes (MayWriteIn a.call)) (through e a.slot (slot_at rack a.slot) a.replies a.numbers).rows
    go (Err refusal) o = tt
    go (Ok b) o = written (slot_at rack a.slot) a.call b (let_in (slot_at rack a.slot) a.slot a b o).1 a.replies a.slot 0

-- ---- answer 11

abbrev Eleven : ChannelSettings → Type 0
Eleven s = ALevel s ⊎ (dac7571_code (neg s.bias_voltage) ≡ None)

eleven_by : (c : RfChannel) (s : ChannelSettings) (g : Givens) (rs : List ℕ) (n : ℕ) (o : Outcome) → (requested c (Settings s) g rs n 0).ans ≡ o → number_of (verdict_of o) ≡ 11 → Eleven s
eleven_by c s g rs n (O.Live c' (A.Done report)) e h = absurd (omega (arith, h))
eleven_by c s g rs n (O.Live c' A.NoTransition) e h = absurd (omega (arith, h))
eleven_by c s g rs n (O.Live c' A.GuardFalse) e h = absurd (omega (arith, h))
eleven_by c s g rs n (O.Live c' A.Range) e h = refused_for_range.settings c c' s g rs n 0 e
eleven_by c s g rs n (O.Live c' A.Chip) e h = absurd (omega (arith, h))
eleven_by c s g rs n O.Absent e h = absurd (omega (arith, h))
eleven_by c s g rs n (O.Halted cause) e h = absurd (omega (arith, h))

not_eleven : (r : Refusal) {X : Type 0} → E.number_of r ≡ 11 → X
not_eleven No.Slot h = absurd (omega (arith, h))
not_eleven No.Empty h = absurd (omega (arith, h))
not_eleven No.Halted h = absurd (omega (arith, h))
not_eleven No.Taken h = absurd (omega (arith, h))
not_eleven No.Log h = absurd (omega (arith, h))
not_eleven No.Replies h = absurd (omega (arith, h))
not_eleven No.Numbers h = absurd (omega (arith, h))
not_eleven No.Temperature h = absurd (omega (arith, h))

clash : {X : Type 0} {s : ChannelSettings} {present : Bool} {r : Request} {g : Givens} → Start s present ≡ Ask r g → X
clash e = absurd (let z : ◌≡◌ {A = ℕ} 0 1 = cc in omega arith)

same_request : {r r' : Request} {g g' : Givens} → Ask r g ≡ Ask r' g' → r ≡ r'
same_request e = cc

settings_in : (s : Slot) (call : Call) (b : Admitted) → Finds s call b → (t : ChannelSettings) (g : Givens) → call ≡ Ask (Settings t) g → (rs : List ℕ) (n : ℕ) → number_of (verdict_of (acts b rs n 0).ans) ≡ 11 → Eleven t
unfolding acts
settings_in = found (λ s call b. (t : ChannelSettings) (g : Givens) → call ≡ Ask (Settings t) g → (rs : List ℕ) (n : ℕ) → number_of (verdict_of (acts b rs n 0).ans) ≡ 11 → Eleven t)
    (λ s x settings present t g f rs n h. clash f)
    (λ c r g t g' f rs n h. eleven_by c t g rs n _ refl (subst (λ (q : Request). number_of (verdict_of (requested c q g rs n 0).ans) ≡ 11) (same_request f) h))

eleven : (rack : Rack) (a : Asked) (s : ChannelSettings) (g : Givens) → a.call ≡ Ask (Settings s) g → number_of (on rack a).verdict ≡ 11 → Eleven s
unfolding called stepped
eleven rack a s g f = go (entry (slot_at rack a.slot) a.slot a) refl
  where
    go : (e : Result Admitted Refusal) → entry (slot_at rack a.slot) a.slot a ≡ e → number_of (through e a.slot (slot_at rack a.slot) a.replies a.numbers).verdict ≡ 11 → Eleven s
    go (Err refusal) o h = not_eleven refusal h
    go (Ok b) o h = settings_in (slot_at rack a.slot) a.call b (let_in (slot_at rack a.slot) a.slot a b o).1 s g f a.replies a.slot h

-- ---- cause 4

four_by : (s : ChannelSettings) (present : Bool) (rs : List ℕ) (n : ℕ) (o : Outcome) → (starting s present rs n 0).ans ≡ o → cause_beside (verdict_of o) ≡ 4 → ALevel s
four_by s present rs n (O.Live c answer) e h = absurd (omega (arith, h))
four_by s present rs n O.Absent e h = absurd (omega (arith, h))
four_by s present rs n (O.Halted Causes.Bus) e h = absurd (omega (arith, h))
four_by s present rs n (O.Halted Causes.Alarm) e h = absurd (omega (arith, h))
four_by s present rs n (O.Halted Causes.Temperature) e h = absurd (omega (arith, h))
four_by s present rs n (O.Halted Causes.Threshold) e h = refused_for_range.start s present rs n 0 e
four_by s present rs n (O.Halted Causes.Level) e h = absurd (omega (arith, h))
four_by s present rs n (O.Halted Causes.Bias) e h = absurd (omega (arith, h))

same_start : {s t : ChannelSettings} {p q : Bool} → Start s p ≡ Start t q → s ≡ t
same_start e = cc

start_in : (s : Slot) (call : Call) (b : Admitted) → Finds s call b → (t : ChannelSettings) (present : Bool) → call ≡ Start t present → (rs : List ℕ) (n : ℕ) → cause_beside (verdict_of (acts b rs n 0).ans) ≡ 4 → ALevel t
unfolding acts
start_in = found (λ s call b. (t : ChannelSettings) (present : Bool) → call ≡ Start t present → (rs : List ℕ) (n : ℕ) → cause_beside (verdict_of (acts b rs n 0).ans) ≡ 4 → ALevel t)
    (λ s x settings present t q f rs n h. four_by t present rs n _ refl (subst (λ (u : ChannelSettings). cause_beside (verdict_of (starting u present rs n 0).ans) ≡ 4) (same_start f) h))
    (λ c r g t q f rs n h. clash (sym f))

four : (rack : Rack) (a : Asked) (s : ChannelSettings) (present : Bool) → a.call ≡ Start s present → cause_beside (on rack a).verdict ≡ 4 → ALevel s
unfolding called stepped
four rack a s present f = go (entry (slot_at rack a.slot) a.slot a) refl
  where
    go : (e : Result Admitted Refusal) → entry (slot_at rack a.slot) a.slot a ≡ e → cause_beside (through e a.slot (slot_at rack a.slot) a.replies a.numbers).verdict ≡ 4 → ALevel s
    go (Err refusal) o h = absurd (omega (arith, h))
    go (Ok b) o h = start_in (slot_at rack a.slot) a.call b (let_in (slot_at rack a.slot) a.slot a b o).1 s present f a.replies a.slot h

-- ---- all three

pub on_the_wire : OnTheWire
on_the_wire = record { codes = sent; eleven = eleven; cause_4 = four }
