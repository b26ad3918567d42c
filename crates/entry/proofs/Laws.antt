-- Laws of the tests. Assumes nothing.
use Rattle.std.specs.Prelude.{Result, Ok, Err}
use mathlib.Core.Path.{◌≡◌, refl, ap, sym, ◌∙◌}
use Prim.Native.Nat.{ℕ, ◌*◌, ◌≤◌, ◌<◌}
use native.Mathlib.Omega.{arith}
use mathlib.Core.Bool.{Bool, true, false, ◌&&◌, cond}
use mathlib.Core.List.{List, [], ◌∷◌, ◌++◌}
use lib.ListN.{length}
use lib.Dec.{ltb}
use borrow.Author.Tests.{leb-false, ltb-false, lt-leb}
use lib.Ieee.{Float, nan, inf, fin, lt}
use lib.Ieee.Scale.{finite}
use Rattle.bus.specs.Run.{Room}
use Rattle.gate.specs.Gate.{rows, transfers, start}
use Rattle.rf_call.specs.declared.Slot.{Slot}
use Rattle.rf_call.specs.declared.Slot.TheVariants as S
use Rattle.rf_calls.specs.declared.Request.{Request}
use Rattle.rf_calls.specs.declared.Request.TheVariants as R
use Rattle.rf_calls.specs.Requests.{places}
use Rattle.entry.specs.declared.Call.{Call}
use Rattle.entry.specs.declared.Call.TheVariants.{Start, Ask}
use Rattle.entry.specs.declared.Refusal.{Refusal}
use Rattle.entry.specs.declared.Admitted.{Admitted}
use Rattle.entry.specs.Tests.{fills, short, places_of, free_rows, Test, of_number, of_standing, of_room, of_given, first_of, entry_of}

-- a number is one that lies between the infinities

pub above : (x : Float) → lt x (inf false) ≡ true → lt (inf true) x ≡ finite x
unfolding lt
above nan h = refl
above (inf true) h = refl
above (inf false) h = absurd (let z : ◌≡◌ {A = ℕ} 0 1 = ap (λ (b : Bool). cond b 1 0) h in omega (arith, z))
above (fin s m e) h = refl

pub not_below : (x : Float) → lt x (inf false) ≡ false → finite x ≡ false
unfolding lt
not_below nan h = refl
not_below (inf s) h = refl
not_below (fin s m e) h = h

-- tests one after the other

clash : {X A : Type 0} {a : A} {r : Refusal} → Ok a ≡ Err r → X
clash e = absurd (let z : ◌≡◌ {A = ℕ} 0 1 = cc in omega arith)

inside : {a b : Admitted} → ◌≡◌ {A = Result Admitted Refusal} (Ok a) (Ok b) → a ≡ b
inside e = cc

-- tests behind others
first_append : (xs ys : List Test) (e : Result Admitted Refusal) → first_of (xs ++ ys) e ≡ first_of xs (first_of ys e)
first_append [] ys e = refl
first_append (t ∷ xs) ys e = ap (cond t.applies (Err t.refusal)) (first_append xs ys e)

-- what is refused at first is refused, whatever comes further
first_shut : {A B : Type 0} (xs : List Test) (a : A) (e : Result B Refusal) {r : Refusal} → first_of xs (Ok a) ≡ Err r → first_of xs e ≡ Err r
first_shut [] a e h = clash h
first_shut (t ∷ xs) a e {r} h = go t.applies (first_shut xs a e) h
  where
    go : (b : Bool) → (first_of xs (Ok a) ≡ Err r → first_of xs e ≡ Err r) → cond b (Err t.refusal) (first_of xs (Ok a)) ≡ Err r → cond b (Err t.refusal) (first_of xs e) ≡ Err r
    go true more h = let q : t.refusal ≡ r = cc in ap (λ z. Err z) q
    go false more h = more h

-- no test applies
abbrev pub Passed : List Test → Type 0
Passed [] = Unit
Passed (t ∷ more) = (t.applies ≡ false) × Passed more

pub passed : {A : Type 0} (ts : List Test) (e : Result A Refusal) {a : A} → first_of ts e ≡ Ok a → Passed ts × (e ≡ Ok a)
passed [] e h = (tt, h)
passed (t ∷ more) e {a} h = go t.applies (passed more e) h
  where
    go : (b : Bool) → (first_of more e ≡ Ok a → Passed more × (e ≡ Ok a)) → cond b (Err t.refusal) (first_of more e) ≡ Ok a → ((b ≡ false) × Passed more) × (e ≡ Ok a)
    go true next h = clash (sym h)
    go false next h = let p = next h in ((refl, p.0), p.1)

first_passed : (ts : List Test) (e : Result Admitted Refusal) → Passed ts → first_of ts e ≡ e
first_passed [] e p = refl
first_passed (t ∷ more) e p = rw p.0 (first_passed more e p.1)

-- what a call finds, further tests aside
further : (standing : Slot) (call : Call) (ts : List Test) {a : Admitted} → of_standing standing call [] ≡ Ok a → of_standing standing call ts ≡ first_of ts (Ok a)
further S.Empty (Ask request givens) ts h = clash (sym h)
further (S.Halted cause) (Ask request givens) ts h = clash (sym h)
further (S.Channel c) (Start settings present) ts h = clash (sym h)
further S.Empty (Start settings present) ts h = ap (first_of ts) h
further (S.Halted cause) (Start settings present) ts h = ap (first_of ts) h
further (S.Channel c) (Ask request givens) ts h = ap (first_of ts) h

-- all of them: the slot is one of the eight, what stands in it is what the call is for, and there is room
pub given_shut : (slot : ℕ) (standing : Slot) (call : Call) (free replies numbers : ℕ) {a : Admitted} {y z : Result (Unit {0}) Refusal} {r : Refusal} {x : Result Admitted Refusal} → slot < 8 → Ok a ≡ of_standing standing call []
    → y ≡ first_of (of_room free replies) (Ok tt) → y ≡ Ok tt → z ≡ first_of (of_given call numbers) (Ok tt) → z ≡ Err r → x ≡ Err r → x ≡ entry_of slot standing call free replies numbers
given_shut slot standing call free replies numbers {a} in_rack p s t u v w =
    w ∙ sym
    (rw (lt-leb 8 slot in_rack)
    (further standing call (of_room free replies ++ of_given call numbers) (sym p)
    ∙ first_append (of_room free replies) (of_given call numbers) (Ok a)
    ∙ first_passed (of_room free replies) _ (passed (of_room free replies) (Ok tt) (sym s ∙ t)).0
    ∙ first_shut (of_given call numbers) tt (Ok a) (sym u ∙ v)))

-- ---- what an open entry tells

-- the call found what it is for, and no other test applies
pub entered : (slot : ℕ) (standing : Slot) (call : Call) (free replies numbers : ℕ) {a : Admitted} → entry_of slot standing call free replies numbers ≡ Ok a
    → (slot < 8) × Passed (of_room free replies ++ of_given call numbers) × (of_standing standing call [] ≡ Ok a)
entered slot standing call free replies numbers {a} h = let p = passed (of_number slot) _ h in let q = go standing call _ p.1 in (leb-false 8 slot p.0.0, q.0, q.1)
  where
    go : (s : Slot) (call : Call) (ts : List Test) → of_standing s call ts ≡ Ok a → Passed ts × (of_standing s call [] ≡ Ok a)
    go S.Empty (Ask request givens) ts h = clash (sym h)
    go (S.Halted cause) (Ask request givens) ts h = clash (sym h)
    go (S.Channel c) (Start settings present) ts h = clash (sym h)
    go S.Empty (Start settings present) ts h = passed ts _ h
    go (S.Halted cause) (Start settings present) ts h = passed ts _ h
    go (S.Channel c) (Ask request givens) ts h = passed ts _ h

placed : (request : Request) (numbers : ℕ) → (fills request && ltb numbers 7) ≡ false → places request ≤ numbers
placed R.Startup numbers h = omega arith
placed R.Update numbers h = omega arith
placed R.Reset numbers h = omega arith
placed R.Standby numbers h = omega arith
placed (R.Settings s) numbers h = omega arith
placed (R.Status d) numbers h = ltb-false numbers 7 h

placed_call : (standing : Slot) (call : Call) {a : Admitted} (numbers : ℕ) → of_standing standing call [] ≡ Ok a → short call numbers ≡ false → places_of a ≤ numbers
placed_call S.Empty (Ask request givens) numbers e h = clash (sym e)
placed_call (S.Halted cause) (Ask request givens) numbers e h = clash (sym e)
placed_call (S.Channel c) (Start settings present) numbers e h = clash (sym e)
placed_call S.Empty (Start settings present) numbers e h = rw (sym (inside e)) (omega arith)
placed_call (S.Halted cause) (Start settings present) numbers e h = rw (sym (inside e)) (omega arith)
placed_call (S.Channel c) (Ask request givens) numbers e h = rw (sym (inside e)) (placed request numbers h)

-- room for all that a call may add and take, and places for its numbers
pub open_room : (slot used : ℕ) (standing : Slot) (call : Call) (l rs : List ℕ) (numbers : ℕ) {a : Admitted} → entry_of slot standing call (free_rows used (length l)) (length rs) numbers ≡ Ok a → Room (start slot used) rows transfers l rs × (places_of a ≤ numbers)
open_room slot used standing call l rs numbers h =
    let p = entered slot standing call (free_rows used (length l)) (length rs) numbers h in
    let free = ltb-false (free_rows used (length l)) rows p.1.0 in
    let there = ltb-false (length rs) (9 * transfers) p.1.1.0 in
    (record { slot = p.0; rows = omega (arith, free); replies = omega (arith, there) }, placed_call standing call numbers p.2 p.1.1.1.0)
