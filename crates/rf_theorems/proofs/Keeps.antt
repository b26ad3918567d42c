-- A judgement on runs: from the levels p, the run m ends in levels and with an answer that satisfy Q, and all its rows are of its own slot. Rules for the pieces of a run.
-- Assumes nothing.
use Rattle.std.specs.Prelude.{Result, Ok, Err}
use Prim.Native.Nat.{ℕ}
use mathlib.Core.Path.{◌≡◌, refl}
use mathlib.Core.List.{List, [], ◌∷◌, ◌++◌}
use Rattle.bus.specs.declared.Eight.{Eight}
use Rattle.bus.specs.declared.Note.{Note}
use Rattle.bus.specs.declared.Note.TheVariants.{SignalOn, EnablePower, Wait}
use Rattle.bus.specs.declared.Transfer.{Transfer}
use Rattle.bus.specs.Rows.{Row, noted}
use Rattle.bus.specs.Run.{Ran, Run, done, bind, mapped, note, transfer, on_got}
use Rattle.rf_theorems.specs.Pins.{Levels, after, levels_after, Own}
use Rattle.bus.specs.declared.Failed.{Failed}

pub record Kept {A : Type 0} (slot : ℕ) (p : Levels) (Q : Levels → A → Type 0) (x : Ran A) : Type 0 where
  pub holds : Q (levels_after p x.rows) x.ans
  pub own : Own slot x.rows

abbrev pub Keeps : {A : Type 0} → Levels → Run A → (Levels → A → Type 0) → Type 0
Keeps p m Q = (rs : List ℕ) (slot taken : ℕ) → Kept slot p Q (m rs slot taken)

-- ---- rows, and then more rows

pub levels_append : (p : Levels) (xs ys : List Row) → levels_after p (xs ++ ys) ≡ levels_after (levels_after p xs) ys
unfolding levels_after
levels_append p [] ys = refl
levels_append p (x ∷ xs) ys = levels_append (after p x) xs ys

pub own_append : (slot : ℕ) (xs ys : List Row) → Own slot xs → Own slot ys → Own slot (xs ++ ys)
unfolding Own
own_append slot [] ys o u = u
own_append slot (x ∷ xs) ys o u = (o.0, own_append slot xs ys o.1 u)

-- ---- the pieces

pub keeps_done : {A : Type 0} {p : Levels} {Q : Levels → A → Type 0} (a : A) → Q p a → Keeps p (done a) Q
unfolding done levels_after Own
keeps_done a h rs slot taken = record { holds = h; own = tt }

module _ {A : Type 0} {p : Levels} {Q : Levels → A → Type 0} where
  pub keeps_more : {m : Run A} {R : Levels → A → Type 0} → Keeps p m Q → ((q : Levels) (a : A) → Q q a → R q a) → Keeps p m R
  keeps_more {m} k f rs slot taken = let x = k rs slot taken in record { holds = f _ _ x.holds; own = x.own }

  pub keeps_bind : {B : Type 0} {R : Levels → B → Type 0} (m : Run A) (k : A → Run B) → Keeps p m Q → ((q : Levels) (a : A) → Q q a → Keeps q (k a) R) → Keeps p (bind m k) R
  unfolding bind
  keeps_bind m k x f rs slot taken =
      let a = m rs slot taken in
      let y = f _ _ (x rs slot taken).holds rs slot a.taken in
      record {
        holds = rw (levels_append p a.rows (k a.ans rs slot a.taken).rows) y.holds;
        own = own_append slot a.rows _ (x rs slot taken).own y.own;
      }

  pub keeps_mapped : {B : Type 0} {R : Levels → B → Type 0} (f : A → B) (m : Run A) → Keeps p m Q → ((q : Levels) (a : A) → Q q a → R q (f a)) → Keeps p (mapped f m) R
  unfolding mapped
  keeps_mapped f m x h = keeps_bind m (λ a. done (f a)) x (λ q a g. keeps_done (f a) (h q a g))

pub keeps_note : {p : Levels} {Q : Levels → Unit {0} → Type 0} (n : Note) → Q (after p (noted 0 n)) tt → Keeps p (note n) Q
unfolding note levels_after Own
keeps_note (SignalOn on) h rs slot taken = record { holds = h; own = (refl, tt) }
keeps_note (EnablePower on) h rs slot taken = record { holds = h; own = (refl, tt) }
keeps_note (Wait time) h rs slot taken = record { holds = h; own = (refl, tt) }

pub keeps_transfer : {p : Levels} {Q : Levels → Result Eight Failed → Type 0} (t : Transfer) → ((g : Result Eight Failed) → Q p g) → Keeps p (transfer t) Q
unfolding transfer levels_after Own
keeps_transfer t h rs slot taken = record { holds = h _; own = (refl, tt) }

-- ---- a run that leaves the pins alone

abbrev pub Same : {A : Type 0} → Levels → Levels → A → Type 0
Same p q a = q ≡ p

abbrev pub Still : {A : Type 0} → Run A → Type 0
Still m = (p : Levels) → Keeps p m (Same p)

pub still_done : {A : Type 0} (a : A) → Still (done a)
still_done a p = keeps_done a refl

pub still_bind : {A B : Type 0} (m : Run A) (k : A → Run B) → Still m → ((a : A) → Still (k a)) → Still (bind m k)
still_bind m k s f p = keeps_bind m k (s p) (λ q a e. rw e (f a p))

pub still_mapped : {A B : Type 0} (f : A → B) (m : Run A) → Still m → Still (mapped f m)
still_mapped f m s p = keeps_mapped f m (s p) (λ q a e. e)

pub still_wait : (time : ℕ) → Still (note (Wait time))
still_wait time p = keeps_note (Wait time) refl

pub still_transfer : (t : Transfer) → Still (transfer t)
still_transfer t p = keeps_transfer t (λ g. refl)

still_got : {A : Type 0} (a : A) (k : Eight → Run A) → ((d : Eight) → Still (k d)) → (g : Result Eight Failed) → Still (on_got a k g)
unfolding on_got
still_got a k s (Ok d) = s d
still_got a k s (Err e) = still_done a

pub still_try : {A : Type 0} (t : Transfer) (a : A) (k : Eight → Run A) → ((d : Eight) → Still (k d)) → Still (bind (transfer t) (on_got a k))
still_try t a k s = still_bind (transfer t) (on_got a k) (still_transfer t) (still_got a k s)
