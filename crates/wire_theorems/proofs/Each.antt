-- A judgement on runs: each row satisfies P. Rules for the pieces of a run. Assumes nothing.
use Rattle.std.specs.Prelude.{Result, Ok, Err}
use Prim.Native.Nat.{ℕ}
use mathlib.Core.Bool.{Bool, true, false, cond}
use mathlib.Core.List.{List, [], ◌∷◌, ◌++◌}
use Rattle.bus.specs.declared.Eight.{Eight}
use Rattle.bus.specs.declared.Note.{Note}
use Rattle.bus.specs.declared.Transfer.{Transfer}
use Rattle.bus.specs.Rows.{Row, noted, moved}
use Rattle.bus.specs.Run.{Ran, Run, done, bind, mapped, note, transfer, on_got, try}
use Rattle.wire_theorems.specs.Wire.{Every}
use Rattle.bus.specs.declared.Failed.{Failed}

pub record Told {A : Type 0} (P : Row → Type 0) (x : Ran A) : Type 0 where
  pub holds : Every P x.rows

abbrev pub Each : {A : Type 0} → (Row → Type 0) → Run A → Type 0
Each P m = (rs : List ℕ) (slot taken : ℕ) → Told P (m rs slot taken)

every_append : (P : Row → Type 0) (xs ys : List Row) → Every P xs → Every P ys → Every P (xs ++ ys)
unfolding Every
every_append P [] ys p q = q
every_append P (x ∷ xs) ys p q = (p.0, every_append P xs ys p.1 q)

module _ {A : Type 0} {P : Row → Type 0} where
  pub each_done : (a : A) → Each P (done a)
  unfolding done Every
  each_done a rs slot taken = record { holds = tt }

  pub each_cond : (b : Bool) {m k : Run A} → Each P m → Each P k → Each P (cond b m k)
  each_cond true x y = x
  each_cond false x y = y

module _ {A B : Type 0} {P : Row → Type 0} where
  pub each_bind : (m : Run A) (k : A → Run B) → Each P m → ((a : A) → Each P (k a)) → Each P (bind m k)
  unfolding bind
  each_bind m k x f rs slot taken = record { holds = every_append P _ _ (x rs slot taken).holds (f _ rs slot _).holds }

  pub each_mapped : (f : A → B) (m : Run A) → Each P m → Each P (mapped f m)
  unfolding mapped
  each_mapped f m x = each_bind m (λ a. done (f a)) x (λ a. each_done (f a))

pub each_note : {P : Row → Type 0} (n : Note) → ((slot : ℕ) → P (noted slot n)) → Each P (note n)
unfolding note Every
each_note n h rs slot taken = record { holds = (h slot, tt) }

pub each_transfer : {P : Row → Type 0} (t : Transfer) → ((slot : ℕ) (g : Result Eight Failed) → P (moved slot t g)) → Each P (transfer t)
unfolding transfer Every
each_transfer t h rs slot taken = record { holds = (h slot _, tt) }

module _ {A : Type 0} {P : Row → Type 0} (t : Transfer) (a : A) (k : Eight → Run A) (row : (slot : ℕ) (g : Result Eight Failed) → P (moved slot t g)) (more : (d : Eight) → Each P (k d)) where
  each_got : (g : Result Eight Failed) → Each P (on_got a k g)
  unfolding on_got
  each_got (Ok d) = more d
  each_got (Err e) = each_done a

  pub each_try : Each P (try t a k)
  each_try = each_bind (transfer t) (on_got a k) (each_transfer t row) each_got
