-- A judgement on runs: in slot n, the rows and the answer that the run m ends with satisfy P, whatever the replies are. Rules for the pieces of a run. Assumes nothing.
use Rattle.std.specs.Prelude.{Result, Ok, Err}
use Prim.Native.Nat.{ℕ}
use mathlib.Core.Bool.{Bool, true, false, cond}
use mathlib.Core.List.{List, [], ◌∷◌, ◌++◌, append-nil}
use Rattle.bus.specs.declared.Eight.{Eight}
use Rattle.bus.specs.declared.Transfer.{Transfer}
use Rattle.bus.specs.Rows.{Row, moved}
use Rattle.bus.specs.Run.{Ran, Run, done, bind, mapped, transfer, on_got, try}
use Rattle.bus.specs.declared.Failed.{Failed}
use Rattle.bus.specs.Rows.{no_answer}

pub record Given {A : Type 0} (n : ℕ) (P : List Row → A → Type 0) (x : Ran A) : Type 0 where
  pub holds : P x.rows x.ans

abbrev pub Gives : {A : Type 0} → ℕ → Run A → (List Row → A → Type 0) → Type 0
Gives n m P = (rs : List ℕ) (taken : ℕ) → Given n P (m rs n taken)

pub gives_any : {A : Type 0} {n : ℕ} (m : Run A) → Gives n m (λ rows a. Unit {0})
gives_any m rs taken = record { holds = tt }

module _ {A : Type 0} {n : ℕ} {P : List Row → A → Type 0} where
  pub gives_done : (a : A) → P [] a → Gives n (done a) P
  unfolding done
  gives_done a h rs taken = record { holds = h }

  pub gives_cond : (b : Bool) (m k : Run A) → Gives n m P → Gives n k P → Gives n (cond b m k) P
  gives_cond true m k g h = g
  gives_cond false m k g h = h

module _ {A B : Type 0} {n : ℕ} {P : List Row → A → Type 0} {Q : List Row → B → Type 0} where
  pub gives_bind : (m : Run A) (k : A → Run B) → Gives n m P → ((rows : List Row) (a : A) → P rows a → Gives n (k a) (λ more b. Q (rows ++ more) b)) → Gives n (bind m k) Q
  unfolding bind
  gives_bind m k g f rs taken = record { holds = (f _ _ (g rs taken).holds rs (m rs n taken).taken).holds }

  pub gives_mapped : (f : A → B) (m : Run A) → Gives n m P → ((rows : List Row) (a : A) → P rows a → Q rows (f a)) → Gives n (mapped f m) Q
  unfolding mapped
  gives_mapped f m g h = gives_bind m (λ a. done (f a)) g (λ rows a p. gives_done (f a) (rw (append-nil rows) (h rows a p)))

-- a transfer that ends the run if it fails
module _ {A : Type 0} {n : ℕ} (P : List Row → A → Type 0) (t : Transfer) (a : A) (k : Eight → Run A) (failed : P (moved n t (Err no_answer) ∷ []) a) (acked : (d : Eight) → Gives n (k d) (λ rows b. P (moved n t (Ok d) ∷ rows) b)) where
  got : (g : Result Eight Failed) → Gives n (on_got a k g) (λ rows b. P (moved n t g ∷ rows) b)
  unfolding on_got
  got (Ok d) = acked d
  got (Err e) = gives_done a failed

  pub gives_try : Gives n (try t a k) P
  unfolding bind transfer
  gives_try rs taken = record { holds = (got _ rs _).holds }
