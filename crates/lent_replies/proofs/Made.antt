-- What `array::from_fn` makes by a closure that no call changes. Assumes nothing.
use Rattle.std.proofs.Common.{ℕ, suc, zero, ◌+◌, ◌≤◌, ◌<◌, ◌≡◌, List, get_or}
use Rattle.std.specs.Array.{IsFromFnResultFrom, IsFromFnResult}
use Rattle.std.specs.Fn.{Called}
use Rattle.std.specs.List.{range_with_len}
use Rattle.std.proofs.Math.Nat.{eq-or-lt_of_le}
use Rattle.std.proofs.lemmas.List.FromFn.{fill_by_all}
use Rattle.std.specs.Prelude.{map}
use denote.Param.Members.{Mut}
use mathlib.Core.Logic.{◌⊎◌, inl, inr}
use mathlib.Core.Path.{◌∙◌, subst}
use native.Mathlib.Omega.{arith}

module _ {F : Type 0} (g : Mut F (ℕ × Unit {0}) ℕ) (h : ℕ → ℕ) (f : F) (gives : (i y : ℕ) (f' : F) → Called g f (i, tt) y f' → (y ≡ h i) × (f' ≡ f)) where
  at_or_past : (ys : List ℕ) (i n k : ℕ) → IsFromFnResultFrom g f ys i (suc n) → (i ≡ k) ⊎ (i < k) → (IsFromFnResultFrom g f ys (i + 1) n → i + 1 ≤ k → get_or ys k 0 ≡ h k) → get_or ys k 0 ≡ h k
  at_or_past ys i n k made (inl e) later = subst (λ k. get_or ys k 0 ≡ h k) e (made.2.1 0 ∙ (gives _ _ _ made.3).0)
  at_or_past ys i n k made (inr past) later = later (subst (λ f'. IsFromFnResultFrom g f' ys (i + 1) n) (gives _ _ _ made.3).1 made.4) (omega arith)

  at_each : (ys : List ℕ) (i n k : ℕ) → IsFromFnResultFrom g f ys i n → i ≤ k → k < i + n → get_or ys k 0 ≡ h k
  at_each ys i zero k made above below = absurd (omega arith)
  at_each ys i (suc n) k made above below = at_or_past ys i n k made (eq-or-lt_of_le above) (λ rest past. at_each ys (i + 1) n k rest past (omega arith))

  -- each element is what the closure gives at its index
  pub made : (ys : List ℕ) (n : ℕ) → IsFromFnResult g f ys n → ys ≡ map h (range_with_len 0 n)
  made ys n r = fill_by_all h ys n 0 r.long (λ k below. at_each ys 0 n k r.each (omega arith) (omega arith))
