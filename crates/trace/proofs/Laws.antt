-- An empty last column is for a request without settings, and a filled one for a call with settings. Assumes nothing.
use Prim.Native.Nat.{ℕ}
use native.Mathlib.Omega.{arith}
use mathlib.Core.Path.{◌≡◌, refl}
use mathlib.Core.List.{List, [], ◌∷◌}
use lib.ListN.{length}
use Rattle.rf_call.specs.declared.Givens.{Givens}
use Rattle.names.specs.declared.Name.{Name}
use Rattle.given_field.specs.Given.{settings_of}
use Rattle.trace.specs.Trace.{request_of, filled_of, on_plain, on_fields, call_of}

module _ (name : Name) (g : Givens) where
  pub call_empty : (l : List ℕ) → length l ≡ 0 → call_of name l g ≡ on_plain g (request_of name)
  unfolding call_of
  call_empty [] h = refl
  call_empty (b ∷ l) h = absurd (omega (arith, h))

  pub call_filled : (l : List ℕ) → (length l ≡ 0 → ⊥) → call_of name l g ≡ on_fields (λ s. filled_of name s g) (settings_of l)
  unfolding call_of
  call_filled [] h = absurd (h refl)
  call_filled (b ∷ l) h = refl
