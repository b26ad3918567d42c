-- Every decimal constant is the nearest f32 (`nearest_f32`): antt computes the rounding of each, and that rounding is the one of `Rounded`. Assumes nothing.
use mathlib.Core.Path.{◌≡◌, refl, sym, ap, subst}
use Prim.Native.Nat.{ℕ, zero, suc, ◌*◌, ◌^◌, ◌<◌}
use native.Mathlib.Nat.{mul-pos, zero-lt-suc, pow-suc}
use mathlib.Core.Bool.{false}
use mathlib.Core.List.{List, [], ◌∷◌}
use lib.Ieee.{Float, round, of_bits}
use Rattle.steps.specs.Steps.{unit}
use Rattle.steps.specs.Rounding.{Rounded}
use Rattle.steps.proofs.Rounding.{every_fraction}
use Rattle.bench.specs.Constants.{Decimal, constants, Each, decimal, Decimals}

ten_pos : (k : ℕ) → 0 < 10 ^ k
ten_pos zero = zero-lt-suc 0
ten_pos (suc k) = subst (λ (z : ℕ). 0 < z) (sym (pow-suc 10 k)) (mul-pos (ten_pos k) (zero-lt-suc 9))

-- ---- from one computed list to all

held : List Decimal → List Float
held [] = []
held (c ∷ l) = c.constant ∷ held l

meant : List Decimal → List Float
meant [] = []
meant (c ∷ l) = decimal c.digits c.places ∷ meant l

first : Float → List Float → Float
first x [] = x
first x (y ∷ l) = y

rest : List Float → List Float
rest [] = []
rest (y ∷ l) = l

each_of : (l : List Decimal) → held l ≡ meant l → Each l
unfolding held meant first rest
each_of [] e = tt
each_of (c ∷ l) e = (
  subst (λ (x : Float). Rounded false (c.digits * unit) (10 ^ c.places) x) (sym (ap (first c.constant) e)) (every_fraction false c.digits (10 ^ c.places) (ten_pos c.places)),
  each_of l (ap rest e),
)

computed : held constants ≡ meant constants
unfolding held meant round of_bits
computed = refl

-- ---- the statement

pub nearest_f32 : Decimals
unfolding round of_bits
nearest_f32 = record { each = each_of constants computed; p28v_current_lem = λ v. refl; p5v_current_lem = λ v. refl; p5v_voltage_lem = λ v. refl; detector = λ t m. refl }
