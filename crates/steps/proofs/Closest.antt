-- The whole number closest to a fraction n / u: within half of it, and even where it is just half of it off (`closest_half`), and no whole number is nearer (`closest_least`). Nothing here is about floats. Assumes nothing.
use mathlib.Core.Path.{◌≡◌, refl, sym, ap, ◌∙◌}
use Prim.Native.Nat.{ℕ, zero, suc, ◌+◌, ◌*◌, ◌/◌, ◌%◌, ◌≤◌, ◌<◌, compare, Ordering}
use native.Mathlib.Nat.{add-mul, suc-mul, zero-mul, one-mul, div-add-mod', mod-lt, mul-le-mul_right, le_trans, le_of_eq}
use native.Mathlib.Decide.{dec_lt}
use native.Mathlib.Omega.{arith}
use mathlib.Core.Bool.{not}
use lib.Dec.{T, is_le, compare_is_eq, leb→le, nleb→lt, eqb→eq}
use lib.Arith.{lt_of_le-ne}
use lib.Ieee.{nearest}
use lib.Ieee.Fits.{eq→eqb}
use lib.Ieee.Nearest.{closest}
use Rattle.steps.specs.Steps.{gap}

pub record Half (n u q : ℕ) : Type 0 where
  pub over : 2 * (q * u) ≤ 2 * n + u
  pub under : 2 * n ≤ 2 * (q * u) + u
  pub even : u ≤ gap (2 * (q * u)) (2 * n) → q % 2 ≡ 0

-- at a tie the even neighbour is taken
tie : (w u r n : ℕ) → w * u + r ≡ n → r * 2 ≡ u → (p : ℕ) → w % 2 ≡ p → p < 2 → Half n u (w + w % 2)
tie w u r n e h zero p l =
    let q : (w + w % 2) * u ≡ w * u = add-mul w (w % 2) u ∙ ap (λ (z : ℕ). w * u + z * u) p ∙ ap (λ (z : ℕ). w * u + z) (zero-mul u) ∙ (omega arith) in
    record { over = omega arith; under = omega arith; even = λ (g : u ≤ gap (2 * ((w + w % 2) * u)) (2 * n)). omega arith }
tie w u r n e h (suc zero) p l =
    let q : (w + w % 2) * u ≡ w * u + u = add-mul w (w % 2) u ∙ ap (λ (z : ℕ). w * u + z * u) p ∙ ap (λ (z : ℕ). w * u + z) (one-mul u) in
    record { over = omega arith; under = omega arith; even = λ (g : u ≤ gap (2 * ((w + w % 2) * u)) (2 * n)). omega arith }
tie w u r n e h (suc (suc p)) q l = absurd (omega arith)

by_remainder : (o : Ordering) (w u r n : ℕ) → w * u + r ≡ n → r < u → (T (is_le o) → r * 2 ≤ u) → (T (not (is_le o)) → u < r * 2) → (T (compare_is_eq o) → r * 2 ≡ u) → (r * 2 ≡ u → T (compare_is_eq o)) → Half n u (nearest w o)
by_remainder Ordering.lt w u r n e s le gt eq ne =
    let h : r * 2 < u = lt_of_le-ne (le tt) ne in
    record { over = omega arith; under = omega arith; even = λ (g : u ≤ gap (2 * (w * u)) (2 * n)). absurd (omega arith) }
by_remainder Ordering.eq w u r n e s le gt eq ne = tie w u r n e (eq tt) (w % 2) refl (mod-lt w (omega arith))
by_remainder Ordering.gt w u r n e s le gt eq ne =
    let h = gt tt in
    let q : suc w * u ≡ w * u + u = suc-mul w u in
    record { over = omega arith; under = omega arith; even = λ (g : u ≤ gap (2 * (suc w * u)) (2 * n)). absurd (omega arith) }

pub closest_half : (n u : ℕ) → 0 < u → Half n u (closest n u)
closest_half n u U =
    by_remainder (compare (n % u * 2) u) (n / u) u (n % u) n (div-add-mod' n u) (mod-lt n U)
    (leb→le (n % u * 2) u) (nleb→lt (n % u * 2) u) (eqb→eq (n % u * 2) u)
    (λ (h : n % u * 2 ≡ u). eq→eqb h)

-- a whole number other than q lies u or more away from q * u
pub apart : (u q j : ℕ) → q < j → q * u + u ≤ j * u
apart u q j h = le_trans (le_of_eq (sym (suc-mul q u))) (mul-le-mul_right u h)

least : (n u j q : ℕ) → Half n u q → gap (q * u) n ≤ gap (j * u) n
least n u j q h = elim (dec_lt j q) [
  | yes l ↦ (let a = apart u j q l in omega arith)
  | no l ↦ elim (dec_lt q j) [
    | yes g ↦ (let b = apart u q j g in omega arith)
    | no g ↦ (let e : j ≡ q = omega arith in le_of_eq (ap (λ (z : ℕ). gap (z * u) n) (sym e)))
  ]
]

pub closest_least : (n u j : ℕ) → 0 < u → gap (closest n u * u) n ≤ gap (j * u) n
closest_least n u j U = least n u j (closest n u) (closest_half n u U)
