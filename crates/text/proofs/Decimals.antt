-- Laws of decimals: the fewest digits that hold a number are those of its text (`decimal_is`), and a number of 64 bits has twenty at most (`decimal_length`).
-- Assumes nothing.
use Prim.Native.Nat.{ℕ, zero, suc, ◌-◌, ◌/◌, ◌^◌, ◌≤◌, ◌<◌, suc-le-suc}
use mathlib.Core.Bool.{Bool, true, false, cond}
use mathlib.Core.Path.{◌≡◌, refl, sym, ap}
use native.Mathlib.Nat.{le_refl, pow-suc}
use native.Mathlib.Omega.{arith}
use lib.Dec.{ltb, lit≤}
use lib.ListN.{length, length-append}
use borrow.Author.Tests.{ltb-true, ltb-false}
use Rattle.io.specs.Digits.{last_digits, IsDigitCount}
use Rattle.text.specs.Texts.{places_from, decimal_text}

-- a test, by either answer
by_test : (P : ℕ → Type 0) (b : Bool) {x y : ℕ} → (b ≡ true → P x) → (b ≡ false → P y) → P (cond b x y)
by_test P true f g = f refl
by_test P false f g = g refl

some_power : (k : ℕ) → 1 ≤ 10 ^ k
some_power zero = lit≤ tt
some_power (suc k) = omega (arith, pow-suc 10 k, some_power k)

-- ---- how many digits

-- the last digit taken away
less_one : (j : ℕ) → suc j - 1 ≡ j
less_one j = omega arith

fewest_low : (n j : ℕ) → IsDigitCount 10 1 n (suc j) → 1 < suc j → 10 ^ j ≤ n
fewest_low n j w more = rw (less_one j) at (w.2 more)

fewest_one : (n k : ℕ) → n < 10 → IsDigitCount 10 1 n k → 1 ≡ k
fewest_one n zero h w = absurd (omega (arith, w.0))
fewest_one n (suc zero) h w = refl
fewest_one n (suc (suc j)) h w = absurd (omega (arith, pow-suc 10 j, some_power j, fewest_low n (suc j) w (omega arith)))

fewest_tenth : (n k : ℕ) → 10 ≤ n → IsDigitCount 10 1 n (suc k) → IsDigitCount 10 1 (n / 10) k
fewest_tenth n zero h w = absurd (omega (arith, w.1))
fewest_tenth n (suc j) h w = (
  omega arith,
  omega (arith, pow-suc 10 (suc j), w.1),
  λ more. rw (less_one j) (omega (arith, pow-suc 10 j, fewest_low n (suc j) w (omega arith))),
)

places_are : (most n k : ℕ) → n ≤ most → IsDigitCount 10 1 n k → places_from most n ≡ k
unfolding places_from
places_are zero n k h w = fewest_one n k (omega arith) w
places_are (suc most) n zero h w = absurd (omega (arith, w.0))
places_are (suc most) n (suc k) h w =
    by_test (λ (p : ℕ). p ≡ suc k) (ltb n 10)
    (λ e. fewest_one n (suc k) (ltb-true n 10 e) w)
    (λ e. ap suc (places_are most (n / 10) k (omega (arith, ltb-false n 10 e)) (fewest_tenth n k (ltb-false n 10 e) w)))

places_few : (most n j : ℕ) → n < 10 ^ suc j → places_from most n ≤ suc j
unfolding places_from
places_few zero n j h = omega arith
places_few (suc most) n zero h =
    by_test (λ (p : ℕ). p ≤ 1) (ltb n 10) (λ e. lit≤ tt) (λ e. absurd (omega (arith, ltb-false n 10 e)))
places_few (suc most) n (suc j) h =
    by_test (λ (p : ℕ). p ≤ suc (suc j)) (ltb n 10) (λ e. omega arith)
    (λ e. suc-le-suc (places_few most (n / 10) j (omega (arith, pow-suc 10 (suc j)))))

-- ---- the text

length_digits : (b k n : ℕ) → length (last_digits b k n) ≡ k
length_digits b zero n = refl
length_digits b (suc k) n = rw (length-append, length_digits b k (n / b)) (omega arith)

pub decimal_is : (n k : ℕ) → IsDigitCount 10 1 n k → last_digits 10 k n ≡ decimal_text n
unfolding decimal_text
decimal_is n k w = ap (λ (p : ℕ). last_digits 10 p n) (sym (places_are n n k (le_refl n) w))

pub decimal_length : (n : ℕ) → n < 2 ^ 64 → length (decimal_text n) ≤ 20
unfolding decimal_text
decimal_length n h = rw (length_digits 10 (places_from n n) n) (places_few n n 19 (omega arith))
