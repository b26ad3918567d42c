-- What the bytes of a field of a trace's line mean, as a number: a tick, 8 hex digits, a float. Definitions only.
use Rattle.std.specs.Prelude.{ℕ, ◌+◌, ◌-◌, ◌*◌, ◌^◌, Bool, ◌&&◌, ◌||◌, cond, List, [], ◌∷◌, length, leb, ltb, eqb, Option, Some, None, Float}
use Rattle.std.specs.Float.{binary32}
use Rattle.std.specs.Float.Ieee.{of_bits}

-- ---- digits

-- 0 to 9
abbrev pub is_digit : ℕ → Bool
is_digit b = leb 48 b && leb b 57

-- 0 to 9 and A to F, in capitals only
abbrev pub is_hex : ℕ → Bool
is_hex b = is_digit b || (leb 65 b && leb b 70)

-- what a hex digit counts: A is 10
abbrev pub hex_of : ℕ → ℕ
hex_of b = cond (is_digit b) (b - 48) (b - 55)

-- the same, and no number where the byte is no hex digit
abbrev pub digit_of : ℕ → Option ℕ
digit_of b = cond (is_hex b) (Some (hex_of b)) None

-- ---- digits of any base up to 16, of a number that fits 32 bits

-- the number, after digits that made n
unfoldable pub number_from : ℕ → ℕ → List ℕ → Option ℕ
number_from base n [] = Some n
number_from base n (b ∷ bs) = cond (is_hex b && (ltb (hex_of b) base && ltb (base * n + hex_of b) (2 ^ 32))) (number_from base (base * n + hex_of b) bs) None

-- ---- a tick: decimal digits, at least one, of a number that fits 32 bits; zeros may lead

-- the number, after digits that made n
unfoldable pub decimal_from : ℕ → List ℕ → Option ℕ
decimal_from n [] = Some n
decimal_from n (b ∷ bs) = cond (is_digit b && ltb (10 * n + (b - 48)) (2 ^ 32)) (decimal_from (10 * n + (b - 48)) bs) None

-- the tick
unfoldable pub decimal_of : List ℕ → Option ℕ
decimal_of [] = None
decimal_of (b ∷ bs) = decimal_from 0 (b ∷ bs)

-- ---- a word: 8 hex digits, the highest first

-- the number, after digits that made n
unfoldable pub word_from : ℕ → List ℕ → Option ℕ
word_from n [] = Some n
word_from n (b ∷ bs) = cond (is_hex b) (word_from (16 * n + hex_of b) bs) None

-- the word
unfoldable pub word_of : List ℕ → Option ℕ
word_of l = cond (eqb (length l) 8) (word_from 0 l) None

-- ---- a float: the word that is its pattern; each pattern of a NaN is the one NaN

-- the float of a pattern
abbrev pub real_of : Option ℕ → Option Float
real_of (Some n) = Some (of_bits binary32 n)
real_of None = None

-- the float
abbrev pub float_of : List ℕ → Option Float
float_of l = real_of (word_of l)
