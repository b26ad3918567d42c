-- The bytes of a text, a number in decimal, and what it is to write a text into a buffer. Definitions only.
use Rattle.std.specs.Prelude.{ℕ, zero, suc, ◌+◌, ◌/◌, cond, ◌≡◌, List, [], ◌∷◌, ◌++◌, ltb, length, take, drop}
use Prim.Native.Char.{code}
use Prim.Native.String.{String, [] as end, ◌∷◌ as ◌then◌}
use Rattle.io.specs.Digits.{last_digits}

-- the codes of a text's characters: its bytes, where each is ASCII
abbrev pub bytes_of : String → List ℕ
bytes_of end = []
bytes_of (c then s) = code c ∷ bytes_of s

-- how many digits a number has in decimal: one where it is below ten, and otherwise one more than its tenth. The first argument bounds the steps.
unfoldable pub places_from : ℕ → ℕ → ℕ
places_from zero n = 1
places_from (suc most) n = cond (ltb n 10) 1 (suc (places_from most (n / 10)))

-- a number in decimal, with no zeros in front; 0 is `0`
unfoldable pub decimal_text : ℕ → List ℕ
decimal_text n = last_digits 10 (places_from n n) n

-- o' is o with the text at place n, and r is the place past the text: what stands before it, what stands behind it and the length are as they were
pub record Wrote (o : List ℕ) (n : ℕ) (o' : List ℕ) (r : ℕ) (text : List ℕ) : Type 0 where
  pub past : r ≡ n + length text
  pub front : take r o' ≡ take n o ++ text
  pub rest : drop r o' ≡ drop r o
  pub size : length o' ≡ length o
