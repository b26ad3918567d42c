-- Writing into a buffer that may be too short, and the texts of what is written. Definitions only.
use Rattle.std.specs.Prelude.{ℕ, ◌+◌, ◌-◌, ◌*◌, ◌/◌, ◌%◌, min, Bool, cond, ◌&&◌, ◌≡◌, List, [], ◌∷◌, ◌++◌, ltb, leb, length, take, drop, Float}
use Rattle.std.proofs.lemmas.List.Edits.{sets}
use Rattle.std.specs.Float.{binary32}
use Rattle.std.specs.Float.Ieee.{to_bits}

-- o' is o with the text's bytes from place n on, and r the place past those that found room. A store past the end changes nothing, so what
-- does not fit is left out.
pub record Inked (o : List ℕ) (n : ℕ) (o' : List ℕ) (r : ℕ) (text : List ℕ) : Type 0 where
  pub stored : o' ≡ sets o n text
  pub past : r ≡ n + min (length text) (length o - n)

-- ---- the texts

-- a flag as 0 or 1
abbrev pub flag_text : Bool → List ℕ
flag_text on = cond on (49 ∷ []) (48 ∷ [])

-- a hex digit, in capitals
abbrev pub hex_digit : ℕ → ℕ
hex_digit d = cond (ltb d 10) (48 + d) (55 + d)

-- a byte as two of them, the high one first
abbrev pub pair_text : ℕ → List ℕ
pair_text b = hex_digit (b / 16) ∷ hex_digit (b % 16) ∷ []

-- one text behind the other, for each of a list
unfoldable pub each : {A : Type 0} → (A → List ℕ) → List A → List ℕ
each text [] = []
each text (a ∷ l) = text a ++ each text l

-- every byte of a list
abbrev pub hex_text : List ℕ → List ℕ
hex_text l = each pair_text l

-- 32 bits, the high byte first
abbrev pub word_text : ℕ → List ℕ
word_text n = hex_text (n / 16777216 ∷ n / 65536 % 256 ∷ n / 256 % 256 ∷ n % 256 ∷ [])

-- a float as its pattern
abbrev pub float_text : Float → List ℕ
float_text x = word_text (to_bits binary32 x)

-- rows of sixteen bytes, from number `from` up to number `used`. There are none where the log does not have them all.
unfoldable pub rows_text : List ℕ → ℕ → ℕ → List ℕ
rows_text log from used = cond (leb used (length log / 16) && leb from used) (hex_text (take (16 * used - 16 * from) (drop (16 * from) log))) []
