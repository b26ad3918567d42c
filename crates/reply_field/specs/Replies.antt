-- The replies of a trace's line: what their hex digits mean, as bytes. Definitions only.
use Rattle.std.specs.Prelude.{ℕ, ◌+◌, ◌-◌, ◌*◌, ◌%◌, Bool, true, cond, ◌&&◌, List, [], ◌∷◌, ◌++◌, leb, eqb, length, replicate}
use Rattle.field.specs.Field.{is_hex, hex_of}

-- the bytes that pairs of digits make, the high digit first
unfoldable pub pairs_of : List ℕ → List ℕ
pairs_of [] = []
pairs_of (a ∷ []) = []
pairs_of (a ∷ b ∷ l) = (16 * hex_of a + hex_of b) ∷ pairs_of l

-- every byte is a hex digit
unfoldable pub all_hex : List ℕ → Bool
all_hex [] = true
all_hex (b ∷ l) = is_hex b && all_hex l

-- a column of replies: at most 270 digits, in pairs. There may be none
unfoldable pub fits_of : List ℕ → Bool
fits_of l = leb (length l) 270 && (eqb (length l % 2) 0 && all_hex l)

-- the 135 bytes of replies: those of the column, and zeros behind them
unfoldable pub padded_of : List ℕ → List ℕ
padded_of l = pairs_of l ++ replicate (135 - length (pairs_of l)) 0

-- what an array holds once a column was put in: the column's bytes if it fits, and what it held before if not
unfoldable pub filled_of : List ℕ → List ℕ → List ℕ
filled_of l held = cond (fits_of l) (padded_of l) held
