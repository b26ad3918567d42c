-- Where a byte stands first in a list, and the part of a list between two places. Definitions only.
use Rattle.std.specs.Prelude.{ℕ, suc, Bool, cond, eqb, List, [], ◌∷◌, take, drop}

-- one place later, unless it was found here
unfoldable pub index_after : Bool → ℕ → ℕ
index_after here i = cond here 0 (suc i)

-- the place of the first such byte, or the list's length where there is none
unfoldable pub index_of : ℕ → List ℕ → ℕ
index_of byte [] = 0
index_of byte (b ∷ l) = index_after (eqb b byte) (index_of byte l)

-- what stands from one place up to, not including, another
unfoldable pub slice : ℕ → ℕ → List ℕ → List ℕ
slice start end l = drop start (take end l)
