-- A line of bytes as its columns, parted at each comma. There are no quotes: a comma always parts. Definitions only.
use Rattle.std.specs.Prelude.{ℕ, ◌-◌, ◌≤◌, ◌≡◌, cond, List, [], ◌∷◌, eqb, length, get_or, take, drop}
use Rattle.columns.specs.declared.Span.{Span}

abbrev pub comma : ℕ
comma = 44

-- with a byte more at the front of the first column
abbrev pub onto : ℕ → List (List ℕ) → List (List ℕ)
onto b [] = (b ∷ []) ∷ []
onto b (first ∷ more) = (b ∷ first) ∷ more

-- a comma begins a new column, and any other byte belongs to the one that goes on after it. So n commas make n + 1 columns, and the empty line has one, which is empty
unfoldable pub split : List ℕ → List (List ℕ)
split [] = [] ∷ []
split (b ∷ l) = cond (eqb b comma) ([] ∷ split l) (onto b (split l))

unfoldable pub count_of : List ℕ → ℕ
count_of l = length (split l)

-- column k, from 0; empty where there is none
unfoldable pub column_of : ℕ → List ℕ → List ℕ
column_of k l = get_or (split l) k []

-- the span lies within the line l, and the part of l that it spans is c
pub record Spans (l : List ℕ) (span : Span) (c : List ℕ) : Type 0 where
  pub order : span.start ≤ span.end
  pub within : span.end ≤ length l
  pub part : take (span.end - span.start) (drop span.start l) ≡ c
