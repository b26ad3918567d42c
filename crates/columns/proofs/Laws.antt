-- A line's columns: their number by the byte at an index, the first, and those behind a comma. Assumes nothing.
use Rattle.std.proofs.Common.{◌≡◌, ◌≤◌, ◌<◌, ℕ, zero, suc, ◌+◌, ◌-◌, Bool, true, false, cond, List, [], ◌∷◌, length, get_or, take, drop, refl, sym, ap, ◌∙◌, arith, eqb, length-drop}
use native.Mathlib.Numerals.{add-one}
use lib.ListN.{drop_of_length-le}
use lib.Seq.{drop-cons}
use borrow.Author.Tests.{eq-eqb, ne_eqb}
use Rattle.std.proofs.lemmas.List.{drop-drop}
use Rattle.scan.specs.Scan.{index_of, index_after, slice}
use Rattle.columns.specs.Columns.{comma, onto, split, count_of, column_of}
use lib.Seq.{take-length}

-- ---- a byte more at the front of the first column

onto_first : (b : ℕ) (xs : List (List ℕ)) → get_or (onto b xs) 0 [] ≡ b ∷ get_or xs 0 []
onto_first b [] = refl
onto_first b (x ∷ xs) = refl

onto_later : (b k : ℕ) (xs : List (List ℕ)) → get_or (onto b xs) (suc k) [] ≡ get_or xs (suc k) []
onto_later b k [] = refl
onto_later b k (x ∷ xs) = refl

onto_count : (b : ℕ) (xs : List (List ℕ)) → 0 < length xs → length (onto b xs) ≡ length xs
onto_count b [] h = absurd (omega arith)
onto_count b (x ∷ xs) h = refl

-- ---- the number of columns

-- no line is without a column
split_some : (l : List ℕ) → 0 < length (split l)
unfolding split
split_some [] = omega arith
split_some (b ∷ l) = go (eqb b comma)
  where
    some : (xs : List (List ℕ)) → 0 < length (onto b xs)
    some [] = omega arith
    some (x ∷ xs) = omega arith

    go : (t : Bool) → 0 < length (cond t ([] ∷ split l) (onto b (split l)))
    go true = omega arith
    go false = some (split l)

-- a comma at i is a column more than there are behind it, and any other byte is none
module _ (s : List ℕ) (i : ℕ) (h : i < length s) where
  by : (t : Bool) → eqb (get_or s i 0) comma ≡ t → count_of (drop i s) ≡ length (cond t ([] ∷ split (drop (suc i) s)) (onto (get_or s i 0) (split (drop (suc i) s))))
  unfolding count_of split
  by t e = rw (drop-cons s i 0 h, e) refl

  pub count_comma : get_or s i 0 ≡ comma → count_of (drop i s) ≡ 1 + count_of (drop (i + 1) s)
  unfolding count_of
  count_comma e =
      let more : count_of (drop i s) ≡ suc (length (split (drop (suc i) s))) = by true (eq-eqb (get_or s i 0) comma e) in
      rw add-one (omega (arith, more))

  pub count_other : (get_or s i 0 ≡ comma → ⊥) → count_of (drop i s) ≡ count_of (drop (i + 1) s)
  unfolding count_of
  count_other e = rw add-one (by false (ne_eqb (get_or s i 0) comma e) ∙ onto_count (get_or s i 0) (split (drop (suc i) s)) (split_some (drop (suc i) s)))

pub count_end : (s : List ℕ) (i : ℕ) → length s ≤ i → count_of (drop i s) ≡ 1
unfolding count_of split
count_end s i h = rw (drop_of_length-le s h) refl

-- ---- the columns of a line, by where its first comma stands

-- the first column ends before it
first_front : (l : List ℕ) → take (index_of comma l) l ≡ column_of 0 l
unfolding column_of split index_of index_after
first_front [] = refl
first_front (b ∷ l) = go (eqb b comma) (first_front l)
  where
    go : (t : Bool) → take (index_of comma l) l ≡ get_or (split l) 0 [] → take (index_after t (index_of comma l)) (b ∷ l) ≡ get_or (cond t ([] ∷ split l) (onto b (split l))) 0 []
    go true h = refl
    go false h = ap {B = List ℕ} (λ r. b ∷ r) h ∙ sym (onto_first b (split l))

-- the others stand behind it
behind : (m : ℕ) (l : List ℕ) → index_of comma l < length l → column_of (suc m) l ≡ column_of m (drop (suc (index_of comma l)) l)
unfolding column_of split index_of index_after
behind m [] h = absurd (omega arith)
behind m (b ∷ l) h = go (eqb b comma) (behind m l) h
  where
    go : (t : Bool) → (index_of comma l < length l → get_or (split l) (suc m) [] ≡ get_or (split (drop (suc (index_of comma l)) l)) m []) → index_after t (index_of comma l) < length (b ∷ l) → get_or (cond t ([] ∷ split l) (onto b (split l))) (suc m) [] ≡ get_or (split (drop (suc (index_after t (index_of comma l))) (b ∷ l))) m []
    go true more h = refl
    go false more h = onto_later b m (split l) ∙ more (omega arith)

-- where there is none, nor are they
alone : (m : ℕ) (l : List ℕ) → index_of comma l ≡ length l → column_of (suc m) l ≡ []
unfolding column_of split index_of index_after
alone m [] h = refl
alone m (b ∷ l) h = go (eqb b comma) (alone m l) h
  where
    go : (t : Bool) → (index_of comma l ≡ length l → get_or (split l) (suc m) [] ≡ []) → index_after t (index_of comma l) ≡ length (b ∷ l) → get_or (cond t ([] ∷ split l) (onto b (split l))) (suc m) [] ≡ []
    go true more h = absurd (omega arith)
    go false more h = onto_later b m (split l) ∙ more (omega arith)

-- ---- the same, from a place of the line on: e is the place of the next comma, or the line's end

module _ (s : List ℕ) (i e : ℕ) (within : i ≤ length s) (place : e ≡ i + index_of comma (slice i (length s) s)) where
  -- up to the end, a slice is what stands from its start on
  front : index_of comma (drop i s) ≡ e - i
  unfolding slice
  front = let p : index_of comma (drop i (take (length s) s)) ≡ e - i = omega arith in rw take-length at p

  pub first : take (e - i) (drop i s) ≡ column_of 0 (drop i s)
  first = rw (← front) (first_front (drop i s))

  pub passed : (k : ℕ) → 0 < k → e < length s → column_of k (drop i s) ≡ column_of (k - 1) (drop (e + 1) s)
  passed zero z h = absurd (omega arith)
  passed (suc m) z h =
      let some : index_of comma (drop i s) < length (drop i s) = simp length-drop (omega (arith, front)) in
      let at : i + suc (index_of comma (drop i s)) ≡ e + 1 = omega (arith, front) in
      let less : suc m - 1 ≡ m = omega arith in
      rw less (behind m (drop i s) some ∙ ap (column_of m) (drop-drop _ i s ∙ ap (λ (n : ℕ). drop n s) at))

  pub none : (k : ℕ) → 0 < k → e ≡ length s → column_of k (drop i s) ≡ []
  none zero z h = absurd (omega arith)
  none (suc m) z h = alone m (drop i s) (simp length-drop (omega (arith, front)))
