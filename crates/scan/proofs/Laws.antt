-- Where a byte stands first, by what the library's search for it finds. Assumes nothing.
use Rattle.std.proofs.Common.{◌≡◌, ◌≤◌, ℕ, ◌+◌, ◌-◌, Bool, true, false, List, [], ◌∷◌, length, length-take, length-drop, take, drop, suc, refl, sym, ◌∙◌, arith, eqb, ltb, cond, Some, None, position}
use Rattle.std.proofs.lemmas.Bool.Decides.{nat_tests}
use Rattle.std.proofs.lemmas.List.{drop-take}
use Rattle.std.proofs.lemmas.List.Recursion.{is_position_or_len}
use Rattle.std.proofs.lemmas.Option.{cond_some}
use Rattle.std.specs.List.{position_or_len}
use Rattle.scan.specs.Scan.{index_of, index_after, slice}

index_is : (byte : ℕ) (l : List ℕ) → index_of byte l ≡ position_or_len (λ b. eqb b byte) l
unfolding index_of index_after
index_is byte = is_position_or_len (index_of byte) (λ b. eqb b byte) refl (λ x xs. rw (one_more (index_of byte xs)))
  where
    one_more : (n : ℕ) → 1 + n ≡ suc n
    one_more n = omega arith

index_most : (byte : ℕ) (l : List ℕ) → index_of byte l ≤ length l
unfolding index_of index_after
index_most byte [] = omega arith
index_most byte (x ∷ xs) = go (eqb x byte) (index_of byte xs) (index_most byte xs)
  where
    go : (t : Bool) (n : ℕ) → n ≤ length xs → cond t 0 (suc n) ≤ length (x ∷ xs)
    go true n h = omega arith
    go false n h = omega arith

found : (byte : ℕ) (l : List ℕ) (i : ℕ) → position (λ b. eqb b byte) l ≡ Some i → index_of byte l ≡ i
found byte l i h = index_is byte l ∙ (cond_some (ltb (position_or_len (λ b. eqb b byte) l) (length l)) (position_or_len (λ b. eqb b byte) l) i h).1

not_found : (byte : ℕ) (l : List ℕ) → position (λ b. eqb b byte) l ≡ None → index_of byte l ≡ length l
not_found byte l h = go (position_or_len (λ b. eqb b byte) l) (index_is byte l) h
  where
    go : (n : ℕ) → index_of byte l ≡ n → cond (ltb n (length l)) (Some n) None ≡ None → index_of byte l ≡ length l
    go n e h = grind (arith, nat_tests, index_most byte l)

module _ (s : List ℕ) (start end : ℕ) (order : start ≤ end) (byte : ℕ) where
  slice_is : take (end - start) (drop start s) ≡ slice start end s
  unfolding slice
  slice_is = let e : start + (end - start) ≡ end = omega arith in sym (rw e at (drop-take start (end - start) s))

  pub found_from : (i : ℕ) → position (λ b. eqb b byte) (take (end - start) (drop start s)) ≡ Some i → start + i ≡ start + index_of byte (slice start end s)
  found_from i h = rw (← slice_is) (omega (arith, found byte _ i h))

  pub not_found_from : end ≤ length s → position (λ b. eqb b byte) (take (end - start) (drop start s)) ≡ None → end ≡ start + index_of byte (slice start end s)
  not_found_from within h = rw (← slice_is) (omega (arith, not_found byte _ h, length-take {A = ℕ}, length-drop {A = ℕ}))
