-- What the comparison of two texts says. Assumes nothing.
use Rattle.std.proofs.Common.{◌≡◌, refl, Bool, true, false, ◌&&◌, List, [], ◌∷◌, ℕ, eqb, length, ◌⊎◌, inl, inr}
use Rattle.std.proofs.lemmas.Slice.Eq.{HasBytesAt, text_from_reads}
use borrow.Author.Tests.{eqb-true, eq-eqb}
use Rattle.names.specs.Names.{same}

same_true : (l p : List ℕ) → same l p ≡ true → l ≡ p
unfolding same
same_true [] [] h = refl
same_true [] (y ∷ ys) h = cc
same_true (x ∷ xs) [] h = cc
same_true (x ∷ xs) (y ∷ ys) h = go (eqb x y) (same xs ys) (eqb-true x y) (same_true xs ys) h
  where
    go : (a b : Bool) → (a ≡ true → x ≡ y) → (b ≡ true → xs ≡ ys) → a && b ≡ true → x ∷ xs ≡ y ∷ ys
    go true true f g e = let p : x ≡ y = f refl in let q : xs ≡ ys = g refl in cc
    go true false f g e = cc
    go false b f g e = cc

pub same_cases : (l p : List ℕ) → ((same l p ≡ true) × (l ≡ p)) ⊎ (same l p ≡ false)
same_cases l p = go (same l p) (same_true l p)
  where
    go : (t : Bool) → (t ≡ true → l ≡ p) → ((t ≡ true) × (l ≡ p)) ⊎ (t ≡ false)
    go true f = inl (refl, f refl)
    go false f = inr refl

same_self : (l : List ℕ) → same l l ≡ true
unfolding same
same_self [] = refl
same_self (x ∷ xs) = rw (eq-eqb x x refl, same_self xs)

pub same_bytes : (l p : List ℕ) → length l ≡ length p → HasBytesAt l 0 p → same l p ≡ true
same_bytes l p n h = rw (text_from_reads l p n h) (same_self p)
