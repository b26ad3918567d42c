-- Laws of the numbers: how their digits are read one by one, and that a tick and a word are numbers in a base. Assumes nothing.
use Rattle.std.proofs.Common.{◌≡◌, refl, ap, Bool, true, false, ◌&&◌, ◌||◌, cond, List, [], ◌∷◌, Some, None, ℕ, ◌+◌, ◌-◌, ◌*◌, ◌^◌, ◌≤◌, ◌<◌, leb, ltb, length, drop, get_or, add-one, drop-cons, arith}
use lib.ListN.{drop_of_length-le}
use lib.Pow.{pow-add, pow_mono}
use native.Mathlib.Nat.{lt_of_lt_of_le}
use borrow.Author.Tests.{leb-true, lt-ltb, le-ltb}
use Rattle.field.specs.Field.{is_digit, is_hex, hex_of, digit_of, number_from, decimal_from, decimal_of, word_from}

-- ---- a digit, by its byte

pub digit_none : (b : ℕ) → None ≡ digit_of b → is_hex b ≡ false
digit_none b h = go (is_hex b) (hex_of b) h
  where
    go : (t : Bool) (d : ℕ) → None ≡ cond t (Some d) None → t ≡ false
    go true d h = cc
    go false d h = refl

pub digit_some : (b d : ℕ) → Some d ≡ digit_of b → (is_hex b ≡ true) × (hex_of b ≡ d)
digit_some b d h = go (is_hex b) (hex_of b) h
  where
    go : (t : Bool) (e : ℕ) → Some d ≡ cond t (Some e) None → (t ≡ true) × (e ≡ d)
    go true e h = (refl, cc)
    go false e h = cc

-- ---- digit by digit

module _ (base : ℕ) where
  goes : (n m b : ℕ) (bs : List ℕ) → number_from base n (b ∷ []) ≡ Some m → number_from base n (b ∷ bs) ≡ number_from base m bs
  unfolding number_from
  goes n m b bs h = go (is_hex b && (ltb (hex_of b) base && ltb (base * n + hex_of b) (2 ^ 32))) (base * n + hex_of b) h
    where
      go : (t : Bool) (k : ℕ) → cond t (Some k) None ≡ Some m → cond t (number_from base k bs) None ≡ number_from base m bs
      go true k h = let e : k ≡ m = cc in ap (λ (x : ℕ). number_from base x bs) e
      go false k h = cc

  stops : (n b : ℕ) (bs : List ℕ) → number_from base n (b ∷ []) ≡ None → number_from base n (b ∷ bs) ≡ None
  unfolding number_from
  stops n b bs h = go (is_hex b && (ltb (hex_of b) base && ltb (base * n + hex_of b) (2 ^ 32))) (base * n + hex_of b) h
    where
      go : (t : Bool) (k : ℕ) → cond t (Some k) None ≡ None → cond t (number_from base k bs) None ≡ None
      go true k h = cc
      go false k h = refl

  -- the digit at i is read: what is left is read after it
  pub goes_on_lem : (s : List ℕ) (i n m : ℕ) → i < length s → number_from base n (get_or s i 0 ∷ []) ≡ Some m → number_from base n (drop i s) ≡ number_from base m (drop (i + 1) s)
  goes_on_lem s i n m l h = rw (add-one, drop-cons s i 0) (goes n m (get_or s i 0) _ h)

  -- it is none: there is no number
  pub stops_at : (s : List ℕ) (i n : ℕ) → i < length s → number_from base n (get_or s i 0 ∷ []) ≡ None → number_from base n (drop i s) ≡ None
  stops_at s i n l h = rw (drop-cons s i 0) (stops n (get_or s i 0) _ h)

  -- no digit is left
  pub at_end : (s : List ℕ) (i n : ℕ) → length s ≤ i → number_from base n (drop i s) ≡ Some n
  unfolding number_from
  at_end s i n l = rw (drop_of_length-le s l)

-- ---- what a test of two parts says of the second

right : (x y : Bool) → x && y ≡ true → y ≡ true
right true y h = h
right false y h = cc

left : (x y : Bool) → x && y ≡ true → x ≡ true
left true y h = refl
left false y h = h

digit_most : (b : ℕ) → is_digit b ≡ true → b ≤ 57
digit_most b h = leb-true b 57 (right (leb 48 b) (leb b 57) h)

-- ---- a tick is a number in base 10

tens : (n : ℕ) (l : List ℕ) → number_from 10 n l ≡ decimal_from n l
unfolding number_from decimal_from
tens n [] = refl
tens n (b ∷ bs) = go (is_digit b) (leb 65 b && leb b 70) (digit_most b) (λ h. leb-true 65 b (left (leb 65 b) (leb b 70) h)) (λ k. tens k bs)
  where
    go : (d l : Bool) → (d ≡ true → b ≤ 57) → (l ≡ true → 65 ≤ b) → ((k : ℕ) → number_from 10 k bs ≡ decimal_from k bs) → cond ((d || l) && (ltb (cond d (b - 48) (b - 55)) 10 && ltb (10 * n + cond d (b - 48) (b - 55)) (2 ^ 32))) (number_from 10 (10 * n + cond d (b - 48) (b - 55)) bs) None ≡ cond (d && ltb (10 * n + (b - 48)) (2 ^ 32)) (decimal_from (10 * n + (b - 48)) bs) None
    go true l f g same = rw (lt-ltb (b - 48) 10 (omega (arith, f refl)), same (10 * n + (b - 48)))
    go false true f g same = rw (le-ltb (b - 55) 10 (omega (arith, g refl)))
    go false false f g same = refl

pub no_digit : (s : List ℕ) → length s ≡ 0 → decimal_of s ≡ None
unfolding decimal_of
no_digit [] e = refl
no_digit (b ∷ bs) e = absurd (omega (arith, e))

pub some_digit : (s : List ℕ) → (length s ≡ 0 → ⊥) → number_from 10 0 s ≡ decimal_of s
unfolding decimal_of
some_digit [] n = absurd (n refl)
some_digit (b ∷ bs) n = tens 0 (b ∷ bs)

-- ---- a word is a number in base 16: each digit adds four bits, so eight of them fit

hex_small : (b : ℕ) → is_hex b ≡ true → hex_of b < 16
hex_small b = go (is_digit b) (leb 65 b && leb b 70) (digit_most b) (λ h. leb-true b 70 (right (leb 65 b) (leb b 70) h))
  where
    go : (d l : Bool) → (d ≡ true → b ≤ 57) → (l ≡ true → b ≤ 70) → d || l ≡ true → cond d (b - 48) (b - 55) < 16
    go true l f g h = omega (arith, f refl)
    go false true f g h = omega (arith, g refl)
    go false false f g h = cc

-- i digits were read into n
sixteens : (i n : ℕ) (l : List ℕ) → n < 2 ^ (4 * i) → i + length l ≤ 8 → number_from 16 n l ≡ word_from n l
unfolding number_from word_from
sixteens i n [] h room = refl
sixteens i n (b ∷ bs) h room = go (is_hex b) (hex_small b) (λ small. sixteens (i + 1) (16 * n + hex_of b) bs (more small) (omega arith))
  where
    more : hex_of b < 16 → 16 * n + hex_of b < 2 ^ (4 * (i + 1))
    more small = let all : 4 * (i + 1) ≡ 4 * i + 4 = omega arith in rw (all, pow-add 2 (4 * i) 4) (omega arith)

    fits : hex_of b < 16 → 16 * n + hex_of b < 2 ^ 32
    fits small = let most : 4 * (i + 1) ≤ 32 = omega arith in lt_of_lt_of_le (more small) (pow_mono most)

    go : (t : Bool) → (t ≡ true → hex_of b < 16) → (hex_of b < 16 → number_from 16 (16 * n + hex_of b) bs ≡ word_from (16 * n + hex_of b) bs) → cond (t && (ltb (hex_of b) 16 && ltb (16 * n + hex_of b) (2 ^ 32))) (number_from 16 (16 * n + hex_of b) bs) None ≡ cond t (word_from (16 * n + hex_of b) bs) None
    go true f same = let small = f refl in rw (lt-ltb (hex_of b) 16 small, lt-ltb (16 * n + hex_of b) (2 ^ 32) (fits small)) (same small)
    go false f same = refl

pub eight_fit : (s : List ℕ) → length s ≡ 8 → number_from 16 0 s ≡ word_from 0 s
eight_fit s e = sixteens 0 0 s (omega arith) (omega (arith, e))
