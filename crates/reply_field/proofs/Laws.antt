-- Laws of the replies: a digit's range, a column digit by digit, and its bytes by their place. Assumes nothing.
use Rattle.std.proofs.Common.{◌≡◌, ◌≤◌, ◌<◌, refl, sym, ap, ◌∙◌, Bool, true, false, ◌&&◌, cond, List, [], ◌∷◌, ◌++◌, ℕ, zero, suc, ◌+◌, ◌-◌, ◌*◌, ◌%◌, arith, leb, eqb, length, get_or, set, replicate, length-append, Some, None, is_some, below_more, get_or-set_same, get_or-set_other}
use lib.ListN.{length-replicate, get_or-eq_default}
use lib.Seq.{ext_get_or}
use borrow.Author.Tests.{leb-true, leb-false, eqb-true}
use Rattle.std.specs.List.{list_all}
use Rattle.field.specs.Field.{is_hex, hex_of, digit_of}
use Rattle.reply_field.specs.Replies.{pairs_of, all_hex, fits_of, padded_of}

-- ---- two tests that both hold

left : (x y : Bool) → x && y ≡ true → x ≡ true
left true y h = refl
left false y h = h

right : (x y : Bool) → x && y ≡ true → y ≡ true
right true y h = h
right false y h = cc

-- ---- digits

-- a byte is a digit where the digit that it counts is there
pub hex_is : (b : ℕ) → is_some (digit_of b) ≡ is_hex b
hex_is b = go (is_hex b)
  where
    go : (t : Bool) → is_some (cond t (Some (hex_of b)) None) ≡ t
    go true = refl
    go false = refl

pub all_is : (l : List ℕ) → list_all is_hex l ≡ all_hex l
unfolding all_hex
all_is [] = refl
all_is (b ∷ l) = ap (λ (t : Bool). is_hex b && t) (all_is l)

pub hex_at : (l : List ℕ) → all_hex l ≡ true → (k : ℕ) → k < length l → is_hex (get_or l k 0) ≡ true
unfolding all_hex
hex_at [] e k h = absurd (omega arith)
hex_at (b ∷ l) e zero h = left (is_hex b) (all_hex l) e
hex_at (b ∷ l) e (suc k) h = hex_at l (right (is_hex b) (all_hex l) e) k (omega arith)

-- ---- a column that fits

pub record Column (l : List ℕ) : Type 0 where
  pub short : length l ≤ 270
  pub even : length l % 2 ≡ 0
  pub hex : all_hex l ≡ true

pub column : (l : List ℕ) → fits_of l ≡ true → Column l
unfolding fits_of
column l h =
    let pairs = eqb (length l % 2) 0 in
    let rest = right (leb (length l) 270) (pairs && all_hex l) h in
    record {
      short = leb-true (length l) 270 (left (leb (length l) 270) (pairs && all_hex l) h);
      even = eqb-true (length l % 2) 0 (left pairs (all_hex l) rest);
      hex = right pairs (all_hex l) rest;
    }

-- ---- its bytes

-- byte i is the pair at 2 * i
pub pairs_at : (l : List ℕ) (i : ℕ) → 2 * i + 1 < length l → 16 * hex_of (get_or l (2 * i) 0) + hex_of (get_or l (2 * i + 1) 0) ≡ get_or (pairs_of l) i 0
unfolding pairs_of
pairs_at [] i h = absurd (omega arith)
pairs_at (a ∷ []) i h = absurd (omega arith)
pairs_at (a ∷ b ∷ l) zero h = refl
pairs_at (a ∷ b ∷ l) (suc i) h =
    let low : 2 * suc i + 1 ≡ suc (suc (2 * i + 1)) = omega arith in
    let high : 2 * suc i ≡ suc (suc (2 * i)) = omega arith in
    rw (low, high) (pairs_at l i (omega arith))

pairs_length : (l : List ℕ) → 2 * length (pairs_of l) ≤ length l
unfolding pairs_of
pairs_length [] = omega arith
pairs_length (a ∷ []) = omega arith
pairs_length (a ∷ b ∷ l) = omega (arith, pairs_length l)

pub pairs_past : (l : List ℕ) (i : ℕ) → length l ≤ 2 * i → get_or (pairs_of l) i 0 ≡ 0
pairs_past l i h = get_or-eq_default (pairs_of l) 0 (omega (arith, pairs_length l))

-- ---- zeros behind them

zeros : (n k : ℕ) → ◌≡◌ {A = ℕ} (get_or (replicate n 0) k 0) 0
zeros zero k = refl
zeros (suc n) zero = refl
zeros (suc n) (suc k) = zeros n k

-- behind a list's end there is 0 already, by default
behind : (l : List ℕ) (n k : ℕ) → get_or (l ++ replicate n 0) k 0 ≡ get_or l k 0
behind [] n k = zeros n k
behind (a ∷ l) n zero = refl
behind (a ∷ l) n (suc k) = behind l n k

-- a caller that lends the filled array on has its length from here
pub padded_length : (l : List ℕ) → fits_of l ≡ true → length (padded_of l) ≡ 135
unfolding padded_of
padded_length l h =
    let whole = column l h in
    simp (length-append, length-replicate) (omega (arith, pairs_length l))

-- ---- byte by byte

-- the first i bytes are those of the column l, and zeros are behind them
pub record Filled (l : List ℕ) (i : ℕ) (out : List ℕ) : Type 0 where
  pub front : (k : ℕ) → k < i → get_or out k 0 ≡ get_or (pairs_of l) k 0
  pub behind : (k : ℕ) → i ≤ k → get_or out k 0 ≡ 0

pub filled_none : (l : List ℕ) {out : List ℕ} → out ≡ replicate 135 0 → Filled l 0 out
filled_none l e = record { front = λ k h. absurd (omega arith); behind = λ k h. rw e (zeros 135 k) }

pub filled_more : (l out : List ℕ) (i b : ℕ) → i < length out → b ≡ get_or (pairs_of l) i 0 → Filled l i out → Filled l (i + 1) (set out i b)
filled_more l out i b h e f = record {
  front =
      below_more (λ (k : ℕ). get_or (set out i b) k 0 ≡ get_or (pairs_of l) k 0) i
      (λ k s. get_or-set_other out i k b 0 (λ (q : k ≡ i). omega arith) ∙ f.front k s)
      (get_or-set_same out i b 0 h ∙ e);
  behind = λ k s. get_or-set_other out i k b 0 (λ (q : k ≡ i). omega arith) ∙ f.behind k (omega arith);
}

-- behind the column's last pair both are 0
pub filled_all : (l out : List ℕ) (i : ℕ) → fits_of l ≡ true → length out ≡ 135 → length l ≤ 2 * i → Filled l i out → out ≡ padded_of l
unfolding padded_of
filled_all l out i h e m f = ext_get_or 0 out (padded_of l) (e ∙ sym (padded_length l h)) (λ k s. at k ∙ sym (behind (pairs_of l) (135 - length (pairs_of l)) k))
  where
    at : (k : ℕ) → get_or out k 0 ≡ get_or (pairs_of l) k 0
    at k = go (leb i k) refl
      where
        go : (t : Bool) → leb i k ≡ t → get_or out k 0 ≡ get_or (pairs_of l) k 0
        go true past = f.behind k (leb-true i k past) ∙ sym (pairs_past l k (omega (arith, leb-true i k past)))
        go false short = f.front k (leb-false i k short)
