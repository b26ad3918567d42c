-- Bytes by their place are replies one behind the other. Assumes nothing.
use Rattle.std.proofs.Common.{ℕ, suc, zero, ◌+◌, ◌*◌, ◌/◌, ◌%◌, ◌<◌, ◌≡◌, List, ◌∷◌, ◌++◌, get_or}
use Rattle.std.specs.List.{range_with_len}
use Rattle.std.specs.Prelude.{map, Option}
use Rattle.lent_replies.specs.Lent.{status_of, reply_of, replies_from, byte_of}
use Rattle.lent_replies.specs.declared.Fault.{Fault}
use mathlib.Core.Path.{◌∙◌, ap, refl}
use native.Mathlib.Omega.{arith}

module _ (first : ℕ) (fault : Option Fault) where
  cons : {x y : ℕ} {l m : List ℕ} → x ≡ y → l ≡ m → x ∷ l ≡ y ∷ m
  cons {x} {y} {l} {m} e f = ap (λ a. a ∷ l) e ∙ ap (λ a. y ∷ a) f

  -- byte j of a reply
  at_byte : (k j place : ℕ) → place ≡ 9 * k + j → j < 9 → byte_of first fault place ≡ get_or (reply_of (status_of fault k) first) j 0
  unfolding byte_of
  at_byte k j place is below =
      let whole : place / 9 ≡ k = omega (arith, is, below) in
      let part : place % 9 ≡ j = omega (arith, is, below) in
      ap (λ t. get_or (reply_of (status_of fault t) first) (place % 9) 0) whole ∙ ap (λ t. get_or (reply_of (status_of fault k) first) t 0) part

  one_reply : (k m : ℕ) → map (byte_of first fault) (range_with_len (9 * k) (suc (suc (suc (suc (suc (suc (suc (suc (suc m)))))))))) ≡ reply_of (status_of fault k) first ++ map (byte_of first fault) (range_with_len (9 * (k + 1)) m)
  one_reply k m =
      cons (at_byte k 0 _ (omega arith) (omega arith))
      (cons (at_byte k 1 _ (omega arith) (omega arith))
      (cons (at_byte k 2 _ (omega arith) (omega arith))
      (cons (at_byte k 3 _ (omega arith) (omega arith))
      (cons (at_byte k 4 _ (omega arith) (omega arith))
      (cons (at_byte k 5 _ (omega arith) (omega arith))
      (cons (at_byte k 6 _ (omega arith) (omega arith))
      (cons (at_byte k 7 _ (omega arith) (omega arith))
      (cons (at_byte k 8 _ (omega arith) (omega arith))
      (ap (λ a. map (byte_of first fault) (range_with_len a m)) (omega arith))))))))))

  pub nines : (k n : ℕ) → map (byte_of first fault) (range_with_len (9 * k) (9 * n)) ≡ replies_from first fault k n
  unfolding replies_from
  nines k zero = refl
  nines k (suc n) =
      let more : 9 * suc n ≡ suc (suc (suc (suc (suc (suc (suc (suc (suc (9 * n))))))))) = omega arith in
      ap (λ m. map (byte_of first fault) (range_with_len (9 * k) m)) more ∙ one_reply k (9 * n) ∙ ap (λ l. reply_of (status_of fault k) first ++ l) (nines (k + 1) n)
