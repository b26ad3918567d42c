-- What the definitions of `Ink` come to, said a second time. The proofs, `inking` and `spelt`, are in `proofs/Laws`.
use Rattle.std.specs.Prelude.{ℕ, ◌+◌, ◌≤◌, true, false, ◌≡◌, List, [], ◌∷◌, ◌++◌, length}
use Rattle.text.specs.Texts.{bytes_of, Wrote}
use Rattle.pen.specs.Ink.{Inked, flag_text, hex_text, word_text, rows_text}

pub record Inking : Type 0 where
  -- one text behind another is both at once
  pub behind : {o o' o'' : List ℕ} {n r s : ℕ} {a b : List ℕ} → Inked o n o' r a → Inked o' r o'' s b → Inked o n o'' s (a ++ b)
  -- where there is room, the text stands in its place and all else is as it was
  pub with_room : {o o' : List ℕ} {n r : ℕ} {text : List ℕ} → n + length text ≤ length o → Inked o n o' r text → Wrote o n o' r text
  -- where there is none, nothing changes
  pub without_room : {o o' : List ℕ} {n r : ℕ} {text : List ℕ} → length o ≤ n → Inked o n o' r text → (o' ≡ o) × (r ≡ n)

-- both flags; every hex digit, high and low; a word; the second row of two
pub record Spelt : Type 0 where
  pub flags : flag_text true ++ flag_text false ≡ bytes_of "10"
  pub bytes : hex_text (0x01 ∷ 0x23 ∷ 0x45 ∷ 0x67 ∷ 0x89 ∷ 0xAB ∷ 0xCD ∷ 0xEF ∷ []) ≡ bytes_of "0123456789ABCDEF"
  pub turned : hex_text (0x10 ∷ 0x32 ∷ 0x54 ∷ 0x76 ∷ 0x98 ∷ 0xBA ∷ 0xDC ∷ 0xFE ∷ []) ≡ bytes_of "1032547698BADCFE"
  pub word : word_text 0x3F8A0C71 ≡ bytes_of "3F8A0C71"
  pub row : (a : ℕ) → rows_text (a ∷ 1 ∷ 2 ∷ 3 ∷ 4 ∷ 5 ∷ 6 ∷ 7 ∷ 8 ∷ 9 ∷ 10 ∷ 11 ∷ 12 ∷ 13 ∷ 14 ∷ 15 ∷ 16 ∷ 17 ∷ 18 ∷ 19 ∷ 20 ∷ 21 ∷ 22 ∷ 23 ∷ 24 ∷ 25 ∷ 26 ∷ 27 ∷ 28 ∷ 29 ∷ 30 ∷ 31 ∷ []) 1 2
      ≡ bytes_of "101112131415161718191A1B1C1D1E1F"
