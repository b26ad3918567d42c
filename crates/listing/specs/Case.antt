-- A call of a driver, and beside it what document 01 says of it. Bytes stand in hex, as document 01 prints them: a row is one number of sixteen bytes, a reply one of nine. Definitions only.
use Rattle.std.specs.Prelude.{◌≡◌, ℕ, zero, suc, ◌-◌, ◌/◌, ◌%◌, ◌^◌, false, List, [], ◌∷◌, ◌++◌, map, Float}
use Rattle.std.specs.Float.{binary32}
use Rattle.std.specs.Float.Ieee.{round, of_bits, to_bits}
use Rattle.bus.specs.Rows.{bytes}
use Rattle.bus.specs.Run.{Run}

-- so many bytes of a number, the highest first; a number that has more shows them in the first
abbrev pub spelled : ℕ → ℕ → List ℕ
spelled zero n = []
spelled (suc k) n = n / 256 ^ k ∷ spelled k (n % 256 ^ k)

-- the replies, one number to a transfer: the status and eight data bytes
abbrev pub replied : List ℕ → List ℕ
replied [] = []
replied (r ∷ rs) = spelled 9 r ++ replied rs

-- one that is acknowledged, and one that failed
abbrev pub acked : ℕ
acked = 0x00_0000000000000000

abbrev pub failed : ℕ
failed = 0x01_0000000000000000

-- an answer, and the bytes of each row
pub record Told (A : Type 0) : Type 0 where
  pub answer : A
  pub rows : List (List ℕ)

-- what a call does and answers, and what document 01 says
pub record Case (A : Type 0) : Type 0 where
  pub does : Told A
  pub said : Told A

-- a run in slot 3 on these replies; its answer and its rows, each of which is
-- 16 x slot + kind, address, bytes out, bytes in, status, three bytes out, eight bytes in
abbrev pub case : {A : Type 0} → Run A → List ℕ → A → List ℕ → Case A
case m replies answer rows =
    let x = m (replied replies) 3 0 in
    record { does = record { answer = x.ans; rows = map bytes x.rows }; said = record { answer = answer; rows = map (spelled 16) rows } }

-- every call of a list does what is said of it
abbrev pub Listed : {A : Type 0} → List (Case A) → Type 0
Listed {A} cases = map (λ (c : Case A). c.does) cases ≡ map (λ (c : Case A). c.said) cases

-- an f32 by its pattern; the one nearest to n / d; and the one just below a positive one
abbrev pub f32 : ℕ → Float
f32 pattern = of_bits binary32 pattern

abbrev pub decimal : ℕ → ℕ → Float
decimal n d = round binary32 false n d

abbrev pub just_below : Float → Float
just_below x = of_bits binary32 (to_bits binary32 x - 1)
