-- Two runs that agree on what stands in the slot, on the arguments and on the replies agree on everything. Definitions only.
use Rattle.std.specs.Prelude.{◌≡◌, List, ℕ}
use Rattle.bus.specs.declared.Cursor.{Cursor}
use Rattle.bus.specs.Rows.{Row, written}
use Rattle.bus.specs.Run.{Run, Does}

-- the same answer, the same count of replies, and the same rows, each in its own log
pub record Agreed {A : Type 0} (l l' k k' : List ℕ) (c c' d d' : Cursor) (a b : A) : Type 0 where
  pub ans : a ≡ b
  pub taken : c'.taken ≡ d'.taken
  pub rows : List Row
  pub left : l' ≡ written l c.used rows
  pub right : k' ≡ written k d.used rows

-- answer, rows and how many replies are taken: what the logs l and k hold and how many of their rows are used does not matter
abbrev pub RunsAgree : Type 1
RunsAgree =
    (A : Type 0) (m : Run A) (rs l l' k k' : List ℕ) (c c' d d' : Cursor) (n t n₂ t₂ : ℕ) (a b : A)
    → Does m rs l c n t l' c' a → Does m rs k d n₂ t₂ k' d' b → c.slot ≡ d.slot → c.taken ≡ d.taken → Agreed l l' k k' c c' d d' a b
