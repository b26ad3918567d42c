-- The bytes of a line that is being read: the first 514 are held in a buffer. Definitions only.
use Rattle.std.specs.Prelude.{ℕ, ◌+◌, ◌-◌, min, ◌≡◌, cond, List, [], ◌∷◌, ◌++◌, eqb, leb, length, take, get_or, set}

abbrev pub room : ℕ
room = 514

-- one byte more, if there is room for it: how many are held, and the buffer
unfoldable pub held_after : ℕ → ℕ
held_after held = cond (leb room held) held (held + 1)

unfoldable pub kept_in : List ℕ → ℕ → ℕ → List ℕ
kept_in hold held b = cond (leb room held) hold (set hold held b)

-- a part of a line, byte after byte
unfoldable pub held_past : ℕ → List ℕ → ℕ
held_past held [] = held
held_past held (b ∷ part) = held_past (held_after held) part

unfoldable pub kept_part : List ℕ → ℕ → List ℕ → List ℕ
kept_part hold held [] = hold
kept_part hold held (b ∷ part) = kept_part (kept_in hold held b) (held_after held) part

-- what that comes to: the first 514 bytes of what was held and the part behind it. The proof is `parts` in proofs/Laws.
pub record Parts (hold : List ℕ) (held : ℕ) (part : List ℕ) : Type 0 where
  pub count : held_past held part ≡ min 514 (held + length part)
  pub bytes : take (held_past held part) (kept_part hold held part) ≡ take 514 (take held hold ++ part)

-- ---- a line that has ended at a line feed: a CR before that is of the line's end

abbrev pub carriage_return : ℕ
carriage_return = 13

abbrev pub last_of : List ℕ → ℕ
last_of l = get_or l (length l - 1) 0

unfoldable pub end_of : List ℕ → ℕ
end_of l = cond (eqb (last_of l) carriage_return) (length l - 1) (length l)

unfoldable pub without_cr : List ℕ → List ℕ
without_cr l = take (end_of l) l
