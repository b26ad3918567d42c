-- The replay, byte by byte: what goes on from byte to byte, and what is written. What comes of it for a whole input is in the crate `replay_theorems`. Definitions only.
use Rattle.std.specs.Prelude.{ℕ, ◌+◌, ◌%◌, ◌^◌, cond, List, [], ◌∷◌, ◌++◌, take, ◌==◌}
use Rattle.slots.specs.Slots.{empty_rack}
use Rattle.line_hold.specs.Hold.{held_after, kept_in, without_cr}
use Rattle.replay_line.specs.Line.{State, after_line, line_text}
use Rattle.replay_feed.specs.declared.Replay.{Replay}

-- the beginning
abbrev pub fresh : Replay
fresh = record { rack = empty_rack; used = 0; line = 0; held = 0 }

-- ---- lines

-- the state that the lines before have left, and the number of the line that is being read: the header has 0, and lines after it count from 1
pub record Place : Type 0 where
  pub state : State
  pub line : ℕ

abbrev pub place_of : Replay → List ℕ → Place
place_of r log = record { state = record { rack = r.rack; used = r.used; log = log }; line = r.line }

-- the line l has ended: the header has no effect
unfoldable pub passed : Place → List ℕ → Place
passed p l = record { state = cond (p.line == 0) p.state (after_line p.state l); line = (p.line + 1) % 2 ^ 64 }

unfoldable pub passed_text : Place → List ℕ → List ℕ
passed_text p l = cond (p.line == 0) [] (line_text p.state p.line l)

-- ---- bytes

abbrev pub line_feed : ℕ
line_feed = 10

-- the place, and the bytes of the line that is being read: the first `held` of the buffer `hold`
pub record Reading : Type 0 where
  pub place : Place
  pub hold : List ℕ
  pub held : ℕ

abbrev pub reading : Replay → List ℕ → List ℕ → Reading
reading r log hold = record { place = place_of r log; hold = hold; held = r.held }

abbrev pub bytes_held : Reading → List ℕ
bytes_held r = take r.held r.hold

-- a byte of the line is kept
unfoldable pub kept : Reading → ℕ → Reading
kept r b = record { place = r.place; hold = kept_in r.hold r.held b; held = held_after r.held }

-- a line feed ends the line
unfoldable pub ended : Reading → Reading
ended r = record { place = passed r.place (without_cr (bytes_held r)); hold = r.hold; held = 0 }

unfoldable pub ended_text : Reading → List ℕ
ended_text r = passed_text r.place (without_cr (bytes_held r))

abbrev pub step : Reading → ℕ → Reading
step r b = cond (b == line_feed) (ended r) (kept r b)

abbrev pub step_text : Reading → ℕ → List ℕ
step_text r b = cond (b == line_feed) (ended_text r) []

unfoldable pub ran : Reading → List ℕ → Reading
ran r [] = r
ran r (b ∷ l) = ran (step r b) l

unfoldable pub ran_text : Reading → List ℕ → List ℕ
ran_text r [] = []
ran_text r (b ∷ l) = step_text r b ++ ran_text (step r b) l

-- ---- the end of the input: a last line without a line end counts. A CR at its end belongs to no line end, and so to the line

unfoldable pub finished : Reading → Reading
finished r = cond (r.held == 0) r (record { place = passed r.place (bytes_held r); hold = r.hold; held = 0 })

unfoldable pub finished_text : Reading → List ℕ
finished_text r = cond (r.held == 0) [] (passed_text r.place (bytes_held r))
