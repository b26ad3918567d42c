-- What the replay writes for a whole input: document 01's replay program, bytes to bytes. Definitions only.
use Rattle.std.specs.Prelude.{ℕ, suc, ◌≤◌, cond, List, [], ◌∷◌, ◌++◌, eqb, length, take, replicate}
use Rattle.slots.specs.Slots.{empty_rack}
use Rattle.sheet.specs.Lines.{header_text}
use Rattle.line_hold.specs.Hold.{without_cr}
use Rattle.replay_line.specs.Line.{State, after_line, line_text}
use Rattle.replay_feed.specs.Feed.{line_feed, Reading, fresh, reading, ran, ran_text, finished_text}

-- ---- the lines of an input

-- behind the last line feed there is one line more, unless there is nothing
abbrev pub rest : List ℕ → List (List ℕ)
rest [] = []
rest (b ∷ l) = (b ∷ l) ∷ []

-- l is what has been read of the line. A line feed ends it, and a CR before that is of the line's end
unfoldable pub lines_from : List ℕ → List ℕ → List (List ℕ)
lines_from l [] = rest l
lines_from l (b ∷ input) = cond (eqb b line_feed) (without_cr l ∷ lines_from [] input) (lines_from (l ++ b ∷ []) input)

abbrev pub lines_of : List ℕ → List (List ℕ)
lines_of input = lines_from [] input

-- the first line is the header, whatever it holds
abbrev pub behind_header : List (List ℕ) → List (List ℕ)
behind_header [] = []
behind_header (header ∷ lines) = lines

-- ---- what is written

-- lines of which the first has number n
unfoldable pub answered : State → ℕ → List (List ℕ) → List ℕ
answered s n [] = []
answered s n (l ∷ lines) = line_text s n l ++ answered (after_line s l) (suc n) lines

-- an empty rack, and a log of 65,536 bytes of which none is used
abbrev pub log : List ℕ
log = replicate 65536 0

abbrev pub start : State
start = record { rack = empty_rack; used = 0; log = log }

unfoldable pub whole : List ℕ → List ℕ
whole input = header_text ++ answered start 1 (behind_header (lines_of input))

-- ---- an input that comes in chunks

abbrev pub joined : List (List ℕ) → List ℕ
joined [] = []
joined (chunk ∷ chunks) = chunk ++ joined chunks

-- no chunk is longer than what `feed` takes at a time
abbrev pub Short : List (List ℕ) → Type 0
Short [] = Unit {0}
Short (chunk ∷ chunks) = (length chunk ≤ 1024) × Short chunks

-- what is written by `feed` for each of the chunks and by `finish` at the end, as their promises say it
unfoldable pub fed_text : Reading → List (List ℕ) → List ℕ
fed_text r [] = finished_text r
fed_text r (chunk ∷ chunks) = ran_text r (take 1024 chunk) ++ fed_text (ran r (take 1024 chunk)) chunks

-- with what `begin` writes, over a buffer of which only the length matters
unfoldable pub chunked : List ℕ → List (List ℕ) → List ℕ
chunked hold chunks = header_text ++ fed_text (reading fresh log hold) chunks
