-- What all reads of a trace come to: document 01's replay program, however `read` hands out the trace. Definitions only; proofs/Turns has the proofs of the two statements.
use Rattle.std.specs.Prelude.{ℕ, ◌<◌, ◌^◌, cond, ◌≡◌, List, [], ◌∷◌, ◌++◌, Option, None, Some, length}
use Rattle.sheet.specs.Lines.{header_text}
use Rattle.replay_feed.specs.Feed.{Reading, fresh, reading, ran_text}
use Rattle.replay_theorems.specs.Whole.{log, whole, joined}
use Rattle.replay_turn.specs.Turn.{turned, turned_text, more_after}

-- ---- a program that makes one read after the other, as long as there may be more

-- one read: what it answered, and the chunk afterwards
pub record Read : Type 0 where
  pub got : Option ℕ
  pub chunk : List ℕ

-- what is written turn by turn. Behind a turn that is the last, whatever reads may follow count for nothing
unfoldable pub turns_text : Reading → List Read → List ℕ
turns_text r [] = []
turns_text r (x ∷ reads) = turned_text r x.got x.chunk ++ cond (more_after x.got) (turns_text (turned r x.got x.chunk) reads) []

-- with what `begin` writes, over a buffer of which only the length matters
abbrev pub printed : List ℕ → List Read → List ℕ
printed hold reads = header_text ++ turns_text (reading fresh log hold) reads

-- ---- a trace as `read` hands it out

-- the next bytes of the trace, which are put in front of the chunk, and what stands in the chunk behind them
pub record Part : Type 0 where
  pub bytes : List ℕ
  pub behind : List ℕ

-- before the trace's end a read brings a byte at least, and a chunk has 1,024
abbrev pub Parted : List Part → Type 0
Parted [] = Unit {0}
Parted (p ∷ parts) = (0 < length p.bytes) × (length (p.bytes ++ p.behind) ≡ 1024) × Parted parts

abbrev pub chunks_of : List Part → List (List ℕ)
chunks_of [] = []
chunks_of (p ∷ parts) = p.bytes ∷ chunks_of parts

-- the trace
abbrev pub bytes_of : List Part → List ℕ
bytes_of parts = joined (chunks_of parts)

-- its reads, one that brings nothing, and any others
abbrev pub reads_of : List Part → Read → List Read → List Read
reads_of [] last later = last ∷ later
reads_of (p ∷ parts) last later = record { got = Some (length p.bytes); chunk = p.bytes ++ p.behind } ∷ reads_of parts last later

-- ---- the statements

-- however a trace is handed out, what is written up to the read that finds its end is what document 01 has for the whole trace
abbrev pub AnyReads : Type 0
AnyReads = (hold : List ℕ) → length hold ≡ 514 → (parts : List Part) → Parted parts → length (bytes_of parts) < 2 ^ 64
    → (chunk : List ℕ) (later : List Read) → printed hold (reads_of parts (record { got = Some 0; chunk = chunk }) later) ≡ whole (bytes_of parts)

-- a read that fails adds nothing to what was written for the bytes before it: a line that has not ended gets no answer
abbrev pub AnyFailure : Type 0
AnyFailure = (hold : List ℕ) (parts : List Part) → Parted parts
    → (chunk : List ℕ) (later : List Read) → printed hold (reads_of parts (record { got = None; chunk = chunk }) later) ≡ header_text ++ ran_text (reading fresh log hold) (bytes_of parts)
