-- What one line of a trace does, and what is written for it, as document 01 has it. A replay drives slot 0, and a status fills seven numbers that nobody reads. Definitions only.
use Rattle.std.specs.Prelude.{ℕ, ◌+◌, List, length, replicate, Option, Some, None}
use Rattle.conversions.specs.Constants.{zero}
use Rattle.bus.specs.Rows.{written}
use Rattle.columns.specs.Columns.{column_of}
use Rattle.reply_field.specs.Replies.{padded_of}
use Rattle.trace.specs.Trace.{parsed_of}
use Rattle.entry.specs.declared.Call.{Call}
use Rattle.entry.specs.Tests.{free_rows}
use Rattle.slots.specs.declared.Rack.{Rack}
use Rattle.slots.specs.Slots.{slot_at, number_of}
use Rattle.rack_call.specs.Calls.{Left, called}
use Rattle.sheet.specs.Lines.{answer_text, bad_text}

-- what goes on from line to line: the rack, how many rows of the log are used, and the log
pub record State : Type 0 where
  pub rack : Rack
  pub used : ℕ
  pub log : List ℕ

-- ---- a line that is a call

unfoldable pub turned : State → Call → List ℕ → Left
turned s call replies = called s.rack 0 call (free_rows s.used (length s.log)) replies (replicate 7 zero)

-- the rows in use afterwards
abbrev pub used_after : State → Left → ℕ
used_after s x = s.used + length x.rows

abbrev pub left : State → Left → State
left s x = record { rack = x.rack; used = used_after s x; log = written s.log s.used x.rows }

-- its answer's number, what then stands in slot 0, and the rows in use
abbrev pub said : State → ℕ → Left → List ℕ
said s n x = answer_text n (number_of x.verdict) (slot_at x.rack 0) (used_after s x)

-- ---- any line

abbrev pub replies_of : List ℕ → List ℕ
replies_of l = padded_of (column_of 7 l)

-- a line that does not fit has no effect
abbrev pub after_parsed : State → List ℕ → Option Call → State
after_parsed s replies (Some call) = left s (turned s call replies)
after_parsed s replies None = s

abbrev pub parsed_text : State → ℕ → List ℕ → Option Call → List ℕ
parsed_text s n replies (Some call) = said s n (turned s call replies)
parsed_text s n replies None = bad_text n

unfoldable pub after_line : State → List ℕ → State
after_line s l = after_parsed s (replies_of l) (parsed_of l)

-- what is written for line number n
unfoldable pub line_text : State → ℕ → List ℕ → List ℕ
line_text s n l = parsed_text s n (replies_of l) (parsed_of l)
