-- Which calls are let in. Definitions only.
use Rattle.std.specs.Prelude.{ℕ, ◌+◌, ◌*◌, cond, leb, Result, Ok, Err}
use Rattle.bus.specs.declared.Cursor.{Cursor}
use Rattle.gate.specs.declared.Bar.{Bar}
use Rattle.gate.specs.declared.Bar.TheVariants.{Slot, Log, Replies}
use Rattle.bus.specs.declared.Failed.{Failed}
use Rattle.bus.specs.declared.Error.{Error}
use Rattle.bus.specs.declared.Error.TheVariants as Chip

-- the rows that a call may add, and the bytes of the replies that it may take: nine to each of fifteen transfers
abbrev pub rows : ℕ
rows = 20

abbrev pub transfers : ℕ
transfers = 15

-- where a call begins
abbrev pub start : ℕ → ℕ → Cursor
start slot used = record { slot = slot; used = used; taken = 0 }

-- the log holds 20 whole rows more than are used, and the replies 135 bytes
abbrev pub room_of : ℕ → ℕ → ℕ → ℕ → Result Cursor Bar
room_of slot used log replies = cond (leb (16 * (used + rows)) log) (cond (leb (9 * transfers) replies) (Ok (start slot used)) (Err Replies)) (Err Log)

-- the slot is one of eight, and there is room
abbrev pub gate_of : ℕ → ℕ → ℕ → ℕ → Result Cursor Bar
gate_of slot used log replies = cond (leb slot 7) (room_of slot used log replies) (Err Slot)

-- document 01's number of each refusal
abbrev pub number_of : Bar → ℕ
number_of Slot = 1
number_of Log = 5
number_of Replies = 6

abbrev pub failed_number : Failed → ℕ
failed_number f = 12

abbrev pub error_number : Error → ℕ
error_number Chip.Range = 11
error_number Chip.Bus = 12

-- of a driver's answer: 0 where all was done, and otherwise the number of the error, or of what shut it out
abbrev pub answer_number : {A E : Type 0} → (E → ℕ) → Result (Result A E) Bar → ℕ
answer_number n (Ok (Ok a)) = 0
answer_number n (Ok (Err e)) = n e
answer_number n (Err bar) = number_of bar
