-- The log's rows and the sixteen bytes of each, as document 01 lays them out. Definitions only.
use Rattle.std.specs.Prelude.{ℕ, ◌+◌, ◌*◌, ◌/◌, ◌%◌, Bool, true, false, List, [], ◌∷◌, Result, Ok, Err}
use Rattle.std.proofs.lemmas.List.Edits.{sets}
use Rattle.bus.specs.declared.Eight.{Eight}
use Rattle.bus.specs.declared.Failed.{Failed}
use Rattle.bus.specs.declared.Head.{Head}
use Rattle.bus.specs.declared.Note.{Note}
use Rattle.bus.specs.declared.Note.TheVariants.{SignalOn, EnablePower, Wait}
use Rattle.bus.specs.declared.Transfer.{Transfer}
use Rattle.bus.specs.declared.Transfer.TheVariants.{Write2, Write3, WriteRead, Read}

-- a row: a note of a slot, or a transfer of a slot with what came back
pub data Row : Type 0 where
  noted : ℕ → Note → Row
  moved : ℕ → Transfer → Result Eight Failed → Row

-- ---- what is sent: kind, address or pin, how many bytes out, how many in, three bytes out

abbrev pub head : ℕ → ℕ → ℕ → ℕ → ℕ → ℕ → ℕ → Head
head kind address outs ins x y z = record { kind = kind; address = address; outs = outs; ins = ins; out0 = x; out1 = y; out2 = z }

-- a pin's level
abbrev pub level_of : Bool → ℕ
level_of true = 1
level_of false = 0

-- kind 0 is a pin (0 signal_on, 1 enable_power) with its level, kind 4 a wait with its microseconds, the high byte first
abbrev pub note_head : Note → Head
note_head (SignalOn on) = head 0 0 1 0 (level_of on) 0 0
note_head (EnablePower on) = head 0 1 1 0 (level_of on) 0 0
note_head (Wait time) = head 4 0 2 0 (time / 256) (time % 256) 0

-- kind 1 is a write, kind 2 a write of one byte and then a read, kind 3 a read
abbrev pub transfer_head : Transfer → Head
transfer_head (Write2 address x y) = head 1 address 2 0 x y 0
transfer_head (Write3 address x y z) = head 1 address 3 0 x y z
transfer_head (WriteRead address command count) = head 2 address 1 count command 0 0
transfer_head (Read address count) = head 3 address 0 count 0 0 0

-- ---- what came back: a status (0 acknowledged, 1 failed) and eight bytes in, all 0 after a failure

-- the error of a transfer that failed, which has no more to say
abbrev pub no_answer : Failed
no_answer = record {}

abbrev pub no_data : Eight
no_data = record { b0 = 0; b1 = 0; b2 = 0; b3 = 0; b4 = 0; b5 = 0; b6 = 0; b7 = 0 }

abbrev pub status_of : Result Eight Failed → ℕ
status_of (Ok d) = 0
status_of (Err e) = 1

abbrev pub data_of : Result Eight Failed → Eight
data_of (Ok d) = d
data_of (Err e) = no_data

abbrev pub listed : Eight → List ℕ
listed d = d.b0 ∷ d.b1 ∷ d.b2 ∷ d.b3 ∷ d.b4 ∷ d.b5 ∷ d.b6 ∷ d.b7 ∷ []

-- ---- the row

-- sixteen bytes: the slot and the kind in one, then the head, the status and the data as above
unfoldable pub laid : ℕ → Head → Result Eight Failed → List ℕ
laid slot h g = (16 * slot + h.kind) ∷ h.address ∷ h.outs ∷ h.ins ∷ status_of g ∷ h.out0 ∷ h.out1 ∷ h.out2 ∷ listed (data_of g)

-- a note has the status 0 and no bytes in
unfoldable pub bytes : Row → List ℕ
bytes (noted slot n) = laid slot (note_head n) (Ok no_data)
bytes (moved slot t g) = laid slot (transfer_head t) g

-- ---- the log

-- the log with b as row number u, from place 16 x u on
unfoldable pub put : List ℕ → ℕ → List ℕ → List ℕ
put log u b = sets log (16 * u) b

-- the log with some rows, the first of them as row number u
unfoldable pub written : List ℕ → ℕ → List Row → List ℕ
written log u [] = log
written log u (r ∷ rows) = written (put log u (bytes r)) (u + 1) rows
