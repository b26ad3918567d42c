-- The replies that a call is lent. Definitions only.
use Rattle.std.specs.Prelude.{ℕ, suc, zero, ◌+◌, ◌/◌, ◌%◌, cond, List, [], ◌∷◌, ◌++◌, eqb, get_or, Option, Some, None}
use Rattle.lent_replies.specs.declared.Fault.{Fault}

-- the status of a transfer: 0 but for the one that fails
unfoldable pub status_of : Option Fault → ℕ → ℕ
status_of None transfer = 0
status_of (Some fault) transfer = cond (eqb fault.transfer transfer) fault.status 0

-- a reply: its status and its eight bytes of data, of which the first is told
abbrev pub reply_of : ℕ → ℕ → List ℕ
reply_of status first = status ∷ first ∷ 0x00 ∷ 0x40 ∷ 0x10 ∷ 0x20 ∷ 0x20 ∷ 0x10 ∷ 0x30 ∷ []

-- the replies of n transfers, one behind the other, from number `transfer` on
unfoldable pub replies_from : ℕ → Option Fault → ℕ → ℕ → List ℕ
replies_from first fault transfer zero = []
replies_from first fault transfer (suc n) = reply_of (status_of fault transfer) first ++ replies_from first fault (transfer + 1) n

-- 111 of them
abbrev pub replies : ℕ → Option Fault → List ℕ
replies first fault = replies_from first fault 0 111

-- the byte at a place among them
unfoldable pub byte_of : ℕ → Option Fault → ℕ → ℕ
byte_of first fault place = get_or (reply_of (status_of fault (place / 9)) first) (place % 9) 0
