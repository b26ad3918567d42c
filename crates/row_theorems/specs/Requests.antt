-- How many rows a request may have. Definitions only.
use Rattle.std.specs.Prelude.{ℕ, ◌≤◌, List, length}
use Rattle.rf_channel.specs.declared.RfChannel.{RfChannel}
use Rattle.rf_call.specs.declared.Givens.{Givens}
use Rattle.rf_calls.specs.declared.Request.{Request}
use Rattle.rf_calls.specs.Requests.{requested}

-- a request of a channel has n rows at most, whatever the replies are
abbrev pub RequestRows : ℕ → Type 0
RequestRows n = (c : RfChannel) (r : Request) (g : Givens) (replies : List ℕ) (slot taken : ℕ) → length (requested c r g replies slot taken).rows ≤ n

-- 7 are the most (rack_theorems: `RowsAtMost`), and 6 are too few: a status whose last reading fails has 7
abbrev pub SixTooFew : Type 0
SixTooFew = RequestRows 6 → ⊥
