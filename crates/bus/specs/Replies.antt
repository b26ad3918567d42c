-- The replies: nine bytes to a transfer, a status and eight data bytes. Definitions only.
use Rattle.std.specs.Prelude.{ℕ, ◌+◌, ◌*◌, cond, List, get_or, eqb, ltb, Result, Ok, Err}
use Rattle.bus.specs.declared.Eight.{Eight}
use Rattle.bus.specs.declared.Failed.{Failed}
use Rattle.bus.specs.Rows.{no_answer}

-- data byte number i, or 0 where it was not asked for
abbrev pub kept_of : ℕ → ℕ → ℕ → ℕ
kept_of count i byte = cond (ltb i count) byte 0

-- the data of the reply that begins at `start`, of which the first `count` bytes were asked for
unfoldable pub data_at : List ℕ → ℕ → ℕ → Eight
data_at replies start count =
    record {
      b0 = kept_of count 0 (get_or replies (start + 1) 0);
      b1 = kept_of count 1 (get_or replies (start + 2) 0);
      b2 = kept_of count 2 (get_or replies (start + 3) 0);
      b3 = kept_of count 3 (get_or replies (start + 4) 0);
      b4 = kept_of count 4 (get_or replies (start + 5) 0);
      b5 = kept_of count 5 (get_or replies (start + 6) 0);
      b6 = kept_of count 6 (get_or replies (start + 7) 0);
      b7 = kept_of count 7 (get_or replies (start + 8) 0);
    }

-- what a transfer gets back that asks for `count` bytes, after `taken` others: a status other than 0 is a failure
unfoldable pub got_at : List ℕ → ℕ → ℕ → Result Eight Failed
got_at replies taken count = cond (eqb (get_or replies (9 * taken) 0) 0) (Ok (data_at replies (9 * taken) count)) (Err no_answer)
