-- `columns::count` meets its contract. The loop's invariant: the columns counted and those of the line from i on are one more than the line's, since the column at i is among both; and at most one column is counted for each byte passed, beside the first. Assumes nothing.
use Rattle.std.proofs.Common.{◌≡◌, ◌≤◌, ◌+◌, drop}
use Rattle.columns.specs.Columns.{count_of}
use Rattle.columns.proofs.count.Given as goal

abbrev pub invariant-loop-b : goal.invariant-loop-b
invariant-loop-b l = (l.n ≤ l.b-index + 1) × (l.n + count_of (drop l.b-index l.s) ≡ 1 + count_of l.s)
