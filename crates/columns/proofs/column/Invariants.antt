-- `columns::column` meets its contract. The loop's invariant: what is left to pass of the line from `start` on is column k of the line. Assumes nothing.
use Rattle.std.proofs.Common.{◌≡◌, ◌≤◌, ◌-◌, length, drop}
use Rattle.columns.specs.Columns.{column_of}
use Rattle.columns.proofs.column.Given as goal

abbrev pub invariant-loop : goal.invariant-loop
invariant-loop l = (l.start ≤ length l.s) × (l.counter ≤ l.k) × (column_of (l.k - l.counter) (drop l.start l.s) ≡ column_of l.k l.s)
