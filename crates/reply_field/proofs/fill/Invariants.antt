-- `reply_field::fill` meets its contract. The loop's invariant: the first i bytes are the column's, and zeros are behind them. Assumes nothing.
use Rattle.std.proofs.Common.{◌≡◌, length}
use Rattle.reply_field.proofs.Laws.{Filled}
use Rattle.reply_field.proofs.fill.Given as goal

abbrev pub invariant-loop-i : goal.invariant-loop-i
invariant-loop-i l = (length l.out ≡ 135) × Filled l.s l.i l.out
