-- `line_answers::answer_chunk` meets its contract. The loop's invariant: the next line can be answered. The measure is what is left of the chunk. Assumes nothing.
use Rattle.std.proofs.Common.{length}
use Rattle.line_answers.proofs.answer_chunk.Given as goal

abbrev pub invariant-loop-end : goal.invariant-loop-end
invariant-loop-end g l = goal.F-IsAlwaysCallable g l.answer

abbrev pub decreases-loop-end : goal.decreases-loop-end
decreases-loop-end g l = length l.rest
