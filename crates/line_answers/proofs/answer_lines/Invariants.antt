-- `line_answers::answer_lines` meets its contract. The loop's invariant: the next line can be answered. Assumes nothing.
use Rattle.line_answers.proofs.answer_lines.Given as goal

abbrev pub invariant-reads : goal.invariant-reads
invariant-reads g l = goal.F-IsAlwaysCallable g l.answer
