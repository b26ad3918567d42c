-- `replay_line::answer` meets its contract: a line that does not fit, and one that is a call. Assumes nothing.
use borrow.Author.Rules.{rules}
use mathlib.Core.Path.{sym, ◌∙◌}
use Rattle.sheet.proofs.Lengths.{bad_length, answer_length}
use Rattle.replay_line.proofs.Laws.{call_fits, state, tells_bad, tells_call}
use Rattle.replay_line.proofs.answer.Goals as goal

pub returns-in_default-clause-line : goal.returns-in_default-clause-line
returns-in_default-clause-line c = tells_bad (state c.args.rack c.args.used c.args.log.now) c.args.line c.args.s.now (sym c.parse.ensures ∙ c.in_default.is) c.put_bad.ensures.text (bad_length c.args.line (search rules))

pub replied-turn-requires : goal.replied-turn-requires
replied-turn-requires c = rw c.part-column.ensures (call_fits c.args.s.now (sym c.parse.ensures ∙ c.in-Some.is))

pub returns-clause-line : goal.returns-clause-line
returns-clause-line c = tells_call (state c.args.rack c.args.used c.args.log.now) c.args.line c.args.s.now (sym c.parse.ensures ∙ c.in-Some.is) (rw c.part-column.ensures at c.replied-turn.ensures) c.number-number.ensures c.slot_at-standing.ensures c.put_answer.ensures.text (answer_length c.args.line c.number-number.result c.slot_at-standing.result c.replied-turn.result.used (search rules) (search rules) (search rules))
