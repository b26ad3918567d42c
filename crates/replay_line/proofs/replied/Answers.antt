-- `replay_line::replied` meets its contract: the replies that are lent are the column's, 135 bytes of them. Assumes nothing.
use mathlib.Core.Path.{sym, ap, ◌∙◌}
use lib.ListN.{length}
use Rattle.reply_field.proofs.Laws.{padded_length}
use Rattle.replay_line.proofs.replied.Goals as goal

pub slice_bounds-turn-end : goal.slice_bounds-turn-end
slice_bounds-turn-end c = sym (ap length c.fill.ensures ∙ padded_length c.args.column.now c.requires)

pub returns : goal.returns
returns c = rw (sym c.fill.ensures) c.turn.ensures
