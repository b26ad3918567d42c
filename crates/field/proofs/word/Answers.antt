-- `field::word` meets its contract. Assumes nothing.
use Rattle.std.proofs.Common.{◌∙◌, length}
use borrow.Author.Tests.{eq-eqb, ne_eqb}
use Rattle.field.specs.Field.{word_of}
use Rattle.field.proofs.Laws.{eight_fit}
use Rattle.field.proofs.word.Goals as goal

pub returns-then-s-ne8 : goal.returns-then-s-ne8
unfolding word_of
returns-then-s-ne8 c = rw (ne_eqb (length c.args.s.now) 8 c.if-s-ne8.true)

pub returns : goal.returns
unfolding word_of
returns c = rw (eq-eqb (length c.args.s.now) 8 c.if-s-ne8.false) (c.number.ensures ∙ eight_fit c.args.s.now c.if-s-ne8.false)
