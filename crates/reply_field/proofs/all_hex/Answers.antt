-- `reply_field::all_hex` meets its contract: the closure tests a byte as the definition does. Assumes nothing.
use Rattle.std.proofs.Common.{rules, ◌∙◌}
use borrow.Author.Tests.{tests}
use Rattle.std.proofs.lemmas.Iterator.{YieldsList-from_slice}
use Rattle.std.proofs.lemmas.Iterator.Search.{all_from_yields_List}
use Rattle.field.specs.Field.{is_hex}
use Rattle.reply_field.proofs.Laws.{hex_is, all_is}
use Rattle.reply_field.proofs.all_hex.Goals as goal

pub returns : goal.returns
returns c = all_from_yields_List is_hex _ _ _ c.all.ensures.ran (YieldsList-from_slice c.args.s.now cc) (λ x b q k. search (rules, tests, hex_is)) ∙ all_is c.args.s.now
