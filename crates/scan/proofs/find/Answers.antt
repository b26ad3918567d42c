-- `scan::find` meets its contract, by what the library's search ensures. Assumes nothing.
use Rattle.std.proofs.Common.{sym, ◌∙◌, rules, ◌==◌}
use borrow.Author.Tests.{tests}
use Rattle.std.proofs.lemmas.Iterator.{YieldsList-from_slice}
use Rattle.std.proofs.lemmas.Iterator.Search.{position_from_yields_List}
use Rattle.scan.proofs.Laws.{found_from, not_found_from}
use Rattle.scan.proofs.find.Goals as goal

pub returns-in-Some-clause-place : goal.returns-in-Some-clause-place
returns-in-Some-clause-place c = found_from c.args.s.now c.args.start c.args.end c.requires.order c.args.byte c.in-Some.i (sym (position_from_yields_List (λ b. b == c.args.byte) _ _ _ c.position.ensures.ran (YieldsList-from_slice _ cc) (λ x b q k. search (rules, tests))) ∙ c.in-Some.is)

pub returns-in-None-clause-place : goal.returns-in-None-clause-place
returns-in-None-clause-place c = not_found_from c.args.s.now c.args.start c.args.end c.requires.order c.args.byte c.requires.within (sym (position_from_yields_List (λ b. b == c.args.byte) _ _ _ c.position.ensures.ran (YieldsList-from_slice _ cc) (λ x b q k. search (rules, tests))) ∙ c.in-None.is)
