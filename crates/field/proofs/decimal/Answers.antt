-- `field::decimal` meets its contract. Assumes nothing.
use Rattle.std.proofs.Common.{◌≡◌, sym, ◌∙◌, arith, length}
use Rattle.std.proofs.lemmas.Bool.Decides.{nat_tests}
use Rattle.field.proofs.Laws.{no_digit, some_digit}
use Rattle.field.proofs.decimal.Goals as goal

pub returns-then-is_empty : goal.returns-then-is_empty
returns-then-is_empty c = sym (no_digit c.args.s.now (let e : length c.args.s.now ≡ 0 = grind (arith, nat_tests) in e))

pub returns : goal.returns
returns c = c.number.ensures ∙ some_digit c.args.s.now (λ (e : length c.args.s.now ≡ 0). grind (arith, nat_tests))
