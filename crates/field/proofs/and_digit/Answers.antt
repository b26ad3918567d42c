-- `field::and_digit` meets its contract: the code's tests are those of the definition. Assumes nothing.
use Rattle.std.proofs.Common.{arith}
use Rattle.std.proofs.lemmas.Bool.Decides.{nat_tests}
use Rattle.field.specs.Field.{number_from}
use Rattle.field.proofs.Laws.{digit_none, digit_some}
use Rattle.field.proofs.and_digit.Goals as goal

pub returns-in_err-digit : goal.returns-in_err-digit
unfolding number_from
returns-in_err-digit c = rw (c.from_residual.ensures, digit_none c.args.b c.in_err-digit.ensures)

pub returns-then-base-digit : goal.returns-then-base-digit
unfolding number_from
returns-then-base-digit c = grind (arith, nat_tests, digit_some c.args.b c.in_ok-digit.digit c.in_ok-digit.ensures)

pub returns-then-next-lt4294967296 : goal.returns-then-next-lt4294967296
unfolding number_from
returns-then-next-lt4294967296 c = grind (arith, nat_tests, digit_some c.args.b c.in_ok-digit.digit c.in_ok-digit.ensures)

pub returns-else-next-lt4294967296 : goal.returns-else-next-lt4294967296
unfolding number_from
returns-else-next-lt4294967296 c = grind (arith, nat_tests, digit_some c.args.b c.in_ok-digit.digit c.in_ok-digit.ensures)
