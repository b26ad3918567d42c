-- `sheet::put_number` meets its contract: the number's text, and a comma behind it. Assumes nothing.
use borrow.Author.Rules.{rules}
use native.Mathlib.Omega.{arith}
use Rattle.text.proofs.Decimals.{decimal_length}
use Rattle.sheet.proofs.put_number.Goals as goal

pub put_bytes-requires : goal.put_bytes-requires
put_bytes-requires c = omega (arith, c.put_decimal.ensures.text.past, c.put_decimal.ensures.text.size, decimal_length c.args.n (search rules))
