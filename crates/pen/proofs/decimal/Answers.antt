-- `pen::decimal` meets its contract: the digits that it is handed are those of the number's text. Assumes nothing.
use Rattle.text.proofs.Decimals.{decimal_is}
use Rattle.pen.proofs.decimal.Goals as goal

pub returns-clause-text : goal.returns-clause-text
returns-clause-text c = let n = c.args.n in
    let told = c.decimal-k in
    rw (told.ensures.digits, decimal_is n told.result told.ensures.len) at c.bytes.ensures.text
