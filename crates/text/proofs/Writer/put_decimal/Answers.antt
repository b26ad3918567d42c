-- `text::Writer::put_decimal` meets its contract: the digits that it is handed are those of the number's text. Assumes nothing.
use Rattle.text.proofs.Decimals.{decimal_is}
use Rattle.text.proofs.Writer.put_decimal.Goals as goal

pub returns-clause-text : goal.returns-clause-text
returns-clause-text c = let n = c.args.n in
    let told = c.decimal-k in
    rw (told.ensures.digits, decimal_is n told.result told.ensures.len) at c.put_bytes.ensures.text
