-- `text::Writer::put_bytes` meets its contract: the part of the buffer that is overwritten holds the text. Assumes nothing.
use Rattle.std.proofs.Common.{rules}
use Rattle.std.proofs.lemmas.Slice.{overwrites}
use Rattle.text.proofs.Writer.put_bytes.Goals as goal

pub returns-clause-text : goal.returns-clause-text
returns-clause-text c = record {
  past = search rules;
  front = search (rules, overwrites);
  rest = search (rules, overwrites);
  size = search rules;
}
