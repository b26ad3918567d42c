-- `sheet::put_bad` meets its contract: two texts, one behind the other, make the line. Assumes nothing.
use borrow.Author.Rules.{rules}
use native.Mathlib.Omega.{arith}
use Rattle.text.proofs.Writing.{wrote_then, room_past}
use Rattle.sheet.proofs.Lengths.{number_column}
use Rattle.sheet.proofs.Parts.{bad_parts}
use Rattle.sheet.proofs.put_bad.Goals as goal

pub put_bytes-requires : goal.put_bytes-requires
put_bytes-requires c = omega (arith, room_past 21 75 c.put_number.ensures.text (number_column _ (search rules)) c.requires)

pub returns-clause-text : goal.returns-clause-text
returns-clause-text c = rw (bad_parts c.args.line) at (wrote_then c.put_number.ensures.text c.put_bytes.ensures.text)
