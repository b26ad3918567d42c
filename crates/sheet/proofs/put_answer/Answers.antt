-- `sheet::put_answer` meets its contract: five texts, one behind another, each in the room that the one before leaves, make the line. Assumes nothing.
use borrow.Author.Rules.{rules}
use native.Mathlib.Omega.{arith}
use Rattle.text.proofs.Writing.{wrote_then, room_past}
use Rattle.text.proofs.Decimals.{decimal_length}
use Rattle.sheet.proofs.Lengths.{number_column, standing_length}
use Rattle.sheet.proofs.Parts.{answer_parts}
use Rattle.sheet.proofs.put_answer.Goals as goal

-- ---- the calls

pub put_number-requires-2 : goal.put_number-requires-2
put_number-requires-2 c = let past_line = room_past 21 75 c.put_number.ensures.text (number_column _ (search rules)) c.requires in
    omega (arith, past_line)

pub put_standing-requires : goal.put_standing-requires
put_standing-requires c = let past_line = room_past 21 75 c.put_number.ensures.text (number_column _ (search rules)) c.requires in
    let past_answer = room_past 21 54 c.put_number-2.ensures.text (number_column _ (search rules)) past_line in
    omega (arith, past_answer)

pub put_decimal-requires : goal.put_decimal-requires
put_decimal-requires c = let past_line = room_past 21 75 c.put_number.ensures.text (number_column _ (search rules)) c.requires in
    let past_answer = room_past 21 54 c.put_number-2.ensures.text (number_column _ (search rules)) past_line in
    let past_standing = room_past 30 24 c.put_standing.ensures.text (standing_length _) past_answer in
    omega (arith, past_standing)

pub put_bytes-requires : goal.put_bytes-requires
put_bytes-requires c = let past_line = room_past 21 75 c.put_number.ensures.text (number_column _ (search rules)) c.requires in
    let past_answer = room_past 21 54 c.put_number-2.ensures.text (number_column _ (search rules)) past_line in
    let past_standing = room_past 30 24 c.put_standing.ensures.text (standing_length _) past_answer in
    let past_rows = room_past 20 4 c.put_decimal.ensures.text (decimal_length _ (search rules)) past_standing in
    omega (arith, past_rows)

pub returns-clause-text : goal.returns-clause-text
returns-clause-text c = let a = c.args in
    let line = c.put_number.ensures.text in
    let answer = c.put_number-2.ensures.text in
    let standing = c.put_standing.ensures.text in
    let rows = c.put_decimal.ensures.text in
    let ended = c.put_bytes.ensures.text in
    rw (answer_parts a.line a.answer a.slot a.used) at (wrote_then (wrote_then (wrote_then (wrote_then line answer) standing) rows) ended)
