-- `reply_field::byte_at` meets its contract. The length is even, so two digits stand where one does. Assumes nothing.
use Rattle.std.proofs.Common.{sym, ◌∙◌, get_or, ◌+◌, ◌*◌, arith}
use Rattle.field.proofs.Laws.{digit_some}
use Rattle.reply_field.proofs.Laws.{column, hex_at, pairs_at}
use Rattle.reply_field.proofs.byte_at.Goals as goal

pub unwrap-high-requires : goal.unwrap-high-requires
unwrap-high-requires c = let whole = column c.args.s.now c.requires.0 in
    rw (c.hex_digit.ensures, hex_at c.args.s.now whole.hex (2 * c.args.i) (omega arith))

pub bounds-s-i-2 : goal.bounds-s-i-2
bounds-s-i-2 c = let whole = column c.args.s.now c.requires.0 in omega arith

pub unwrap-low-requires : goal.unwrap-low-requires
unwrap-low-requires c = let whole = column c.args.s.now c.requires.0 in
    rw (c.hex_digit-2.ensures, hex_at c.args.s.now whole.hex (2 * c.args.i + 1) (omega arith))

pub returns : goal.returns
returns c = let whole = column c.args.s.now c.requires.0 in
    let high = digit_some (get_or c.args.s.now (2 * c.args.i) 0) c.unwrap-high.result (sym c.unwrap-high.ensures ∙ c.hex_digit.ensures) in
    let low = digit_some (get_or c.args.s.now (2 * c.args.i + 1) 0) c.unwrap-low.result (sym c.unwrap-low.ensures ∙ c.hex_digit-2.ensures) in
    rw (← high.1, ← low.1) (pairs_at c.args.s.now c.args.i (omega arith))
