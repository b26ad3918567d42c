-- `reply_field::fill` meets its contract, byte by byte. Assumes nothing.
use Rattle.std.proofs.Common.{refl, arith, length-set}
use Rattle.reply_field.proofs.Laws.{column, filled_none, filled_more, filled_all}
use Rattle.reply_field.proofs.fill.Goals as goal

pub loop-i-init : goal.loop-i-init
loop-i-init c = (refl, filled_none c.args.s.now refl)

pub bounds-out-i : goal.bounds-out-i
bounds-out-i c = let whole = column c.args.s.now c.requires in omega arith

pub loop-i-preserved : goal.loop-i-preserved
loop-i-preserved c = let whole = column c.args.s.now c.requires in
    let l = c.loop-i in
    (simp length-set l.invariant.0, filled_more c.args.s.now l.out l.i c.byte_at.result (omega arith) c.byte_at.ensures l.invariant.1)

pub returns : goal.returns
returns c = let whole = column c.args.s.now c.requires in
    let l = c.loop-i in
    filled_all c.args.s.now l.out l.i c.requires l.invariant.0 (omega arith) l.invariant.1
