-- `slot_call::step` meets its contract: what an open entry tells is the room that the call needs. Assumes nothing.
use mathlib.Core.Path.{refl, sym}
use lib.ListN.{length}
use Rattle.entry.proofs.Laws.{open_room}
use Rattle.slot_call.proofs.Laws.{steps_shut, steps_open}
use Rattle.slot_call.proofs.step.Goals as goal

pub act-outcome-requires : goal.act-outcome-requires
act-outcome-requires c = let o = open_room c.args.place.slot c.args.place.used c.args.standing c.args.call c.args.log.now c.args.replies.now (length c.args.numbers.now) (sym c.in-Ok.ensures) in (record { room = o.0 }, o.1)

pub returns-in-Err : goal.returns-in-Err
returns-in-Err c = steps_shut c.args.place.slot c.args.standing c.args.call c.args.place.used c.args.log.now c.args.replies.now c.args.numbers.now c.in-Err.ensures refl

pub returns-in-Ok : goal.returns-in-Ok
returns-in-Ok c = let f = c.act-outcome.ensures in steps_open c.args.place.slot c.args.standing c.args.call c.args.place.used c.args.log.now c.args.replies.now c.args.numbers.now c.log-1.given c.in-Ok.ensures refl refl refl f.lent f.run f.shown (c.slot_of.ensures, c.verdict_of.ensures, refl)
