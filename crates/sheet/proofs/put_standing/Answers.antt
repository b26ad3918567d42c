-- `sheet::put_standing` meets its contract: four texts, one behind another, each in the room that the one before leaves. Assumes nothing.
use native.Mathlib.Omega.{arith}
use lib.Dec.{lit≤}
use Rattle.text.proofs.Writing.{wrote_then, room_past}
use Rattle.state_name.proofs.Lengths.{state_length}
use Rattle.sheet.proofs.Lengths.{level_column}
use Rattle.sheet.proofs.Parts.{standing_parts}
use Rattle.sheet.proofs.put_standing.Goals as goal

-- ---- the calls

pub put_bytes-requires : goal.put_bytes-requires
put_bytes-requires c = let past_state = room_past 25 5 c.put_slot.ensures.text (state_length _) c.requires in
    omega (arith, past_state)

pub put_level-requires : goal.put_level-requires
put_level-requires c = let past_state = room_past 25 5 c.put_slot.ensures.text (state_length _) c.requires in
    let past_comma = room_past 1 4 c.put_bytes.ensures.text (lit≤ tt) past_state in
    omega (arith, past_comma)

pub put_level-requires-2 : goal.put_level-requires-2
put_level-requires-2 c = let past_state = room_past 25 5 c.put_slot.ensures.text (state_length _) c.requires in
    let past_comma = room_past 1 4 c.put_bytes.ensures.text (lit≤ tt) past_state in
    room_past 2 2 c.put_level.ensures.text (level_column _) past_comma

pub returns-clause-text : goal.returns-clause-text
returns-clause-text c = let state = c.put_slot.ensures.text in
    let comma = c.put_bytes.ensures.text in
    let power = c.put_level.ensures.text in
    let rf = c.put_level-2.ensures.text in
    rw (c.power_of.ensures, c.rf_of.ensures, standing_parts c.args.slot) at
    (wrote_then (wrote_then (wrote_then state comma) power) rf)
