-- `ad5627::default` meets its contract: it is shut out, or it runs with room for any call. Assumes nothing.
use mathlib.Core.Path.{refl}
use Rattle.bus.proofs.Runs.{runs_mapped, enough}
use Rattle.gate.proofs.Laws.{enters_shut, enters_open, open_bus}
use Rattle.ad5627.specs.Opening.{own_opening}
use Rattle.ad5627.proofs.default.Goals as goal

pub default_at-answer-requires : goal.default_at-answer-requires
default_at-answer-requires c = enough (open_bus c.args.slot c.args.used c.in-Ok.ensures) tt

pub returns-in-Ok : goal.returns-in-Ok
unfolding own_opening
returns-in-Ok c = let f = c.default_at-answer.ensures in enters_open c.log-1.given c.in-Ok.ensures refl refl f.lent (runs_mapped _ f.run refl)

pub returns-in-Err : goal.returns-in-Err
returns-in-Err c = enters_shut c.in-Err.ensures
