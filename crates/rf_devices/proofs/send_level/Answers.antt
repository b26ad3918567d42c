-- `rf_devices::send_level` meets its contract: a level out of range is sent nothing, and any other as its code of twelve bits. Assumes nothing.
use mathlib.Core.Path.{refl, sym}
use native.Mathlib.Omega.{arith}
use Rattle.ad5627.proofs.Frame.{twelve_bits}
use Rattle.bus.proofs.Runs.{runs_done, within}
use Rattle.rf_devices.proofs.send_level.Goals as goal

pub returns-in_default-clause-run : goal.returns-in_default-clause-run
returns-in_default-clause-run c = rw (← c.in_default.ensures.exact) (within (runs_done refl) tt)

pub set_code_at-requires : goal.set_code_at-requires
set_code_at-requires c = (c.requires, omega (arith, twelve_bits _ _ (sym c.in-Some.ensures.exact)))

pub returns-clause-run : goal.returns-clause-run
returns-clause-run c = rw (← c.in-Some.ensures.exact) c.set_code_at.ensures.run
