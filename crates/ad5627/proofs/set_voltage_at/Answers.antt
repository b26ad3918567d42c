-- `ad5627::set_voltage_at` meets its contract: a voltage out of range is sent nothing, and any other as its code. Assumes nothing.
use mathlib.Core.Path.{refl, sym}
use native.Mathlib.Omega.{arith}
use Rattle.bus.proofs.Runs.{runs_done, within}
use Rattle.ad5627.specs.Voltage.{set_voltage}
use Rattle.ad5627.proofs.Frame.{twelve_bits}
use Rattle.ad5627.proofs.set_voltage_at.Goals as goal

pub returns-in_default-clause-run : goal.returns-in_default-clause-run
unfolding set_voltage
returns-in_default-clause-run c = rw (← c.in_default.ensures) (within (runs_done refl) tt)

pub set_code_at-requires : goal.set_code_at-requires
set_code_at-requires c = (c.requires, omega (arith, twelve_bits _ _ (sym c.in-Some.ensures)))

pub returns-clause-run : goal.returns-clause-run
unfolding set_voltage
returns-clause-run c = rw (← c.in-Some.ensures) c.set_code_at.ensures.run
