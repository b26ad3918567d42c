-- `ads7924::set_thresholds_at` meets its contract where the limits have no codes: it ends with no row. Assumes nothing.
use mathlib.Core.Path.{◌∙◌}
use Rattle.bus.proofs.Runs.{runs_done, within, erred}
use Rattle.ads7924.proofs.Laws.{lacking}
use Rattle.ads7924.specs.Calls.{set_thresholds}
use Rattle.ads7924.proofs.set_thresholds_at.Goals as goal

pub returns-in_err-limits-clause-run : goal.returns-in_err-limits-clause-run
unfolding set_thresholds
returns-in_err-limits-clause-run c =
    let gone = lacking _ (rw c.in_err-limits.was at c.ok_or.ensures.value) in
    rw (← c.ads7924_codes.ensures, gone.0) (within (runs_done (erred c.from_residual.ensures ∙ gone.1)) tt)
