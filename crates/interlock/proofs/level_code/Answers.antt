-- `interlock::level_code` meets its contract: what its two callees ensure is the definition, of which `demand_3` holds.
-- Assumes nothing.
use mathlib.Core.Path.{◌≡◌, ap, ◌∙◌, sym, subst}
use Rattle.conversions.specs.Codes.{ad5627_code}
use Rattle.interlock.specs.Level.{level_code}
use Rattle.interlock.specs.Demand3.{Right}
use Rattle.interlock.proofs.Demand3.{demand_3}
use Rattle.interlock.proofs.level_code.Goals as goal

pub returns : goal.returns
returns c = let l = c.args.transform in
    let t = c.args.threshold in
    let exact : c.ad5627_code.result ≡ level_code l t = c.ad5627_code.ensures ∙ ap ad5627_code c.invert-voltage.ensures in
    record { exact = exact; close = subst (Right l t) (sym exact) (demand_3 l t) }
