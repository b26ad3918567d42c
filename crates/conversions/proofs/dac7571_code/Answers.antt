-- `conversions::dac7571_code` meets its contract: what passes both tests has a code of twelve bits, which the mask leaves as it is. Assumes nothing.
use mathlib.Core.Path.{sym, ap, ◌∙◌, subst}
use lib.Dec.{T}
use Rattle.std.specs.Prelude.{Some}
use Rattle.conversions.proofs.Cuts.{dac_small, mask_nothing}
use Rattle.conversions.proofs.dac7571_code.Goals as goal

pub returns : goal.returns
returns c = let v = c.args.voltage in
    let small = dac_small v (subst T (sym c.well_formed.0.1) tt) c.if-voltage.false c.if-voltage-2.false in
    rw (c.if-voltage.false, c.if-voltage-2.false) (ap Some (mask_nothing c.code_of.result (rw c.code_of.ensures small) ∙ c.code_of.ensures))
