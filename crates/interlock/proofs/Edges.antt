-- The edges of demand 3, under either sign of the slope (`edges`). Assumes nothing.
use mathlib.Core.Bool.{true, false}
use mathlib.Core.Logic.{inl, inr}
use lib.Dec.{lit<, lit≤}
use lib.Ieee.{round, fits}
use Rattle.steps.specs.Steps.{magnitude, negative}
use Rattle.interlock.specs.Edges.{EdgesHold}

pub edges : EdgesHold
unfolding round fits magnitude negative
edges false = record {
  full_scale = λ h. elim h [ inl x ↦ x.lt | inr x ↦ x.lt ];
  nothing = λ h. elim h [ inl x ↦ x.lt | inr x ↦ x.lt ];
  too_low = λ h. h.above.lt;
  too_high = λ h. h.at_most.le;
  largest = record { threshold_finite = (tt, tt); offset_finite = (tt, tt); slope_finite = (tt, tt); slope_not_zero = lit< tt; threshold_size = lit≤ tt; offset_size = lit≤ tt };
}
edges true = record {
  full_scale = λ h. elim h [ inl x ↦ x.lt | inr x ↦ x.lt ];
  nothing = λ h. elim h [ inl x ↦ x.lt | inr x ↦ x.lt ];
  too_low = λ h. h.above.lt;
  too_high = λ h. h.at_most.le;
  largest = record { threshold_finite = (tt, tt); offset_finite = (tt, tt); slope_finite = (tt, tt); slope_not_zero = lit< tt; threshold_size = lit≤ tt; offset_size = lit≤ tt };
}
