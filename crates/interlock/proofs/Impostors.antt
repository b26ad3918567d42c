-- Two impostors that demand 3 rules out: a conversion that refuses every level falls to the refusal half (`refuses_all`), and one that always sends the same code, whichever it is, falls to the accepted half (`sends_one`).
-- The inputs are those of the bench sheet: slope 20, offset -10; threshold 15, whose count is 2048, and threshold -10, whose count is 0. Assumes nothing.
use Rattle.std.specs.Prelude.{Some, None}
use Prim.Native.Nat.{ℕ, zero, suc, ◌*◌, ◌≤◌, ◌<◌}
use native.Mathlib.Nat.{suc-mul}
use native.Mathlib.Omega.{arith}
use mathlib.Core.Bool.{false}
use mathlib.Core.Logic.{inl, inr}
use lib.Dec.{leb→le, lit<, lit≤}
use lib.Ieee.{Float, binary32, round, neg, fits}
use Rattle.steps.specs.Steps.{unit, magnitude, negative}
use Rattle.linear_transformation.specs.declared.LinearTransformation.{LinearTransformation}
use Rattle.linear_transformation.specs.Line.{line}
use Rattle.interlock.specs.Demand3.{Given, Close, OutOfRange, Demand3}

abbrev number : ℕ → Float
number n = round binary32 false n 1

abbrev l : LinearTransformation
l = line (number 20) (neg (number 10))

given_15 : Given l (number 15)
unfolding round neg fits magnitude
given_15 = record { threshold_finite = (tt, tt); offset_finite = (tt, tt); slope_finite = (tt, tt); slope_not_zero = lit< tt; threshold_size = lit≤ tt; offset_size = lit≤ tt }

given_10 : Given l (neg (number 10))
unfolding round neg fits magnitude
given_10 = record { threshold_finite = (tt, tt); offset_finite = (tt, tt); slope_finite = (tt, tt); slope_not_zero = lit< tt; threshold_size = lit≤ tt; offset_size = lit≤ tt }

pub refuses_all : Demand3 (λ l t. None) → ⊥
refuses_all d = go (d l (number 15) given_15)
  where
    go : OutOfRange l (number 15) → ⊥
    go (inl h) = unfold round neg magnitude negative in h.lt
    go (inr h) = unfold round neg magnitude negative in h.lt

tiny : (n d : ℕ) → 0 < d → 1024 * (suc n * d) ≤ d → ⊥
tiny n d p h = let e = suc-mul n d in omega arith

-- at a count of 0 the code is 0, and at a count of 2048 it is not
pub sends_one : (c : ℕ) → Demand3 (λ l t. Some c) → ⊥
sends_one c d = go c (d l (neg (number 10)) given_10) (d l (number 15) given_15)
  where
    go : (c : ℕ) → Close l (neg (number 10)) c → Close l (number 15) c → ⊥
    go zero p q = unfold round neg magnitude negative in q.above.lt
    go (suc n) p q = unfold round neg magnitude negative in tiny n (100 * unit) (lit< tt) (leb→le (1024 * (suc n * (100 * unit))) (100 * unit) p.at_most.le)
