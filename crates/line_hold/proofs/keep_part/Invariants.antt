-- `line_hold::keep_part` meets its contract. The loop's invariant: keeping what is left of the part gives what keeping all of it gives. Assumes nothing.
use Rattle.std.proofs.Common.{◌≡◌, drop}
use Rattle.line_hold.specs.Hold.{held_past, kept_part}
use Rattle.line_hold.proofs.keep_part.Given as goal

abbrev pub invariant-loop-b : goal.invariant-loop-b
invariant-loop-b l = (held_past l.held (drop l.b-index l.part) ≡ held_past l.held-2 l.part) × (kept_part l.hold l.held (drop l.b-index l.part) ≡ kept_part l.initial.hold l.held-2 l.part)
