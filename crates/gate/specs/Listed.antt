-- Document 01's numbers, written out: at the gate 1 slot above 7, 5 log, 6 replies; at a chip 11 value out of range, 12 chip failed. antt computes both sides.
use Rattle.std.specs.Prelude.{◌≡◌, refl, [], ◌∷◌, map}
use Rattle.gate.specs.declared.Bar.TheVariants.{Slot, Log, Replies}
use Rattle.gate.specs.Gate.{number_of, error_number}
use Rattle.bus.specs.declared.Error.TheVariants as Chip

pub bars_numbered : map number_of (Slot ∷ Log ∷ Replies ∷ []) ≡ 1 ∷ 5 ∷ 6 ∷ []
bars_numbered = refl

pub errors_numbered : map error_number (Chip.Range ∷ Chip.Bus ∷ []) ≡ 11 ∷ 12 ∷ []
errors_numbered = refl
