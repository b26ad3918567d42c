-- The number of each answer of the ads7924 in document 01's own numbers: 0 done, 11 value out of range, 12 interlock chip failed; at the gate 1 slot above 7, 5 log, 6 replies. antt computes both sides.
use Rattle.std.specs.Prelude.{◌≡◌, refl, [], ◌∷◌, map, ℕ, Float, Ok, Err}
use Rattle.gate.specs.declared.Bar.TheVariants.{Slot, Log, Replies}
use Rattle.ads7924.specs.declared.Four.{Four}
use Rattle.gate.specs.Gate.{failed_number, error_number, answer_number}
use Rattle.bus.specs.Rows.{no_answer}
use Rattle.bus.specs.declared.Error.TheVariants as Chip

pub numbered :
    (v : Float) (vs : Four) (mask : ℕ) →
    map (answer_number failed_number) (Ok (Ok (tt {0})) ∷ Ok (Err no_answer) ∷ Err Slot ∷ Err Log ∷ Err Replies ∷ [])
    ∷ map (answer_number failed_number) (Ok (Ok v) ∷ Ok (Err no_answer) ∷ Err Slot ∷ Err Log ∷ Err Replies ∷ [])
    ∷ map (answer_number failed_number) (Ok (Ok vs) ∷ Ok (Err no_answer) ∷ Err Slot ∷ Err Log ∷ Err Replies ∷ [])
    ∷ map (answer_number failed_number) (Ok (Ok mask) ∷ Ok (Err no_answer) ∷ Err Slot ∷ Err Log ∷ Err Replies ∷ [])
    ∷ map (answer_number error_number) (Ok (Ok (tt {0})) ∷ Ok (Err Chip.Range) ∷ Ok (Err Chip.Bus) ∷ Err Slot ∷ Err Log ∷ Err Replies ∷ [])
    ∷ []
    ≡ (0 ∷ 12 ∷ 1 ∷ 5 ∷ 6 ∷ [])
    ∷ (0 ∷ 12 ∷ 1 ∷ 5 ∷ 6 ∷ [])
    ∷ (0 ∷ 12 ∷ 1 ∷ 5 ∷ 6 ∷ [])
    ∷ (0 ∷ 12 ∷ 1 ∷ 5 ∷ 6 ∷ [])
    ∷ (0 ∷ 11 ∷ 12 ∷ 1 ∷ 5 ∷ 6 ∷ [])
    ∷ []
numbered v vs mask = refl
