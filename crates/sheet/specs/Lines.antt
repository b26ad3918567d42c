-- The lines that the replay writes, as document 01 gives them: columns with a comma between them, and CR LF at the end of each line. Definitions only.
use Rattle.std.specs.Prelude.{ℕ, Bool, true, false, List, [], ◌∷◌, ◌++◌}
use Rattle.text.specs.Texts.{bytes_of, decimal_text}
use Rattle.state_name.specs.Names.{state_text}
use Rattle.rf_call.specs.declared.Slot.{Slot}
use Rattle.rf_call.specs.declared.Slot.TheVariants.{Empty, Halted, Channel}

-- ---- the levels of the two pins, low where there is no channel

abbrev pub power_of : Slot → Bool
power_of Empty = false
power_of (Halted cause) = false
power_of (Channel c) = c.enable_power

abbrev pub rf_of : Slot → Bool
rf_of Empty = false
rf_of (Halted cause) = false
rf_of (Channel c) = c.signal_on

unfoldable pub level_text : Bool → List ℕ
level_text true = bytes_of "1"
level_text false = bytes_of "0"

-- the middle of a line: the state and the two levels, with a comma behind each
unfoldable pub standing_text : Slot → List ℕ
standing_text slot = state_text slot ++ bytes_of "," ++ level_text (power_of slot) ++ bytes_of "," ++ level_text (rf_of slot) ++ bytes_of ","

-- ---- the lines

-- a line of these columns
abbrev pub line_of : List (List ℕ) → List ℕ
line_of [] = bytes_of "\r\n"
line_of (column ∷ []) = column ++ bytes_of "\r\n"
line_of (column ∷ next ∷ more) = column ++ bytes_of "," ++ line_of (next ∷ more)

unfoldable pub header_text : List ℕ
header_text = bytes_of "line,answer,state,power,rf,rows\r\n"

-- for line number n, which was a call: its answer's number, what then stands in the slot, and the rows in use
unfoldable pub answer_text : ℕ → ℕ → Slot → ℕ → List ℕ
answer_text n answer slot used = line_of (decimal_text n ∷ decimal_text answer ∷ state_text slot ∷ level_text (power_of slot) ∷ level_text (rf_of slot) ∷ decimal_text used ∷ [])

-- for line number n, which does not fit
unfoldable pub bad_text : ℕ → List ℕ
bad_text n = line_of (decimal_text n ∷ bytes_of "bad" ∷ [])
