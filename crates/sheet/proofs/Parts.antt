-- The parts that the code writes, one behind another, make the lines. Assumes nothing.
use mathlib.Core.Path.{◌≡◌}
use mathlib.Core.List.{◌++◌, append_assoc}
use Prim.Native.Nat.{ℕ}
use Rattle.text.specs.Texts.{bytes_of, decimal_text}
use Rattle.rf_call.specs.declared.Slot.{Slot}
use Rattle.state_name.specs.Names.{state_text}
use Rattle.sheet.specs.Lines.{power_of, rf_of, level_text, standing_text, answer_text, bad_text}

pub standing_parts : (slot : Slot)
    → state_text slot ++ bytes_of "," ++ (level_text (power_of slot) ++ bytes_of ",") ++ (level_text (rf_of slot) ++ bytes_of ",") ≡ standing_text slot
unfolding standing_text
standing_parts slot = simp append_assoc

pub answer_parts : (line answer : ℕ) (slot : Slot) (used : ℕ)
    → (decimal_text line ++ bytes_of ",") ++ (decimal_text answer ++ bytes_of ",") ++ standing_text slot ++ decimal_text used ++ bytes_of "\r\n" ≡ answer_text line answer slot used
unfolding standing_text answer_text
answer_parts line answer slot used = simp append_assoc

pub bad_parts : (line : ℕ) → (decimal_text line ++ bytes_of ",") ++ bytes_of "bad\r\n" ≡ bad_text line
unfolding bad_text
bad_parts line = simp append_assoc
