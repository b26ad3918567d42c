-- No line is longer than 96 bytes: for numbers of 64 bits an answer's line has 94 at most, a bad one 26. Assumes nothing.
use Prim.Native.Nat.{ℕ, ◌^◌, ◌≤◌, ◌<◌}
use mathlib.Core.Bool.{Bool, true, false}
use mathlib.Core.List.{◌++◌}
use native.Mathlib.Omega.{arith}
use lib.Dec.{lit≤}
use lib.ListN.{length, length-append}
use Rattle.text.specs.Texts.{bytes_of, decimal_text}
use Rattle.text.proofs.Decimals.{decimal_length}
use Rattle.rf_call.specs.declared.Slot.{Slot}
use Rattle.state_name.proofs.Lengths.{state_length}
use Rattle.sheet.specs.Lines.{power_of, rf_of, level_text, standing_text, header_text, answer_text, bad_text}

-- ---- the parts

level_length : (on : Bool) → length (level_text on) ≤ 1
unfolding level_text
level_length true = lit≤ tt
level_length false = lit≤ tt

pub level_column : (on : Bool) → length (level_text on ++ bytes_of ",") ≤ 2
level_column on = simp length-append (omega (arith, level_length on))

pub number_column : (n : ℕ) → n < 2 ^ 64 → length (decimal_text n ++ bytes_of ",") ≤ 21
number_column n h = simp length-append (omega (arith, decimal_length n h))

pub standing_length : (slot : Slot) → length (standing_text slot) ≤ 30
unfolding standing_text
standing_length slot = simp length-append (omega (arith, state_length slot, level_length (power_of slot), level_length (rf_of slot)))

-- ---- the lines

pub header_length : length header_text ≤ 96
unfolding header_text
header_length = lit≤ tt

pub answer_length : (line answer : ℕ) (slot : Slot) (used : ℕ) → line < 2 ^ 64 → answer < 2 ^ 64 → used < 2 ^ 64
    → length (answer_text line answer slot used) ≤ 96
unfolding answer_text
answer_length line answer slot used l a u =
    simp length-append (omega (
      arith,
      decimal_length line l,
      decimal_length answer a,
      state_length slot,
      level_length (power_of slot),
      level_length (rf_of slot),
      decimal_length used u,
    ))

pub bad_length : (line : ℕ) → line < 2 ^ 64 → length (bad_text line) ≤ 96
unfolding bad_text
bad_length line l = simp length-append (omega (arith, decimal_length line l))
