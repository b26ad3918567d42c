-- An impostor that `RangeOnly` rules out: writes that answer 11 where the output level's code is the highest, 4095, though nothing is out of range (`full_scale_refused`).
-- The input: slope 20, offset -10, threshold 39.99, whose count is 4095.18, and nothing else due. Assumes nothing.
use Rattle.std.specs.Prelude.{Result, Err, Some, None}
use Prim.Native.Nat.{ℕ}
use native.Mathlib.Omega.{arith}
use mathlib.Core.Path.{◌≡◌, refl, sym, ◌∙◌}
use mathlib.Core.Bool.{true, false}
use mathlib.Core.List.{List}
use lib.Ieee.{of_bits, round, neg, le, sub, mul, div, to_unsigned}
use Rattle.bus.specs.Run.{Run}
use Rattle.interlock.specs.Level.{level_code}
use Rattle.rf_channel.specs.declared.ChannelSettings.{ChannelSettings}
use Rattle.rf_changes.specs.declared.Changes.{Changes}
use Rattle.rf_settings.specs.declared.Wrong.TheVariants.{Range}
use Rattle.rf_settings.specs.Reasons.{Uncoded, output, reflected, bias, Reason, RangeOnly, full_line, full_level}
use Rattle.rf_settings.specs.declared.Wrong.{Wrong}

pub full_code : level_code full_line full_level ≡ Some 4095
unfolding of_bits round neg le sub mul div to_unsigned
full_code = refl

abbrev output_only : Changes
output_only = record { output = true; reflected = false; bias = false }

clash : {X : Type 0} {code : ℕ} → Some code ≡ None → X
clash e = absurd (let z : ◌≡◌ {A = ℕ} 0 1 = cc in omega arith)

not_due : {X : Type 0} → false ≡ true → X
not_due e = absurd (let z : ◌≡◌ {A = ℕ} 0 1 = cc in omega arith)

coded : (s : ChannelSettings) → s.output_power_transform ≡ full_line → s.output_interlock_threshold ≡ full_level → Uncoded output_only s → ⊥
coded s l t (output d e) = clash (sym full_code ∙ (rw (l, t) at e))
coded s l t (reflected d e) = not_due d
coded s l t (bias d e) = not_due d

pub full_scale_refused : (writes : Changes → ChannelSettings → Run (Result (Unit {0}) Wrong)) → RangeOnly writes
    → (s : ChannelSettings) → s.output_power_transform ≡ full_line → s.output_interlock_threshold ≡ full_level
    → (replies : List ℕ) (slot taken : ℕ) → (writes output_only s replies slot taken).ans ≡ Err Range → ⊥
unfolding Reason
full_scale_refused writes law s l t replies slot taken e = coded s l t (rw e at (law output_only s replies slot taken))
