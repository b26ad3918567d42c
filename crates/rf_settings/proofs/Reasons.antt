-- The writes of new settings end with 11 only where something that is due has no code, with 12 and with the halt only after a failed transfer (`range_only`); and settings equal to the old change nothing (`equal_keeps`).
-- Assumes nothing.
use Rattle.std.specs.Prelude.{Result, Ok, Err, Option, Some, None}
use Prim.Native.Nat.{ℕ}
use mathlib.Core.Path.{◌≡◌, refl, ap, sym, ◌∙◌}
use mathlib.Core.Bool.{Bool, true, false, cond}
use mathlib.Core.List.{List, [], ◌++◌, append-nil, append_assoc}
use Rattle.bus.specs.declared.Transfer.{Transfer}
use Rattle.bus.specs.Rows.{Row}
use Rattle.bus.specs.Run.{Run, done, bind, mapped}
use Rattle.dac7571.specs.Voltage as Dac7571
use Rattle.ad5627.specs.declared.Dac.{Dac}
use Rattle.ad5627.specs.declared.Dac.TheVariants.{A, B}
use Rattle.conversions.specs.Codes.{dac7571_code}
use Rattle.interlock.specs.Level.{level_code}
use Rattle.std.specs.Float.Ieee.{neg}
use Rattle.ad5627.specs.Voltage as Ad5627
use Rattle.rf_channel.specs.declared.ChannelSettings.{ChannelSettings}
use Rattle.rf_channel.specs.declared.RfChannel.{RfChannel}
use Rattle.rf_machine.specs.Hardware.{apply_bias}
use Rattle.rf_machine.proofs.Gives.{Gives, gives_done, gives_bind, gives_mapped, gives_try}
use Rattle.rf_devices.specs.Devices.{highest_reflected, apply_output, set_reflected}
use Rattle.rf_changes.specs.declared.Changes.{Changes}
use Rattle.rf_changes.specs.Changes.{same}
use Rattle.rf_settings.specs.declared.Wrong.TheVariants.{Range, Chip, Bus}
use Rattle.rf_settings.specs.Settings.{level_applied, bias_applied, on_fine, write_output, write_reflected, write_bias, write_changes, apply_settings, on_applied, handle_settings}
use Rattle.rf_settings.specs.Reasons.{Uncoded, output, reflected, bias, ToLevels, ToBias, EndsFailed, Reason, RangeOnly, EqualKeeps}
use Rattle.rf_settings.specs.declared.Wrong.{Wrong}

ends_after : (To : Transfer → Type 0) (n : ℕ) (xs ys : List Row) → EndsFailed To n ys → EndsFailed To n (xs ++ ys)
ends_after To n xs ys h = record { earlier = xs ++ h.earlier; transfer = h.transfer; chip = h.chip; ends = ap (λ (z : List Row). xs ++ z) h.ends ∙ sym (append_assoc xs h.earlier _) }

module _ (due : Changes) (s : ChannelSettings) (n : ℕ) where
  -- more rows before do not change a reason
  reason_after : (xs ys : List Row) (w : Result (Unit {0}) Wrong) → Reason due s n ys w → Reason due s n (xs ++ ys) w
  unfolding Reason
  reason_after xs ys (Ok tt) h = tt
  reason_after xs ys (Err Range) h = h
  reason_after xs ys (Err Chip) h = ends_after ToLevels n xs ys h
  reason_after xs ys (Err Bus) h = ends_after ToBias n xs ys h

  -- ---- what the chips answer

  level_sent : (dac : Dac) (x : Option ℕ) → (x ≡ None → Uncoded due s) → Gives n (Ad5627.send_code dac x) (λ rows o. Reason due s n rows (level_applied o))
  unfolding Reason ToLevels
  level_sent dac None h = gives_done _ (h refl)
  level_sent dac (Some code) h = gives_try (λ rows o. Reason due s n rows (level_applied o)) _ _ _ (record { earlier = []; transfer = _; chip = (_, _, _, refl); ends = refl }) (λ d. gives_done _ tt)

  bias_sent : (x : Option ℕ) → (x ≡ None → Uncoded due s) → Gives n (Dac7571.send_code x) (λ rows o. Reason due s n rows (bias_applied o))
  unfolding Reason ToBias
  bias_sent None h = gives_done _ (h refl)
  bias_sent (Some code) h = gives_try (λ rows o. Reason due s n rows (bias_applied o)) _ _ _ (record { earlier = []; transfer = _; chip = (_, _, refl); ends = refl }) (λ d. gives_done _ tt)

  -- ---- the writes

  -- a write that is due or not
  due_or_not : {A : Type 0} (b : Bool) (f : A → Result (Unit {0}) Wrong) (m : Run A) → (b ≡ true → Gives n m (λ rows a. Reason due s n rows (f a))) → Gives n (cond b (mapped f m) (done (Ok tt))) (Reason due s n)
  unfolding Reason
  due_or_not true f m h = gives_mapped f m (h refl) (λ rows a r. r)
  due_or_not false f m h = gives_done _ tt

  on_fine_lem : (k : Run (Result (Unit {0}) Wrong)) → Gives n k (Reason due s n) → (rows : List Row) (w : Result (Unit {0}) Wrong) → Reason due s n rows w → Gives n (on_fine k w) (λ more z. Reason due s n (rows ++ more) z)
  unfolding on_fine
  on_fine_lem k f rows (Ok tt) h rs taken = record { holds = reason_after rows _ _ (f rs taken).holds }
  on_fine_lem k f rows (Err wrong) h rs taken = gives_done (Err wrong) (rw (append-nil rows) h) rs taken

  pub reasons : Gives n (write_changes due s) (Reason due s n)
  unfolding write_changes write_output write_reflected write_bias apply_output set_reflected apply_bias Dac7571.set_voltage
  reasons =
      gives_bind _ _ (due_or_not due.output _ _ (λ e. level_sent B (level_code s.output_power_transform s.output_interlock_threshold) (output e)))
      (on_fine_lem _ (gives_bind _ _ (due_or_not due.reflected _ _ (λ e. level_sent A (level_code s.reflected_power_transform highest_reflected) (reflected e))) (on_fine_lem _ (due_or_not due.bias _ _ (λ e. bias_sent (dac7571_code (neg s.bias_voltage)) (bias e))))))

pub range_only : RangeOnly write_changes
range_only due s rs slot taken = (reasons due s slot rs taken).holds

-- ---- equal settings

applied_equal : (c : RfChannel) (s : ChannelSettings) → same c.settings s ≡ true → apply_settings c s ≡ done (Ok c)
unfolding apply_settings
applied_equal c s e = rw e

pub equal_keeps : EqualKeeps
unfolding handle_settings on_applied bind done
equal_keeps = record { applied = applied_equal; handled = λ c s g rs slot taken e. rw (applied_equal c s e) refl }
