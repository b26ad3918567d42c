-- What the writes of new settings leave: transfers only, and where the interlock chip failed the last of them is a failed write to it. Assumes nothing.
use Rattle.std.specs.Prelude.{Result, Ok, Err, Option, Some, None}
use Prim.Native.Nat.{ℕ}
use mathlib.Core.Path.{refl, ap, sym, ◌∙◌}
use mathlib.Core.Bool.{Bool, true, false, cond}
use mathlib.Core.List.{List, [], ◌∷◌, ◌++◌, append-nil, append_assoc}
use lib.Ieee.{Float}
use Rattle.bus.specs.Rows.{Row, noted, moved}
use Rattle.bus.specs.Run.{Run, done, mapped}
use Rattle.conversions.specs.Codes.{dac7571_code}
use Rattle.interlock.specs.Level.{level_code}
use Rattle.dac7571.specs.Voltage as Dac7571
use Rattle.ad5627.specs.declared.Dac.{Dac}
use Rattle.ad5627.specs.declared.Dac.TheVariants.{A, B}
use Rattle.ad5627.specs.Voltage as Ad5627
use Rattle.rf_channel.specs.declared.ChannelSettings.{ChannelSettings}
use Rattle.rf_machine.specs.Hardware.{apply_bias}
use Rattle.rf_devices.specs.Devices.{highest_reflected, apply_output, set_reflected}
use Rattle.rf_changes.specs.declared.Changes.{Changes}
use Rattle.rf_settings.specs.declared.Wrong.TheVariants as W
use Rattle.rf_settings.specs.Settings.{level_applied, bias_applied, on_fine, write_output, write_reflected, write_bias, write_changes}
use Rattle.rack_theorems.specs.Demand1.{Transfers, LastFailed}
use Rattle.rf_machine.proofs.Gives.{Gives, gives_done, gives_bind, gives_mapped, gives_try}
use Rattle.rf_settings.specs.declared.Wrong.{Wrong}

-- for a 12 the last row is a failed write to the chip
unfoldable pub Chipped : ℕ → List Row → Result (Unit {0}) Wrong → Type 0
Chipped n rows (Ok tt) = Unit
Chipped n rows (Err W.Range) = Unit
Chipped n rows (Err W.Chip) = LastFailed n rows
Chipped n rows (Err W.Bus) = Unit

pub record Wrote (n : ℕ) (rows : List Row) (w : Result (Unit {0}) Wrong) : Type 0 where
  pub moves : Transfers rows
  pub chip : Chipped n rows w

transfers_append : (xs ys : List Row) → Transfers xs → Transfers ys → Transfers (xs ++ ys)
unfolding Transfers
transfers_append [] ys t u = u
transfers_append (noted slot x ∷ xs) ys t u = absurd t
transfers_append (moved slot x g ∷ xs) ys t u = transfers_append xs ys t u

module _ (n : ℕ) where
  chip_after : (xs ys : List Row) (w : Result (Unit {0}) Wrong) → Chipped n ys w → Chipped n (xs ++ ys) w
  unfolding Chipped
  chip_after xs ys (Ok tt) h = tt
  chip_after xs ys (Err W.Range) h = tt
  chip_after xs ys (Err W.Chip) h = record { earlier = xs ++ h.earlier; first = h.first; second = h.second; third = h.third; ends = ap (λ (z : List Row). xs ++ z) h.ends ∙ sym (append_assoc xs h.earlier _) }
  chip_after xs ys (Err W.Bus) h = tt

  level_sent : (dac : Dac) (x : Option ℕ) → Gives n (Ad5627.send_code dac x) (λ rows o. Wrote n rows (level_applied o))
  unfolding Transfers Chipped
  level_sent dac None = gives_done _ (record { moves = tt; chip = tt })
  level_sent dac (Some code) = gives_try (λ rows o. Wrote n rows (level_applied o)) _ _ _ (record { moves = tt; chip = record { earlier = []; first = _; second = _; third = _; ends = refl } }) (λ d. gives_done _ (record { moves = tt; chip = tt }))

  bias_sent : (x : Option ℕ) → Gives n (Dac7571.send_code x) (λ rows o. Wrote n rows (bias_applied o))
  unfolding Transfers Chipped
  bias_sent None = gives_done _ (record { moves = tt; chip = tt })
  bias_sent (Some code) = gives_try (λ rows o. Wrote n rows (bias_applied o)) _ _ _ (record { moves = tt; chip = tt }) (λ d. gives_done _ (record { moves = tt; chip = tt }))

  bias_set : (v : Float) → Gives n (Dac7571.set_voltage v) (λ rows o. Wrote n rows (bias_applied o))
  unfolding Dac7571.set_voltage
  bias_set v = bias_sent (dac7571_code v)

  -- a write that is due or not
  wrote_due : {A : Type 0} (due : Bool) (f : A → Result (Unit {0}) Wrong) (m : Run A) → Gives n m (λ rows a. Wrote n rows (f a)) → Gives n (cond due (mapped f m) (done (Ok tt))) (Wrote n)
  unfolding Transfers Chipped
  wrote_due true f m h = gives_mapped f m h (λ rows a w. w)
  wrote_due false f m h = gives_done _ (record { moves = tt; chip = tt })

  on_fine_lem : (k : Run (Result (Unit {0}) Wrong)) → Gives n k (Wrote n) → (rows : List Row) (w : Result (Unit {0}) Wrong) → Wrote n rows w → Gives n (on_fine k w) (λ more z. Wrote n (rows ++ more) z)
  unfolding on_fine
  on_fine_lem k f rows (Ok tt) h rs taken = let x = (f rs taken).holds in record { holds = record { moves = transfers_append rows _ h.moves x.moves; chip = chip_after rows _ _ x.chip } }
  on_fine_lem k f rows (Err wrong) h rs taken = gives_done (Err wrong) (rw (append-nil rows) h) rs taken

  pub wrote_changes : (due : Changes) (s : ChannelSettings) → Gives n (write_changes due s) (Wrote n)
  unfolding write_changes write_output write_reflected write_bias apply_output set_reflected apply_bias
  wrote_changes due s =
      gives_bind _ _ (wrote_due due.output _ _ (level_sent B (level_code s.output_power_transform s.output_interlock_threshold)))
      (on_fine_lem _ (gives_bind _ _ (wrote_due due.reflected _ _ (level_sent A (level_code s.reflected_power_transform highest_reflected))) (on_fine_lem _ (wrote_due due.bias _ _ (bias_set _)))))
