-- What the interlock chip is sent, over any call (`codes_sent`). Assumes nothing.
use Prim.Native.Nat.{ℕ, ◌*◌, ◌/◌, ◌%◌}
use native.Mathlib.Omega.{arith}
use mathlib.Core.Path.{◌≡◌, refl, subst}
use mathlib.Core.Bool.{Bool}
use mathlib.Core.Logic.{inl, inr}
use lib.Ieee.{Float, of_bits, round}
use Rattle.std.specs.Prelude.{Option, None, Some, Result, Ok, Err}
use Rattle.linear_transformation.specs.declared.LinearTransformation.{LinearTransformation}
use Rattle.interlock.specs.Level.{level_code}
use Rattle.interlock.specs.Demand3.{Answers}
use Rattle.interlock.proofs.Demand3.{demand_3}
use Rattle.bus.specs.Run.{Run}
use Rattle.rf_channel.specs.declared.Events.{Events}
use Rattle.rf_channel.specs.declared.ChannelSettings.{ChannelSettings}
use Rattle.rf_channel.specs.declared.RfChannel.{RfChannel}
use Rattle.rf_devices.specs.Devices.{highest_reflected, apply_output, set_reflected}
use Rattle.rf_call.specs.declared.Givens.{Givens}
use Rattle.rf_call.specs.declared.Outcome.{Outcome}
use Rattle.rf_call.specs.Calls.{or_halt, interlock_reset, handle_startup, standing}
use Rattle.rf_changes.specs.declared.Changes.{Changes}
use Rattle.rf_changes.specs.Changes.{same, changes_of, event_of}
use Rattle.rf_settings.specs.declared.Wrong.{Wrong}
use Rattle.rf_settings.specs.declared.Wrong.TheVariants.{Range, Chip, Bus}
use Rattle.rf_settings.specs.Settings.{on_fine, write_output, write_reflected, write_bias, write_changes, apply_settings, on_follow, following, refusing, on_applied, handle_settings}
use Rattle.rf_start.specs.declared.Presence.{Presence}
use Rattle.rf_start.specs.declared.Presence.TheVariants.{Present, Absent}
use Rattle.rf_start.specs.Start.{levels, settling, if_present, starting}
use Rattle.rf_calls.specs.declared.Request.{Request}
use Rattle.rf_calls.specs.declared.Request.TheVariants.{Startup, Update, Reset, Standby, Settings, Status}
use Rattle.rf_calls.specs.Requests.{requested}
use Rattle.ad5627.specs.declared.Dac.TheVariants.{A, B}
use Rattle.wire_theorems.specs.Wire.{Writes, Carries, thirty, LevelOf, MayWrite, CodesSent}
use Rattle.wire_theorems.proofs.Each.{Each, each_done, each_cond, each_bind, each_mapped}
use Rattle.wire_theorems.proofs.Chips.{each_ad5627, quiet_bias}
use Rattle.wire_theorems.proofs.Calls.{quiet_then, quiet_halting, quiet_answering, quiet_quietly, quiet_updating, quiet_status, quiet_preparing, quiet_module}
use Rattle.rf_machine.specs.declared.Cause.{Cause}

-- ---- a level's code, in the bytes of its row

carried : (output : ℕ) (l : LinearTransformation) (level : Float) (code : ℕ) → level_code l level ≡ Some code → Carries output l level output (16 * code / 256) (16 * code % 256)
carried output l level code e = record { code = code; to = refl; bytes = omega arith; is = e; close = λ g. subst (λ (x : Option ℕ). Answers l level x) e (demand_3 l level g) }

-- 30.0 is the level of the reflected power
pub thirty_is : highest_reflected ≡ thirty
unfolding of_bits round
thirty_is = refl

module _ (s : ChannelSettings) where
  abbrev Sent : {A : Type 0} → Run A → Type 0
  Sent m = Each (Writes (LevelOf s)) m

  sent_output : Sent (apply_output s)
  unfolding apply_output
  sent_output = each_ad5627 (LevelOf s) B (level_code s.output_power_transform s.output_interlock_threshold) (λ code e. inl (carried 1 _ _ code e))

  sent_reflected : Sent (set_reflected s highest_reflected)
  unfolding set_reflected
  sent_reflected = rw thirty_is (each_ad5627 (LevelOf s) A (level_code s.reflected_power_transform thirty) (λ code e. inr (carried 0 _ _ code e)))

  -- ---- the start

  on_effect : (k : Run Outcome) → Sent k → (e : Result (Unit {0}) Cause) → Sent (or_halt k e)
  unfolding or_halt
  on_effect k h (Ok tt) = h
  on_effect k h (Err cause) = quiet_halting (LevelOf s) cause

  on_presence : (k : Run Outcome) → Sent k → (x : Presence) → Sent (if_present k x)
  unfolding if_present
  on_presence k h Present = h
  on_presence k h Absent = each_done _

  sent_starting : (present : Bool) → Sent (starting s present)
  unfolding starting settling levels
  sent_starting present =
      each_bind _ _ (quiet_preparing (LevelOf s))
      (on_effect _ (each_bind _ _ (quiet_module (LevelOf s) present) (on_presence _ (each_bind _ _ (quiet_then (LevelOf s) _ _ (each_mapped _ _ sent_output) (each_mapped _ _ sent_reflected)) (on_effect _ (each_done _))))))

  -- ---- new settings

  on_fine_lem : (k : Run (Result (Unit {0}) Wrong)) → Sent k → (w : Result (Unit {0}) Wrong) → Sent (on_fine k w)
  unfolding on_fine
  on_fine_lem k h (Ok tt) = h
  on_fine_lem k h (Err wrong) = each_done _

  sent_changes : (due : Changes) → Sent (write_changes due s)
  unfolding write_changes write_output write_reflected write_bias
  sent_changes due =
      each_bind _ _ (each_cond due.output (each_mapped _ _ sent_output) (each_done _))
      (on_fine_lem _
      (each_bind _ _ (each_cond due.reflected (each_mapped _ _ sent_reflected) (each_done _))
      (on_fine_lem _ (each_cond due.bias (each_mapped _ _ (quiet_bias (LevelOf s) s)) (each_done _)))))

  on_follow_lem : (c : RfChannel) (g : Givens) (x : Option Events) → Sent (on_follow c g x)
  unfolding on_follow
  on_follow_lem c g None = each_done _
  on_follow_lem c g (Some e) = quiet_quietly (LevelOf s) e c g

  on_wrong : (c : RfChannel) (wrong : Wrong) → Sent (refusing c wrong)
  unfolding refusing
  on_wrong c Range = each_done _
  on_wrong c Chip = each_done _
  on_wrong c Bus = quiet_halting (LevelOf s) _

  on_applied_lem : (g : Givens) (x : Result RfChannel (RfChannel × Wrong)) → Sent (on_applied s.state g x)
  unfolding on_applied following
  on_applied_lem g (Ok c) = on_follow_lem c g (event_of c.state s.state)
  on_applied_lem g (Err (c, wrong)) = on_wrong c wrong

  sent_settings : (c : RfChannel) (g : Givens) → Sent (handle_settings c s g)
  unfolding handle_settings apply_settings
  sent_settings c g = each_bind _ _ (each_cond (same c.settings s) (each_done _) (each_mapped _ _ (sent_changes (changes_of c.settings s)))) (on_applied_lem g)

-- ---- any request

requested_rows : (c : RfChannel) (r : Request) (g : Givens) → Each (Writes (MayWrite r)) (requested c r g)
unfolding requested handle_startup interlock_reset standing MayWrite
requested_rows c Startup g = quiet_quietly (MayWrite Startup) _ c g
requested_rows c Update g = quiet_updating (MayWrite Update) c g
requested_rows c Reset g = quiet_answering (MayWrite Reset) _ _ c g
requested_rows c Standby g = quiet_quietly (MayWrite Standby) _ c g
requested_rows c (Settings s) g = sent_settings s c g
requested_rows c (Status d) g = quiet_status (MayWrite (Status d)) c d g

pub codes_sent : CodesSent
codes_sent = record { start = λ s present rs slot taken. (sent_starting s present rs slot taken).holds; request = λ c r g rs slot taken. (requested_rows c r g rs slot taken).holds }
