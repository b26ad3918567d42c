-- The events whose result the original unwraps: the table has a line for each of them, and the line's guard holds. Assumes nothing.
use Prim.Native.Nat.{ℕ}
use mathlib.Core.Path.{◌≡◌, refl, sym, ap, subst, ◌∙◌}
use mathlib.Core.Bool.{Bool, true, false, cond, ◌&&◌}
use mathlib.Core.List.{List}
use lib.Dec.{T, eqb, eqb→eq}
use lib.Ieee.{eq}
use Rattle.std.specs.Prelude.{Option, None, Some, Result, Ok, Err}
use Rattle.bus.specs.Run.{done, bind, mapped}
use Rattle.rf_channel.specs.declared.Action.TheVariants.{HandleFault}
use Rattle.rf_channel.specs.declared.ChannelFault.{ChannelFault}
use Rattle.rf_channel.specs.declared.ChannelSettings.{ChannelSettings}
use Rattle.rf_channel.specs.declared.ChannelState.{ChannelState}
use Rattle.rf_channel.specs.declared.ChannelState.TheVariants as W
use Rattle.rf_channel.specs.declared.Events.{Events}
use Rattle.rf_channel.specs.declared.Events.TheVariants as E
use Rattle.rf_channel.specs.declared.Plan.TheVariants.{Go}
use Rattle.rf_channel.specs.declared.RfChannel.{RfChannel}
use Rattle.rf_channel.specs.declared.States.{States}
use Rattle.rf_channel.specs.declared.States.TheVariants as S
use Rattle.rf_plan.specs.Table.{table}
use Rattle.rf_plan.specs.Plan.{fault_of, planned}
use Rattle.rf_plan.proofs.Whole.{both}
use Rattle.rf_changes.specs.Changes.{state_number, same_state, same_line, same, changes_of, stored, event_of}
use Rattle.rf_settings.specs.Settings.{write_changes, applied_to, apply_settings}
use Rattle.rf_theorems.specs.Events.{Moves, Unwrapped, EveryUnwrapMoves, WantedIsHeld, FaultBlocks, TripTrips}
use Rattle.rf_settings.specs.declared.Wrong.{Wrong}

-- ---- a fault, and a trip

fault_in : (c : RfChannel) (tick : ℕ) (watchdog : Bool) (f : ChannelFault) (s : States) → c.state ≡ s → planned table c (E.Fault f) tick watchdog ≡ Go HandleFault (S.Blocked (fault_of c.state f))
unfolding planned table
fault_in c tick watchdog f (S.Blocked g) h = rw h
fault_in c tick watchdog f S.Off h = rw h
fault_in c tick watchdog f (S.Powerup d) h = rw h
fault_in c tick watchdog f S.Powered h = rw h
fault_in c tick watchdog f S.Enabled h = rw h
fault_in c tick watchdog f (S.Tripped i) h = rw h
fault_in c tick watchdog f (S.Powerdown d) h = rw h

pub fault_blocks : FaultBlocks
fault_blocks c tick watchdog f = fault_in c tick watchdog f c.state refl

pub trip_trips : TripTrips
unfolding planned table
trip_trips c tick watchdog i h = rw h

-- ---- the events of settings

module _ (c : RfChannel) (tick : ℕ) (watchdog : Bool) where
  unfoldable Follows : Option Events → Type 0
  Follows None = Unit
  Follows (Some e) = (e ≡ E.Disable → ⊥) → Moves (planned table c e tick watchdog)

  follows : (s : States) (w : ChannelState) → c.state ≡ s → c.settings.state ≡ w → Follows (event_of s w)
  unfolding Follows Moves planned table
  follows s W.Off h v = λ n. absurd (n refl)
  follows S.Enabled W.Powered h v = λ n. rw h tt
  follows (S.Tripped i) W.Powered h v = λ n. rw h tt
  follows S.Off W.Powered h v = λ n. rw (h, v) tt
  follows (S.Blocked f) W.Powered h v = tt
  follows (S.Powerup d) W.Powered h v = tt
  follows S.Powered W.Powered h v = tt
  follows (S.Powerdown d) W.Powered h v = tt
  follows S.Off W.Enabled h v = λ n. rw (h, v) tt
  follows (S.Blocked f) W.Enabled h v = tt
  follows (S.Powerup d) W.Enabled h v = tt
  follows S.Powered W.Enabled h v = tt
  follows S.Enabled W.Enabled h v = tt
  follows (S.Tripped i) W.Enabled h v = tt
  follows (S.Powerdown d) W.Enabled h v = tt

  unwrapped : Unwrapped c tick watchdog
  unfolding Follows Moves
  unwrapped =
      record {
        fault = λ f. rw (fault_blocks c tick watchdog f) tt;
        trip = λ i h. rw (trip_trips c tick watchdog i h) tt;
        settings = λ e h. subst Follows h (follows c.state c.settings.state refl refl);
      }

pub every_unwrap_moves : EveryUnwrapMoves
every_unwrap_moves c tick watchdog = unwrapped c tick watchdog

-- ---- the wanted state is that of the settings that the channel holds

wanted_at : ℕ → ChannelState
wanted_at n = cond (eqb n 0) W.Off (cond (eqb n 1) W.Powered W.Enabled)

at_wanted : (w : ChannelState) → wanted_at (state_number w) ≡ w
unfolding wanted_at
at_wanted W.Off = refl
at_wanted W.Powered = refl
at_wanted W.Enabled = refl

same_wanted : (a b : ChannelState) → T (same_state a b) → a ≡ b
same_wanted a b t = sym (at_wanted a) ∙ ap wanted_at (eqb→eq _ _ t) ∙ at_wanted b

third : (a b c d e f : Bool) → T (a && b && c && d && e && f) → T c
third a b c d e f t = (both (a && b) c (both (a && b && c) d (both (a && b && c && d) e (both (a && b && c && d && e) f t).0).0).0).1

-- equal settings want the same state
pub same_state_lem : (a b : ChannelSettings) → T (same a b) → a.state ≡ b.state
same_state_lem a b t =
    same_wanted a.state b.state
    (third (eq a.output_interlock_threshold b.output_interlock_threshold) (eq a.bias_voltage b.bias_voltage) (same_state a.state b.state)
    (same_line a.input_power_transform b.input_power_transform) (same_line a.output_power_transform b.output_power_transform) (same_line a.reflected_power_transform b.reflected_power_transform) t)

module _ (c : RfChannel) (s : ChannelSettings) where
  unfoldable Holds : Result RfChannel (RfChannel × Wrong) → Type 0
  Holds (Ok c') = c'.settings.state ≡ s.state
  Holds (Err (c', wrong)) = Unit

  stored_holds : (w : Result (Unit {0}) Wrong) → Holds (applied_to (stored c s) w)
  unfolding Holds
  stored_holds (Ok tt) = refl
  stored_holds (Err wrong) = tt

  applied_holds : (b : Bool) → (T b → c.settings.state ≡ s.state) → (rs : List ℕ) (slot taken : ℕ) → Holds (cond b (done (Ok c)) (mapped (applied_to (stored c s)) (write_changes (changes_of c.settings s) s)) rs slot taken).ans
  unfolding Holds done bind mapped
  applied_holds true h rs slot taken = h tt
  applied_holds false h rs slot taken = stored_holds (write_changes (changes_of c.settings s) s rs slot taken).ans

pub wanted_is_held : WantedIsHeld
unfolding apply_settings Holds
wanted_is_held c s rs slot taken c' h = subst (Holds c s) h (applied_holds c s (same c.settings s) (same_state_lem c.settings s) rs slot taken)
