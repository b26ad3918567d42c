-- A start halts with cause 4 and new settings are answered 11 only for a level that demand 3 lets be refused, or for a bias without a code (`refused_for_range`); and the level of the highest code is sent (`full_scale`). Assumes nothing.
use Prim.Native.Nat.{ℕ}
use mathlib.Core.Path.{◌≡◌, refl, subst}
use mathlib.Core.Bool.{Bool, true, false, cond}
use mathlib.Core.Logic.{◌⊎◌, inl, inr}
use mathlib.Core.List.{List}
use lib.Dec.{eqb, lit<, lit≤}
use lib.Ieee.{Float, round, neg, fits}
use Rattle.std.specs.Prelude.{Option, None, Some, Result, Ok, Err}
use Rattle.steps.specs.Steps.{magnitude, negative}
use Rattle.linear_transformation.specs.declared.LinearTransformation.{LinearTransformation}
use Rattle.conversions.specs.Codes.{dac7571_code}
use Rattle.interlock.specs.Level.{level_code}
use Rattle.interlock.specs.Demand3.{Given, OutOfRange, Answers}
use Rattle.interlock.proofs.Demand3.{demand_3}
use Rattle.bus.specs.declared.Note.TheVariants.{SignalOn, EnablePower}
use Rattle.bus.specs.Rows.{Row}
use Rattle.bus.specs.Run.{Run, done, mapped, note}
use Rattle.ad5627.specs.declared.Dac.{Dac}
use Rattle.ad5627.specs.declared.Dac.TheVariants.{A, B}
use Rattle.ad5627.specs.Voltage.{send_code}
use Rattle.rf_channel.specs.declared.Events.{Events}
use Rattle.rf_channel.specs.declared.ChannelSettings.{ChannelSettings}
use Rattle.rf_channel.specs.declared.RfChannel.{RfChannel}
use Rattle.rf_machine.specs.declared.Cause.{Cause}
use Rattle.rf_machine.specs.declared.Cause.TheVariants as K
use Rattle.rf_machine.specs.Hardware.{on_did, ◌and_then◌, pin, pinched, pinch_off}
use Rattle.rf_machine.specs.Event.{process_event}
use Rattle.rf_machine.proofs.Gives.{Gives, gives_any, gives_done, gives_cond, gives_bind, gives_mapped, gives_try}
use Rattle.rf_devices.specs.Devices.{highest_reflected, apply_output, set_reflected}
use Rattle.rf_call.specs.declared.Answer.{Answer}
use Rattle.rf_call.specs.declared.Answer.TheVariants as A
use Rattle.rf_call.specs.declared.Givens.{Givens}
use Rattle.rf_call.specs.declared.Outcome.{Outcome}
use Rattle.rf_call.specs.declared.Outcome.TheVariants.{Live, Absent, Halted}
use Rattle.rf_call.specs.declared.Report.TheVariants.{Plain}
use Rattle.rf_call.specs.Calls.{halting, or_halt, after_event, answering, quietly}
use Rattle.rf_changes.specs.declared.Changes.{Changes}
use Rattle.rf_changes.specs.Changes.{same, changes_of, event_of}
use Rattle.rf_settings.specs.declared.Wrong.{Wrong}
use Rattle.rf_settings.specs.declared.Wrong.TheVariants as W
use Rattle.rf_settings.specs.Settings.{applied_to, apply_settings, on_follow, following, refusing, on_applied, handle_settings}
use Rattle.rf_settings.specs.Reasons.{Uncoded, output, reflected, bias, Reason, full_line, full_level}
use Rattle.rf_settings.proofs.Reasons.{reasons}
use Rattle.rf_settings.proofs.Impostors.{full_code}
use Rattle.rf_start.specs.declared.Presence.{Presence}
use Rattle.rf_start.specs.declared.Presence.TheVariants.{Present, Absent as NotThere}
use Rattle.rf_start.specs.Start.{beginning, ready, heard, quiet, monitor, preparing, module_there, level_set, levels, settling, if_present, starting}
use Rattle.rf_calls.specs.Requests.{requested}
use Rattle.wire_theorems.specs.Wire.{thirty}
use Rattle.wire_theorems.specs.Refusals.{Refusable, ALevel, RefusedForRange, FullScale}
use Rattle.wire_theorems.proofs.Wire.{thirty_is}
use Rattle.rf_machine.specs.declared.Told.{Told}
use Rattle.bus.specs.declared.Failed.{Failed}
use Rattle.bus.specs.declared.Error.{Error}
use Rattle.bus.specs.declared.Error.TheVariants as Chip

-- ---- a level without a code is one that demand 3 lets be refused

refusable : (l : LinearTransformation) (level : Float) → level_code l level ≡ None → Refusable l level
refusable l level e g = subst (λ (x : Option ℕ). Answers l level x) e (demand_3 l level g)

refusable_30 : (l : LinearTransformation) → level_code l highest_reflected ≡ None → Refusable l thirty
refusable_30 l e = subst (λ (x : Float). Refusable l x) thirty_is (refusable l highest_reflected e)

-- ---- a halt

halted : (Q : Outcome → Type 0) (n : ℕ) (cause : Cause) → Q (Halted cause) → Gives n (halting cause) (λ rows o. Q o)
unfolding halting
halted Q n cause h =
    gives_bind (note (SignalOn false)) _ (gives_any (note (SignalOn false)))
    (λ rows u t. gives_bind (note (EnablePower false)) _ (gives_any (note (EnablePower false))) (λ more v w. gives_done _ h))

-- ---- the start: cause 4 comes from the levels alone

module _ (X : Type 0) where
  -- cause 4 has the reason X
  unfoldable Because : Cause → Type 0
  Because K.Bus = Unit
  Because K.Alarm = Unit
  Because K.Temperature = Unit
  Because K.Threshold = X
  Because K.Level = Unit
  Because K.Bias = Unit

  unfoldable Stops : Result (Unit {0}) Cause → Type 0
  Stops (Ok tt) = Unit
  Stops (Err cause) = Because cause

  unfoldable Halts : Outcome → Type 0
  Halts (Live c answer) = Unit
  Halts Absent = Unit
  Halts (Halted cause) = Because cause

  -- ---- what the other chips answer

  pinched_stops : (x : Result Float Error) → Stops (pinched x)
  unfolding Stops Because
  pinched_stops (Ok v) = tt
  pinched_stops (Err Chip.Range) = tt
  pinched_stops (Err Chip.Bus) = tt

  ready_stops : (x : Result (Unit {0}) Failed) → Stops (ready x)
  unfolding Stops Because
  ready_stops (Ok tt) = tt
  ready_stops (Err e) = tt

  heard_stops : (x : Result Float Failed) → Stops (heard x)
  unfolding Stops Because
  heard_stops (Ok v) = tt
  heard_stops (Err e) = tt

  no_alarm : (b : Bool) → Stops (cond b (Ok tt) (Err K.Alarm))
  unfolding Stops Because
  no_alarm true = tt
  no_alarm false = tt

  quiet_stops : (x : Result ℕ Failed) → Stops (quiet x)
  unfolding Stops Because
  quiet_stops (Ok mask) = no_alarm (eqb mask 0)
  quiet_stops (Err e) = tt

  module _ (n : ℕ) where
    -- ---- one piece after another

    stops_mapped : {B : Type 0} (f : B → Result (Unit {0}) Cause) (m : Run B) → ((b : B) → Stops (f b)) → Gives n (mapped f m) (λ rows e. Stops e)
    stops_mapped f m h = gives_mapped f m (gives_any m) (λ rows b u. h b)

    on_did_lem : (k : Run (Result (Unit {0}) Cause)) → Gives n k (λ rows e. Stops e) → (rows : List Row) (e : Result (Unit {0}) Cause) → Stops e → Gives n (on_did k e) (λ more x. Stops x)
    unfolding on_did
    on_did_lem k h rows (Ok tt) p = h
    on_did_lem k h rows (Err cause) p = gives_done _ p

    stops_then : (m k : Run (Result (Unit {0}) Cause)) → Gives n m (λ rows e. Stops e) → Gives n k (λ rows e. Stops e) → Gives n (m and_then k) (λ rows e. Stops e)
    stops_then m k g h = gives_bind m (on_did k) g (on_did_lem k h)

    or_halt_lem : (k : Run Outcome) → Gives n k (λ rows o. Halts o) → (rows : List Row) (e : Result (Unit {0}) Cause) → Stops e → Gives n (or_halt k e) (λ more o. Halts o)
    unfolding or_halt Stops Halts
    or_halt_lem k h rows (Ok tt) p = h
    or_halt_lem k h rows (Err cause) p = halted Halts n cause p

    if_present_lem : (k : Run Outcome) → Gives n k (λ rows o. Halts o) → (x : Presence) → Gives n (if_present k x) (λ rows o. Halts o)
    unfolding if_present Halts
    if_present_lem k h Present = h
    if_present_lem k h NotThere = gives_done _ tt

    -- ---- the parts of the start

    stops_pin : Gives n preparing (λ rows e. Stops e)
    unfolding preparing beginning monitor pin pinch_off Stops
    stops_pin =
        stops_then _ _ (stops_then _ _ (stops_mapped _ _ (λ u. tt)) (stops_then _ _ (stops_mapped _ _ (λ u. tt)) (stops_mapped _ _ pinched_stops)))
        (stops_then _ _ (stops_mapped _ _ ready_stops) (stops_then _ _ (stops_mapped _ _ heard_stops) (stops_mapped _ _ quiet_stops)))

    level_stops : (dac : Dac) (x : Option ℕ) → (x ≡ None → X) → Gives n (mapped level_set (send_code dac x)) (λ rows e. Stops e)
    unfolding Stops Because
    level_stops dac None h = gives_mapped level_set _ (gives_done {P = λ rows o. Stops (level_set o)} _ (h refl)) (λ rows o p. p)
    level_stops dac (Some code) h = gives_mapped level_set _ (gives_try (λ rows o. Stops (level_set o)) _ _ _ tt (λ d. gives_done _ tt)) (λ rows o p. p)

halts_starting : (s : ChannelSettings) (present : Bool) (n : ℕ) → Gives n (starting s present) (λ rows o. Halts (ALevel s) o)
unfolding starting settling levels apply_output set_reflected Halts
halts_starting s present n =
    gives_bind _ _ (stops_pin (ALevel s) n)
    (or_halt_lem (ALevel s) n _
    (gives_bind (module_there present) _ (gives_any (module_there present)) (λ rows x t. if_present_lem (ALevel s) n _
    (gives_bind _ _ (stops_then (ALevel s) n _ _ (level_stops (ALevel s) n B (level_code s.output_power_transform s.output_interlock_threshold) (λ e. inl (refusable _ _ e))) (level_stops (ALevel s) n A (level_code s.reflected_power_transform highest_reflected) (λ e. inr (refusable_30 _ e))))
    (or_halt_lem (ALevel s) n _ (gives_done _ tt))) x)))

start_refused : (s : ChannelSettings) (present : Bool) (rs : List ℕ) (n taken : ℕ) → (starting s present rs n taken).ans ≡ Halted K.Threshold → ALevel s
unfolding Halts Because
start_refused s present rs n taken e = subst (λ (o : Outcome). Halts (ALevel s) o) e (halts_starting s present n rs taken).holds

-- ---- new settings: 11 comes from the writes alone

module _ (X : Type 0) where
  -- 11 has the reason X
  unfoldable For : Answer → Type 0
  For (A.Done report) = Unit
  For A.NoTransition = Unit
  For A.GuardFalse = Unit
  For A.Range = X
  For A.Chip = Unit

  unfoldable Says : Outcome → Type 0
  Says (Live c answer) = For answer
  Says Absent = Unit
  Says (Halted cause) = Unit

  unfoldable Refuses : Wrong → Type 0
  Refuses W.Range = X
  Refuses W.Chip = Unit
  Refuses W.Bus = Unit

  unfoldable Took : Result RfChannel (RfChannel × Wrong) → Type 0
  Took (Ok c) = Unit
  Took (Err (c, wrong)) = Refuses wrong

  module _ (n : ℕ) where
    after_event_lem : (x : Result (RfChannel × Told) Cause) → Gives n (after_event (λ c told. done (Live c (A.Done Plain))) x) (λ rows o. Says o)
    unfolding after_event Says For
    after_event_lem (Ok (c, told)) = gives_done _ tt
    after_event_lem (Err cause) = halted Says n cause tt

    on_follow_lem : (c : RfChannel) (g : Givens) (x : Option Events) → Gives n (on_follow c g x) (λ rows o. Says o)
    unfolding on_follow quietly answering Says For
    on_follow_lem c g None = gives_done _ tt
    on_follow_lem c g (Some e) = gives_bind (process_event c e g.tick g.watchdog) _ (gives_any (process_event c e g.tick g.watchdog)) (λ rows x t. after_event_lem x)

    on_wrong : (c : RfChannel) (wrong : Wrong) → Refuses wrong → Gives n (refusing c wrong) (λ rows o. Says o)
    unfolding refusing Refuses Says For
    on_wrong c W.Range h = gives_done _ h
    on_wrong c W.Chip h = gives_done _ tt
    on_wrong c W.Bus h = halted Says n _ tt

    on_applied_lem : (s : ChannelSettings) (g : Givens) (rows : List Row) (x : Result RfChannel (RfChannel × Wrong)) → Took x → Gives n (on_applied s.state g x) (λ more o. Says o)
    unfolding on_applied following Took
    on_applied_lem s g rows (Ok c) h = on_follow_lem c g (event_of c.state s.state)
    on_applied_lem s g rows (Err (c, wrong)) h = on_wrong c wrong h

abbrev Reasons : ChannelSettings → Type 0
Reasons s = ALevel s ⊎ (dac7571_code (neg s.bias_voltage) ≡ None)

excuse : (due : Changes) (s : ChannelSettings) → Uncoded due s → Reasons s
excuse due s (output d e) = inl (inl (refusable _ _ e))
excuse due s (reflected d e) = inl (inr (refusable_30 _ e))
excuse due s (bias d e) = inr e

took : (due : Changes) (s : ChannelSettings) (n : ℕ) (c : RfChannel) (rows : List Row) (w : Result (Unit {0}) Wrong) → Reason due s n rows w → Took (Reasons s) (applied_to c w)
unfolding Reason Took Refuses
took due s n c rows (Ok tt) h = tt
took due s n c rows (Err W.Range) h = excuse due s h
took due s n c rows (Err W.Chip) h = tt
took due s n c rows (Err W.Bus) h = tt

says_settings : (c : RfChannel) (s : ChannelSettings) (g : Givens) (n : ℕ) → Gives n (handle_settings c s g) (λ rows o. Says (Reasons s) o)
unfolding handle_settings apply_settings Took
says_settings c s g n =
    gives_bind _ _ (gives_cond (same c.settings s) _ _ (gives_done {P = λ rows x. Took (Reasons s) x} _ tt) (gives_mapped _ _ (reasons (changes_of c.settings s) s n) (took _ s n _)))
    (on_applied_lem (Reasons s) n s g)

settings_refused : (c c' : RfChannel) (s : ChannelSettings) (g : Givens) (rs : List ℕ) (n taken : ℕ) → (handle_settings c s g rs n taken).ans ≡ Live c' A.Range → Reasons s
unfolding Says For
settings_refused c c' s g rs n taken e = subst (λ (o : Outcome). Says (Reasons s) o) e (says_settings c s g n rs taken).holds

pub refused_for_range : RefusedForRange
unfolding requested
refused_for_range = record { start = start_refused; settings = settings_refused }

-- ---- the highest code

full_given : Given full_line full_level
unfolding round neg fits magnitude
full_given = record { threshold_finite = (tt, tt); offset_finite = (tt, tt); slope_finite = (tt, tt); slope_not_zero = lit< tt; threshold_size = lit≤ tt; offset_size = lit≤ tt }

full_in_range : OutOfRange full_line full_level → ⊥
full_in_range (inl h) = unfold round neg magnitude negative in h.lt
full_in_range (inr h) = unfold round neg magnitude negative in h.lt

pub full_scale : FullScale
full_scale = record { is_sent = full_code; is_not_refused = λ convert e d. full_in_range (subst (λ (x : Option ℕ). Answers full_line full_level x) e (d full_line full_level full_given)) }
