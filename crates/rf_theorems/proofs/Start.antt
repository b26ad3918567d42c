-- The start: both pins are low from its second row on, and nothing after that sets one high. Assumes nothing.
use Rattle.std.specs.Prelude.{Result, Ok, Err}
use mathlib.Core.Path.{◌≡◌, refl}
use mathlib.Core.Bool.{Bool, false}
use Rattle.bus.specs.declared.Note.TheVariants.{SignalOn, EnablePower}
use Rattle.bus.specs.Run.{Run, done, bind}
use Rattle.rf_channel.specs.declared.ChannelSettings.{ChannelSettings}
use Rattle.rf_machine.specs.declared.Cause.{Cause}
use Rattle.rf_machine.specs.Hardware.{on_did, ◌and_then◌, pin, pinch_off}
use Rattle.rf_call.specs.declared.Answer.TheVariants.{Done}
use Rattle.rf_call.specs.declared.Report.TheVariants.{Plain}
use Rattle.rf_call.specs.declared.Outcome.{Outcome}
use Rattle.rf_call.specs.declared.Outcome.TheVariants.{Live, Absent, Halted}
use Rattle.rf_call.specs.Calls.{halting, or_halt}
use Rattle.rf_start.specs.declared.Presence.{Presence}
use Rattle.rf_start.specs.declared.Presence.TheVariants.{Present, Absent as NotThere}
use Rattle.rf_start.specs.Start.{beginning, monitor, preparing, on_present, module_there, levels, fresh, settling, if_present, starting}
use Rattle.rf_theorems.specs.Pins.{Levels, low}
use Rattle.rf_theorems.proofs.Keeps.{Keeps, Still, keeps_done, keeps_more, keeps_bind, still_done, still_bind, still_mapped}
use Rattle.rf_theorems.proofs.Chips.{still_mcp3221, still_ad5627_opening, still_ads7924_opening, still_ads7924, still_ads7924_alarm, still_output, still_reflected, still_cond}
use Rattle.rf_theorems.proofs.Rule.{IfDid, At, keeps_then, keeps_pinch, keeps_signal, keeps_power, still_did}
use Rattle.rf_theorems.proofs.Calls.{Ends, keeps_halting}

-- a start leaves a channel that is off, or none; both pins are low
unfoldable pub Starts : ChannelSettings → Levels → Outcome → Type 0
Starts s q (Live c answer) = (q ≡ low) × (c ≡ fresh s)
Starts s q Absent = q ≡ low
Starts s q (Halted cause) = q ≡ low

still_on_did : (k : Run (Result (Unit {0}) Cause)) → Still k → (e : Result (Unit {0}) Cause) → Still (on_did k e)
unfolding on_did
still_on_did k s (Ok tt) = s
still_on_did k s (Err cause) = still_done _

still_then : (m k : Run (Result (Unit {0}) Cause)) → Still m → Still k → Still (m and_then k)
still_then m k s t = still_bind m (on_did k) s (still_on_did k t)

keeps_beginning : (p : Levels) → Keeps p beginning (IfDid (At low))
unfolding beginning
keeps_beginning p =
    let off : Levels = record { signal = false; power = p.power } in
    keeps_then (At off) (At low) p (pin (SignalOn false)) _ (keeps_signal p false)
    (λ q e. rw e (keeps_then (At low) (At low) off (pin (EnablePower false)) pinch_off (keeps_power off false) (λ r f. rw f (keeps_pinch low))))

still_monitor : Still monitor
unfolding monitor
still_monitor = still_then _ _ (still_mapped _ _ still_ads7924_opening) (still_then _ _ (still_mapped _ _ (still_ads7924 _)) (still_mapped _ _ still_ads7924_alarm))

keeps_preparing : (p : Levels) → Keeps p preparing (IfDid (At low))
unfolding preparing
keeps_preparing p = keeps_then (At low) (At low) p beginning monitor (keeps_beginning p) (λ q e. rw e (still_did low monitor still_monitor))

still_present : (k : Run Presence) → Still k → (x : Presence) → Still (on_present k x)
unfolding on_present
still_present k s Present = s
still_present k s NotThere = still_done _

still_module : (present : Bool) → Still (module_there present)
unfolding module_there
still_module present = still_bind _ _ (still_mapped _ _ still_ad5627_opening) (still_present _ (still_cond present (still_mapped _ _ (still_mcp3221 _)) (still_done _)))

still_levels : (s : ChannelSettings) → Still (levels s)
unfolding levels
still_levels s = still_then _ _ (still_mapped _ _ (still_output s)) (still_mapped _ _ (still_reflected s _))

halts : (s : ChannelSettings) (p : Levels) (cause : Cause) → Keeps p (halting cause) (Starts s)
unfolding Starts Ends
halts s p cause = keeps_more (keeps_halting (λ q c. ⊥) p cause) turn
  where
    turn : (q : Levels) (x : Outcome) → Ends (λ q c. ⊥) q x → Starts s q x
    turn q (Live c answer) h = absurd h
    turn q Absent h = absurd h
    turn q (Halted cause) h = h

settled : (s : ChannelSettings) (q : Levels) (e : Result (Unit {0}) Cause) → q ≡ low → Keeps q (or_halt (done (Live (fresh s) (Done Plain))) e) (Starts s)
unfolding or_halt Starts
settled s q (Ok tt) h = keeps_done _ (h, refl)
settled s q (Err cause) h = halts s q cause

keeps_settling : (s : ChannelSettings) → Keeps low (settling s) (Starts s)
unfolding settling
keeps_settling s = keeps_bind _ _ (still_levels s low) (settled s)

if_present_lem : (s : ChannelSettings) (q : Levels) (x : Presence) → q ≡ low → Keeps q (if_present (settling s) x) (Starts s)
unfolding if_present Starts
if_present_lem s q Present h = rw h (keeps_settling s)
if_present_lem s q NotThere h = keeps_done _ h

prepared : (s : ChannelSettings) (present : Bool) (q : Levels) (e : Result (Unit {0}) Cause) → IfDid (At low) q e → Keeps q (or_halt (bind (module_there present) (if_present (settling s))) e) (Starts s)
unfolding or_halt IfDid
prepared s present q (Ok tt) h = rw h (keeps_bind _ _ (still_module present low) (if_present_lem s))
prepared s present q (Err cause) h = halts s q cause

pub keeps_starting : (p : Levels) (s : ChannelSettings) (present : Bool) → Keeps p (starting s present) (Starts s)
unfolding starting
keeps_starting p s present = keeps_bind _ _ (keeps_preparing p) (prepared s present)
