-- Every start that is answered 0 has document 01's 18 rows. Assumes nothing.
use Rattle.std.specs.Prelude.{Option, Some, None, Result, Ok, Err}
use Prim.Native.Nat.{ℕ, ◌+◌, ◌*◌, ◌/◌, ◌%◌}
use mathlib.Core.Path.{◌≡◌, refl, sym, ap, subst, ◌∙◌}
use mathlib.Core.Bool.{Bool, false}
use mathlib.Core.List.{List, [], ◌∷◌, ◌++◌}
use lib.ListN.{length, length-map, take, drop}
use lib.Ieee.{of_bits, round, neg, lt, le, sub, mul, div, to_unsigned, of_int}
use Rattle.bus.specs.declared.Note.{Note}
use Rattle.bus.specs.declared.Note.TheVariants.{SignalOn, EnablePower, Wait}
use Rattle.bus.specs.declared.Transfer.TheVariants.{Write2, Write3}
use Rattle.bus.specs.Rows.{noted, bytes, laid}
use Rattle.bus.specs.Replies.{got_at, data_at}
use Rattle.bus.specs.Run.{Run, done, bind, mapped, note, transfer, on_got}
use Rattle.interlock.specs.Level.{level_code}
use Rattle.mcp3221.specs.Voltage as Mcp3221
use Rattle.dac7571.specs.Voltage as Dac7571
use Rattle.ad5627.specs.declared.Dac.{Dac}
use Rattle.ad5627.specs.declared.Dac.TheVariants.{A, B}
use Rattle.ad5627.specs.Opening as Ad5627Opening
use Rattle.ad5627.specs.Voltage as Ad5627
use Rattle.ads7924.specs.Calls as Ads7924
use Rattle.rf_channel.specs.declared.ChannelSettings.{ChannelSettings}
use Rattle.rf_machine.specs.Hardware.{on_did, ◌and_then◌, pin, pinch_off}
use Rattle.rf_devices.specs.Devices.{highest_reflected, apply_output, set_reflected}
use Rattle.rf_call.specs.declared.Outcome.{Outcome}
use Rattle.rf_call.specs.declared.Outcome.TheVariants.{Live, Absent, Halted}
use Rattle.rf_call.specs.Calls.{halting, or_halt}
use Rattle.rf_start.specs.declared.Presence.{Presence}
use Rattle.rf_start.specs.declared.Presence.TheVariants.{Present, Absent as NotThere}
use Rattle.rf_start.specs.Start.{beginning, monitor, preparing, on_present, module_there, level_set, levels, settling, if_present, starting}
use Rattle.rf_theorems.proofs.Levels.{levels_sent, pinch_off_in_range}
use Rattle.row_theorems.specs.Start.{seen, start_rows, EveryStart, SomeStart}
use Rattle.row_theorems.proofs.Lays.{Lays, Fixed, sent, lays_as, lays_done, lays_never, lays_note, lays_transfer, lays_bind, lays_mapped, lays_try, lays_cond}
use Rattle.rf_machine.specs.declared.Cause.{Cause}

-- ---- good ends

unfoldable IsDid : Result (Unit {0}) Cause → Type 0
IsDid (Ok tt) = Unit
IsDid (Err cause) = ⊥

unfoldable IsThere : Presence → Type 0
IsThere Present = Unit
IsThere NotThere = ⊥

unfoldable IsLive : Outcome → Type 0
IsLive (Live c answer) = Unit
IsLive Absent = ⊥
IsLive (Halted cause) = ⊥

-- ---- one piece of work after another

on_did_lem : {J : Type 0} {K : J → ℕ → List (List ℕ)} {k : ℕ} (m : Run (Result (Unit {0}) Cause)) → Lays m IsDid K k → (e : Result (Unit {0}) Cause) → IsDid e → Lays (on_did m e) IsDid K k
unfolding on_did IsDid
on_did_lem m x (Ok tt) p = x
on_did_lem m x (Err cause) p = absurd p

did_first : (m : Run (Result (Unit {0}) Cause)) (e : Result (Unit {0}) Cause) (rs : List ℕ) (slot taken : ℕ) → IsDid (on_did m e rs slot taken).ans → IsDid e
unfolding on_did IsDid done
did_first m (Ok tt) rs slot taken q = tt
did_first m (Err cause) rs slot taken q = q

lays_then : {I J : Type 0} {L : I → ℕ → List (List ℕ)} {K : J → ℕ → List (List ℕ)} {n k : ℕ} (x y : Run (Result (Unit {0}) Cause)) → Lays x IsDid L n → Lays y IsDid K k → Lays (x and_then y) IsDid (λ (i : I × J) slot. L i.0 slot ++ K i.1 slot) (n + k)
lays_then x y u v = lays_bind x (on_did y) u (on_did_lem y v) (did_first y)

lays_pin : (n : Note) → Lays {I = Fixed} (pin n) IsDid (λ i slot. seen (noted slot n) ∷ []) 0
unfolding pin
lays_pin n = lays_mapped (λ _. (Ok tt)) (note n) (lays_note n)

-- ---- the mainboard: rows 1 to 13

-- the chip's code for 3.2 V is 0F 83
lays_pinch : Lays {I = Fixed} pinch_off IsDid (λ i slot. sent (Write2 0x4C 0x0F 0x83) slot ∷ []) 1
unfolding pinch_off Dac7571.set_voltage IsDid
lays_pinch = rw pinch_off_in_range (lays_as _ (λ i. tt) (λ i slot. refl) (lays_mapped _ _ (lays_try _ _ _ (λ z. z) (λ d. lays_done _))))

lays_beginning : Lays {I = Fixed} beginning IsDid (λ i slot. take 3 (start_rows slot 0 0)) 1
unfolding beginning bytes laid
lays_beginning = lays_as _ (λ i. tt) (λ i slot. refl) (lays_then _ _ (lays_pin (SignalOn false)) (lays_then _ _ (lays_pin (EnablePower false)) lays_pinch))

lays_monitor : Lays {I = Fixed} monitor IsDid (λ i slot. take 10 (drop 3 (start_rows slot 0 0))) 9
unfolding monitor Ads7924.opening Ads7924.get_voltage Ads7924.sample Ads7924.clear_alarm IsDid bytes laid
lays_monitor =
    lays_as _ (λ i. tt) (λ i slot. refl)
    (lays_then _ _
    (lays_mapped _ _
    (lays_try _ _ _ (λ z. z) (λ d.
    lays_bind {P = λ u. Unit} _ _ (lays_note (Wait 500)) (λ u p.
    lays_try _ _ _ (λ z. z) (λ e. lays_try _ _ _ (λ z. z) (λ f. lays_try _ _ _ (λ z. z) (λ g. lays_done _)))) (λ u rs slot taken q. tt))))
    (lays_then _ _
    (lays_mapped _ _ (lays_mapped _ _ (lays_try _ _ _ (λ z. z) (λ d. lays_try _ _ _ (λ z. z) (λ e. lays_try _ _ _ (λ z. z) (λ f. lays_try _ _ _ (λ z. z) (λ g. lays_done _)))))))
    (lays_mapped _ _ (lays_mapped _ _ (lays_transfer _ _ (λ z. z))))))

lays_preparing : Lays {I = Fixed} preparing IsDid (λ i slot. take 13 (start_rows slot 0 0)) 10
unfolding preparing
lays_preparing = lays_as _ (λ i. tt) (λ i slot. refl) (lays_then _ _ lays_beginning lays_monitor)

-- ---- the module: rows 14 to 16

there_first : (m : Run Presence) (e : Presence) (rs : List ℕ) (slot taken : ℕ) → IsThere (on_present m e rs slot taken).ans → IsThere e
unfolding on_present IsThere done
there_first m Present rs slot taken q = tt
there_first m NotThere rs slot taken q = q

on_there : {I : Type 0} {L : I → ℕ → List (List ℕ)} {n : ℕ} (m : Run Presence) → Lays m IsThere L n → (e : Presence) → IsThere e → Lays (on_present m e) IsThere L n
unfolding on_present IsThere
on_there m x Present p = x
on_there m x NotThere p = absurd p

lays_module : (present : Bool) → Lays {I = Fixed} (module_there present) IsThere (λ i slot. take 3 (drop 13 (start_rows slot 0 0))) 3
unfolding module_there Ad5627Opening.opening Mcp3221.get_voltage IsThere bytes laid
lays_module present =
    lays_as _ (λ i. tt) (λ i slot. refl)
    (lays_bind _ _ (lays_mapped _ _ (lays_try _ _ _ (λ z. z) (λ d. lays_try _ _ _ (λ z. z) (λ e. lays_done _))))
    (on_there _ (lays_cond present _ _ (λ z. z) (lays_mapped _ _ (lays_try _ _ _ (λ z. z) (λ d. lays_done _)))))
    (there_first _))

-- ---- the trip levels: rows 17 and 18

-- a code that was sent
abbrev Sent : Option ℕ → Type 0
Sent x = (n : ℕ) × (x ≡ Some n)

-- the row of a code to an output of the interlock chip
abbrev coded : Dac → ℕ → ℕ → List ℕ
coded dac n slot = sent (Write3 0x0E (Ad5627.dac_byte dac) (16 * n / 256) (16 * n % 256)) slot

lays_level : (dac : Dac) (x : Option ℕ) → Lays {I = Sent x} (mapped level_set (Ad5627.send_code dac x)) IsDid (λ i slot. coded dac i.0 slot ∷ []) 1
unfolding IsDid
lays_level dac (Some n) = lays_as _ (λ i. (n, refl)) (λ i slot. refl) (lays_mapped _ _ (lays_try _ _ _ (λ z. z) (λ d. lays_done _)))
lays_level dac None = lays_mapped _ _ (lays_never _ (λ z. z))

module _ (s : ChannelSettings) where
  abbrev output_code : Option ℕ
  output_code = level_code s.output_power_transform s.output_interlock_threshold

  abbrev reflected_code : Option ℕ
  reflected_code = level_code s.reflected_power_transform highest_reflected

  lays_output : Lays {I = Sent output_code} (mapped level_set (apply_output s)) IsDid (λ i slot. coded B i.0 slot ∷ []) 1
  lays_output = rw (levels_sent.output s) (lays_level B output_code)

  lays_reflected : Lays {I = Sent reflected_code} (mapped level_set (set_reflected s highest_reflected)) IsDid (λ i slot. coded A i.0 slot ∷ []) 1
  lays_reflected = rw (levels_sent.reflected s highest_reflected) (lays_level A reflected_code)

abbrev Codes : ChannelSettings → Type 0
Codes s = record { output : Sent (output_code s); reflected : Sent (reflected_code s) }

lays_levels : (s : ChannelSettings) → Lays {I = Codes s} (levels s) IsDid (λ i slot. drop 16 (start_rows slot i.output.0 i.reflected.0)) 2
unfolding levels bytes laid
lays_levels s =
    lays_as _ (λ i. record { output = i.0; reflected = i.1 }) (λ i slot. refl)
    (lays_then _ _ (lays_output s) (lays_reflected s))

-- ---- the start

did_live : (m : Run Outcome) (e : Result (Unit {0}) Cause) (rs : List ℕ) (slot taken : ℕ) → IsLive (or_halt m e rs slot taken).ans → IsDid e
unfolding or_halt halting bind note done IsLive IsDid
did_live m (Ok tt) rs slot taken q = tt
did_live m (Err cause) rs slot taken q = q

on_live : {I : Type 0} {L : I → ℕ → List (List ℕ)} {n : ℕ} (m : Run Outcome) → Lays m IsLive L n → (e : Result (Unit {0}) Cause) → IsDid e → Lays (or_halt m e) IsLive L n
unfolding or_halt IsDid
on_live m x (Ok tt) p = x
on_live m x (Err cause) p = absurd p

lays_settling : (s : ChannelSettings) → Lays {I = Codes s} (settling s) IsLive (λ i slot. drop 16 (start_rows slot i.output.0 i.reflected.0)) 2
unfolding settling
lays_settling s = lays_as _ (λ i. i.0) (λ i slot. refl) (lays_bind _ _ (lays_levels s) (on_live _ (lays_done _)) (did_live _))

there_live : (m : Run Outcome) (e : Presence) (rs : List ℕ) (slot taken : ℕ) → IsLive (if_present m e rs slot taken).ans → IsThere e
unfolding if_present done IsLive IsThere
there_live m Present rs slot taken q = tt
there_live m NotThere rs slot taken q = q

on_module : {I : Type 0} {L : I → ℕ → List (List ℕ)} {n : ℕ} (m : Run Outcome) → Lays m IsLive L n → (e : Presence) → IsThere e → Lays (if_present m e) IsLive L n
unfolding if_present IsThere
on_module m x Present p = x
on_module m x NotThere p = absurd p

lays_starting : (s : ChannelSettings) (present : Bool) → Lays {I = Codes s} (starting s present) IsLive (λ i slot. start_rows slot i.output.0 i.reflected.0) 15
unfolding starting
lays_starting s present =
    lays_as _ (λ i. i.1.1) (λ i slot. refl)
    (lays_bind _ _ lays_preparing (on_live _ (lays_bind _ _ (lays_module present) (on_module _ (lays_settling s)) (there_live _))) (did_live _))

pub every_start : EveryStart
unfolding IsLive
every_start s present rs slot taken c answer h =
    let x = starting s present rs slot taken in
    let u = (lays_starting s present).laid rs slot taken (subst IsLive (sym h) tt) in
    record {
      output = u.which.output.0;
      reflected = u.which.reflected.0;
      output_code_lem = u.which.output.1;
      reflected_code_lem = u.which.reflected.1;
      rows = u.rows;
      count = sym (length-map x.rows seen) ∙ ap length u.rows;
      replies = u.replies;
    }

-- such starts there are
pub some_start : SomeStart
unfolding starting preparing beginning monitor module_there levels settling if_present on_present or_halt on_did pin pinch_off apply_output set_reflected Mcp3221.get_voltage Dac7571.set_voltage Ad5627Opening.opening Ad5627.set_voltage Ads7924.opening Ads7924.get_voltage Ads7924.sample Ads7924.clear_alarm done bind mapped note transfer on_got got_at data_at of_bits round neg lt le sub mul div to_unsigned of_int
some_start = refl
