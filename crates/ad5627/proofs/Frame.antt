-- What the ad5627 is sent: at the opening a reset and the switch of the reference to on, both to both outputs; for a voltage that is not refused, one write of a code of twelve bits. A refused one is sent nothing. Assumes nothing.
use Rattle.std.specs.Prelude.{Some, None, Ok, Err}
use mathlib.Core.Path.{◌≡◌, refl}
use Prim.Native.Nat.{ℕ, ◌+◌, ◌*◌, ◌/◌, ◌%◌, ◌^◌, ◌≤◌, ◌<◌}
use native.Mathlib.Omega.{arith}
use mathlib.Core.Bool.{Bool, true, false, ◌&&◌, cond}
use lib.Dec.{T, leb, leb→le}
use lib.Ieee.{Float, le}
use Rattle.bus.specs.declared.Eight.{Eight}
use Rattle.bus.specs.declared.Transfer.TheVariants.{Write3}
use Rattle.bus.specs.Run.{done, try}
use Rattle.conversions.specs.Codes.{code_of, volts_of, ad5627_code}
use Rattle.conversions.specs.Constants.{zero, v2_5}
use Rattle.ad5627.specs.declared.Dac.{Dac}
use Rattle.ad5627.specs.declared.Dac.TheVariants.{A, B, Both}
use Rattle.ad5627.specs.Layout.{write_input, reset, reference_setup, coded, reference_on, register, frame}
use Rattle.ad5627.specs.Opening.{opening}
use Rattle.ad5627.specs.Voltage.{dac_byte, set_voltage}
use Rattle.bus.specs.Rows.{no_answer}
use Rattle.bus.specs.declared.Error.TheVariants as Chip

pub opening_sent : opening ≡ try (frame (register reset Both 0)) (Err no_answer) (λ (d : Eight). try (frame (register reference_setup Both reference_on)) (Err no_answer) (λ (e : Eight). done (Ok tt)))
unfolding opening
opening_sent = refl

-- the fields of a register with a code of twelve bits, in its three bytes
fields : (command output code : ℕ) → code < 2 ^ 12 → Write3 0x0E (8 * command + output) (16 * code / 256) (16 * code % 256) ≡ frame (2 ^ 19 * command + 2 ^ 16 * output + coded code)
fields command output code h = same (omega arith) (omega arith) (omega arith)
  where
    same : {x y z x' y' z' : ℕ} → x ≡ x' → y ≡ y' → z ≡ z' → Write3 0x0E x y z ≡ Write3 0x0E x' y' z'
    same p q r = cc

-- the write of a code is the frame of the command that writes the input register
write_frame : (dac : Dac) (code : ℕ) → code < 2 ^ 12 → Write3 0x0E (dac_byte dac) (16 * code / 256) (16 * code % 256) ≡ frame (register write_input dac (coded code))
write_frame A = fields 0b000 0b000
write_frame B = fields 0b000 0b001
write_frame Both = fields 0b000 0b111

clash : {X : Type 0} {code : ℕ} → None ≡ Some code → X
clash e = absurd (let z : ◌≡◌ {A = ℕ} 0 1 = cc in omega arith)

module _ (v : Float) (code : ℕ) (e : ad5627_code v ≡ Some code) where
  pub twelve_bits : code < 2 ^ 12
  twelve_bits = go (le zero v) (le v v2_5) (leb (code_of v2_5 v) 4095) (leb→le (code_of v2_5 v) 4095) e
    where
      go : (a b c : Bool) → (T c → code_of v2_5 v ≤ 4095) → cond (a && b && c) (Some (code_of v2_5 v)) None ≡ Some code → code < 2 ^ 12
      go true true true f q = let z : code_of v2_5 v ≡ code = cc in omega (arith, f tt)
      go true true false f q = clash q
      go true false c f q = clash q
      go false b c f q = clash q

  pub sent : (dac : Dac) → set_voltage v dac ≡ try (frame (register write_input dac (coded code))) (Err Chip.Bus) (λ (d : Eight). done (Ok (volts_of v2_5 code)))
  unfolding set_voltage
  sent dac = rw (e, write_frame dac code twelve_bits)

pub sent_nothing : (v : Float) (dac : Dac) → ad5627_code v ≡ None → set_voltage v dac ≡ done (Err Chip.Range)
unfolding set_voltage
sent_nothing v dac e = rw e
