-- What the dac7571 is sent for a voltage is one frame of normal operation, with a code of twelve bits, for every f32 that is not refused. A refused one is sent nothing. Assumes nothing.
use Rattle.std.specs.Prelude.{Some, None, Ok, Err}
use mathlib.Core.Path.{◌≡◌, refl}
use Prim.Native.Nat.{ℕ, ◌≤◌, ◌<◌, ◌^◌}
use native.Mathlib.Nat.{zero-add}
use native.Mathlib.Omega.{arith}
use mathlib.Core.Bool.{Bool, true, false, ◌||◌, cond}
use lib.Dec.{T}
use lib.Ieee.{Float, binary32, fits, le, lt}
use Rattle.bus.specs.declared.Eight.{Eight}
use Rattle.bus.specs.Run.{done, try}
use Rattle.conversions.specs.Constants.{zero, v3_3}
use Rattle.conversions.specs.Codes.{code_of, volts_of, dac7571_code}
use Rattle.conversions.proofs.Cuts.{dac_small}
use Rattle.dac7571.specs.Layout.{normal, word, frame}
use Rattle.dac7571.specs.Voltage.{set_voltage}
use Rattle.bus.specs.declared.Error.TheVariants as Chip

clash : {X : Type 0} {code : ℕ} → None ≡ Some code → X
clash e = absurd (let z : ◌≡◌ {A = ℕ} 0 1 = cc in omega arith)

module _ (v : Float) (h : T (fits binary32 v)) (code : ℕ) (e : dac7571_code v ≡ Some code) where
  pub twelve_bits : code < 2 ^ 12
  twelve_bits = go (le v3_3 v) (lt v zero) (dac_small v h) e
    where
      go : (a b : Bool) → (a ≡ false → b ≡ false → code_of v3_3 v ≤ 4095) → cond (a || b) None (Some (code_of v3_3 v)) ≡ Some code → code < 2 ^ 12
      go false false f q = let z : code_of v3_3 v ≡ code = cc in omega (arith, f refl refl)
      go true b f q = clash q
      go false true f q = clash q

  pub sent : set_voltage v ≡ try (frame (word normal code)) (Err Chip.Bus) (λ (d : Eight). done (Ok (volts_of v3_3 code)))
  unfolding set_voltage
  sent = rw (e, zero-add)

pub sent_nothing : (v : Float) → dac7571_code v ≡ None → set_voltage v ≡ done (Err Chip.Range)
unfolding set_voltage
sent_nothing v e = rw e
