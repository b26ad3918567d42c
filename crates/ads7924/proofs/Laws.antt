-- Laws of the ads7924: an `or` with a channel's bit sets it (`or_enables`), and what an `ok_or` tells that failed (`lacking`). Assumes nothing.
use Rattle.std.specs.Prelude.{Option, Some, None, Result, Err}
use Rattle.std.specs.Option.{ok_or}
use mathlib.Core.Path.{◌≡◌, refl}
use mathlib.Core.Bool.{Bool, true, false, cond}
use Prim.Native.Nat.{ℕ, ◌+◌, ◌-◌, ◌*◌, ◌/◌, ◌%◌, ◌^◌, ◌<◌}
use native.Mathlib.Omega.{arith}
use native.Mathlib.Nat.{mod-lt}
use lib.Bits.{bit_or, or_add_and, and_high}
use lib.Dec.{eqb, lit<}
use borrow.Author.Tests.{eqb-true, eqb-false}
use Rattle.ads7924.specs.declared.Channel.{Channel}
use Rattle.ads7924.specs.declared.Channel.TheVariants.{Zero, One, Two, Three}
use Rattle.ads7924.specs.Layout.{bit, enabling}

-- ---- a channel's bit

-- d is bit k of a byte, and o the byte's `or` with it
set : (k d o byte : ℕ) → d < 2 → o + d * 2 ^ k ≡ byte + 2 ^ k → o ≡ cond (eqb d 0) (byte + 2 ^ k) byte
set k d o byte small e = go (eqb d 0) (eqb-true d 0) (eqb-false d 0)
  where
    go : (b : Bool) → (b ≡ true → d ≡ 0) → (b ≡ false → d ≡ 0 → ⊥) → o ≡ cond b (byte + 2 ^ k) byte
    go true f g = let z : d ≡ 0 = f refl in omega (arith, rw z at e)
    go false f g = let z : d ≡ 1 = omega (arith, g refl) in omega (arith, rw z at e)

or_bit : (k byte : ℕ) → 2 ^ (1 + k) - 2 ^ k ≡ 2 ^ k → bit_or byte (2 ^ k) ≡ cond (eqb (byte / 2 ^ k % 2) 0) (byte + 2 ^ k) byte
or_bit k byte e = set k (byte / 2 ^ k % 2) (bit_or byte (2 ^ k)) byte (mod-lt _ (lit< tt)) (rw (← and_high byte 1 k, e) (or_add_and byte (2 ^ k)))

pub or_enables : (channel : Channel) (byte : ℕ) → bit_or byte (bit channel) ≡ enabling channel byte
or_enables Zero byte = or_bit 0 byte refl
or_enables One byte = or_bit 1 byte refl
or_enables Two byte = or_bit 2 byte refl
or_enables Three byte = or_bit 3 byte refl

-- ---- an `ok_or` that failed: there was no value, and the error is the one that stood for that

pub lacking : {A B E : Type 0} {e f : E} (x : Option A) → Err f ≡ ok_or x e → (x ≡ None) × (◌≡◌ {A = Result B E} (Err f) (Err e))
lacking None p = (refl, cc)
lacking (Some a) p = absurd (let z : ◌≡◌ {A = ℕ} 0 1 = cc in omega arith)
