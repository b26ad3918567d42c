-- What the interlock chip is sent: each row that writes a code to it, of any call, acknowledged or failed, carries the code of a trip level, and demand 3 holds of that code. Definitions only.
use Rattle.std.specs.Prelude.{ℕ, ◌+◌, ◌*◌, ◌/◌, ◌≡◌, Bool, false, ◌⊎◌, List, [], ◌∷◌, Float, Some}
use Rattle.std.specs.Float.{binary32}
use Rattle.std.specs.Float.Ieee.{round}
use Rattle.linear_transformation.specs.declared.LinearTransformation.{LinearTransformation}
use Rattle.interlock.specs.Level.{level_code}
use Rattle.interlock.specs.Demand3.{Given, Close}
use Rattle.bus.specs.declared.Transfer.TheVariants.{Write2, Write3, WriteRead, Read}
use Rattle.bus.specs.Rows.{Row, noted, moved}
use Rattle.bus.specs.Run.{Run}
use Rattle.rf_channel.specs.declared.ChannelSettings.{ChannelSettings}
use Rattle.rf_channel.specs.declared.RfChannel.{RfChannel}
use Rattle.rf_call.specs.declared.Givens.{Givens}
use Rattle.rf_start.specs.Start.{starting}
use Rattle.rf_calls.specs.declared.Request.{Request}
use Rattle.rf_calls.specs.declared.Request.TheVariants.{Startup, Update, Reset, Standby, Settings, Status}
use Rattle.rf_calls.specs.Requests.{requested}

-- ---- rows

-- Of a row that writes a code to the interlock chip P holds. Such a row can be seen by itself: three bytes to the address 0x0E, of which the first has the command bits 000 above the three bits of the output.
unfoldable pub Writes : (ℕ → ℕ → ℕ → Type 0) → Row → Type 0
Writes P (noted slot n) = Unit
Writes P (moved slot (Write2 address first second) got) = Unit
Writes P (moved slot (Write3 address first high low) got) = address ≡ 0x0E → first / 8 ≡ 0 → P first high low
Writes P (moved slot (WriteRead address command count) got) = Unit
Writes P (moved slot (Read address count) got) = Unit

unfoldable pub Every : (Row → Type 0) → List Row → Type 0
Every P [] = Unit
Every P (r ∷ rows) = P r × Every P rows

-- each row of a run, whatever the replies and the slot are
abbrev pub Rows : {A : Type 0} → (Row → Type 0) → Run A → Type 0
Rows P m = (replies : List ℕ) (slot taken : ℕ) → Every P (m replies slot taken).rows

-- ---- what such a row carries

-- the bytes are those of the output's number and of the level's code, which stands highest in the sixteen bits
pub record Carries (output : ℕ) (l : LinearTransformation) (level : Float) (first high low : ℕ) : Type 0 where
  pub code : ℕ
  pub to : first ≡ output
  pub bytes : 256 * high + low ≡ 16 * code
  pub is : level_code l level ≡ Some code
  pub close : Given l level → Close l level code

-- 30.0 dBm
abbrev pub thirty : Float
thirty = round binary32 false 30 1

-- the output power's level as output B, or the reflected power's as output A
abbrev pub LevelOf : ChannelSettings → ℕ → ℕ → ℕ → Type 0
LevelOf s first high low = Carries 1 s.output_power_transform s.output_interlock_threshold first high low ⊎ Carries 0 s.reflected_power_transform thirty first high low

-- a request may write the levels of the settings that it is given, and otherwise no code
unfoldable pub MayWrite : Request → ℕ → ℕ → ℕ → Type 0
MayWrite Startup first high low = ⊥
MayWrite Update first high low = ⊥
MayWrite Reset first high low = ⊥
MayWrite Standby first high low = ⊥
MayWrite (Settings s) first high low = LevelOf s first high low
MayWrite (Status d) first high low = ⊥

-- ---- any call: a start, or a request of a channel. A call that is refused adds no row

pub record CodesSent : Type 0 where
  pub start : (s : ChannelSettings) (present : Bool) → Rows (Writes (LevelOf s)) (starting s present)
  pub request : (c : RfChannel) (r : Request) (g : Givens) → Rows (Writes (MayWrite r)) (requested c r g)
