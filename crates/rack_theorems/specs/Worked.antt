-- A history in the second demand's domain: the first three lines of document 01's whole case, a start, the start of the day, and an update at tick 201. Definitions only.
use Rattle.std.specs.Prelude.{ℕ, ◌≡◌, true, false, List, [], ◌∷◌, replicate, Option, None, Some}
use Rattle.std.specs.Float.{binary32}
use Rattle.std.specs.Float.Ieee.{of_bits}
use Rattle.linear_transformation.specs.Line.{line}
use Rattle.rf_channel.specs.declared.ChannelSettings.{ChannelSettings}
use Rattle.rf_channel.specs.declared.ChannelState.TheVariants.{Enabled}
use Rattle.rf_channel.specs.declared.States.{States}
use Rattle.rf_channel.specs.declared.States.TheVariants.{Powered}
use Rattle.rf_call.specs.declared.Givens.{Givens}
use Rattle.rf_call.specs.declared.Slot.{Slot}
use Rattle.rf_call.specs.declared.Slot.TheVariants as S
use Rattle.rf_calls.specs.declared.Request.TheVariants.{Startup, Update}
use Rattle.entry.specs.declared.Call.{Call}
use Rattle.entry.specs.declared.Call.TheVariants.{Start, Ask}
use Rattle.slots.specs.Slots.{slot_at, number_of}
use Rattle.rack_theorems.specs.History.{Asked, on, Past, next, history}
use Rattle.rack_theorems.specs.Domain.{InDomain, last_tick}

-- ---- the calls

-- the settings S of document 01: threshold 15, bias -1, input 1 and 0, output 20 and -10, reflected 32 and -10, Enabled
abbrev pub settings : ChannelSettings
settings =
    record {
      output_interlock_threshold = of_bits binary32 0x41700000;
      bias_voltage = of_bits binary32 0xBF800000;
      state = Enabled;
      input_power_transform = line (of_bits binary32 0x3F800000) (of_bits binary32 0x00000000);
      output_power_transform = line (of_bits binary32 0x41A00000) (of_bits binary32 0xC1200000);
      reflected_power_transform = line (of_bits binary32 0x42000000) (of_bits binary32 0xC1200000);
    }

-- 25 degrees, no alert, no overdrive, no watchdog
abbrev pub givens_at : ℕ → Givens
givens_at tick = record { tick = tick; alert = true; output_overdrive = false; reflected_overdrive = false; watchdog = false; temperature = Some (of_bits binary32 0x41C80000) }

-- on slot 0, with 20 rows of a log and with replies that are all zeros
abbrev pub on_slot0 : Call → Asked
on_slot0 call = record { slot = 0; call = call; log = replicate 320 0; used = 0; replies = replicate 135 0; numbers = [] }

abbrev pub worked : List Asked
worked = on_slot0 (Start settings true) ∷ on_slot0 (Ask Startup (givens_at 0)) ∷ on_slot0 (Ask Update (givens_at 201)) ∷ []

-- ---- what is shown of them

-- the numbers of the answers
unfoldable pub answers : Past → List Asked → List ℕ
answers past [] = []
answers past (a ∷ more) = number_of (on past.rack a).verdict ∷ answers (next past a) more

-- the state of the channel that stands there
abbrev pub state_of : Slot → Option States
state_of S.Empty = None
state_of (S.Halted cause) = None
state_of (S.Channel c) = Some c.state

-- none of them is refused, they are in the domain, and they lead to Powered
pub record Worked : Type 0 where
  pub in_domain : InDomain (history []) 0 worked
  pub tick : last_tick (history []) 0 worked ≡ 201
  pub done : answers (history []) worked ≡ 0 ∷ 0 ∷ 0 ∷ []
  pub powered : state_of (slot_at (history worked).rack 0) ≡ Some Powered
