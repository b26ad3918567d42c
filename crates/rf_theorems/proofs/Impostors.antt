-- Two impostors: a channel that takes new settings and only answers falls to the rows that the definition has, by one change of settings that is worked out (the settings are those of document 01's trace); a channel that never moves falls to the table. Assumes nothing.
use Rattle.std.specs.Prelude.{Some}
use Prim.Native.Nat.{ℕ}
use native.Mathlib.Omega.{arith}
use mathlib.Core.Path.{◌≡◌, refl, ap, sym, subst, ◌∙◌}
use mathlib.Core.Bool.{true, false}
use mathlib.Core.List.{List}
use lib.ListN.{get_or, replicate}
use lib.Dec.{T, lit≤}
use lib.Ieee.{Float, binary32, of_bits, round, neg, eq, ne, lt, le, add, sub, mul, div, to_unsigned, of_int}
use Rattle.linear_transformation.specs.Line.{line}
use Rattle.bus.specs.Rows.{written, put, bytes, laid}
use Rattle.bus.specs.Replies.{got_at, data_at}
use Rattle.bus.specs.Run.{done, bind, mapped, note, transfer, on_got}
use Rattle.dac7571.specs.Voltage as Dac7571
use Rattle.ad5627.specs.Voltage as Ad5627
use Rattle.rf_channel.specs.declared.ChannelFault.TheVariants.{OverTemperature}
use Rattle.rf_channel.specs.declared.ChannelSettings.{ChannelSettings}
use Rattle.rf_channel.specs.declared.ChannelState.TheVariants.{Enabled}
use Rattle.rf_channel.specs.declared.Events.TheVariants.{Fault}
use Rattle.rf_plan.specs.Table.{table}
use Rattle.rf_plan.specs.Plan.{planned}
use Rattle.rf_machine.specs.Hardware.{on_did, pin, pinch_off, start_powerup, hardware}
use Rattle.rf_machine.specs.Event.{carry, process_event}
use Rattle.rf_devices.specs.Devices.{apply_output}
use Rattle.rf_call.specs.declared.Givens.{Givens}
use Rattle.rf_call.specs.Calls.{after_event, answering, quietly}
use Rattle.rf_tests.specs.Tests.{is_blocked}
use Rattle.rf_start.specs.Start.{fresh}
use Rattle.rf_settings.specs.Settings.{on_fine, write_output, write_reflected, write_bias, write_changes, apply_settings, on_follow, following, on_applied, handle_settings}
use Rattle.rf_theorems.specs.Impostors.{state_after, NeverMovesFalls, OnlyAnswersFalls}
use Rattle.rf_theorems.proofs.Events.{fault_blocks}

-- threshold 15.0 and another, bias -1.0, the lines 1 and 0, 20 and -10, 32 and -10, Enabled
abbrev settings : Float → ChannelSettings
settings threshold =
    record {
      output_interlock_threshold = threshold;
      bias_voltage = of_bits binary32 0xbf80_0000;
      state = Enabled;
      input_power_transform = line (of_bits binary32 0x3f80_0000) (of_bits binary32 0);
      output_power_transform = line (of_bits binary32 0x41a0_0000) (of_bits binary32 0xc120_0000);
      reflected_power_transform = line (of_bits binary32 0x4200_0000) (of_bits binary32 0xc120_0000);
    }

abbrev first : ChannelSettings
first = settings (of_bits binary32 0x4170_0000)

abbrev second : ChannelSettings
second = settings (of_bits binary32 0x4160_0000)

abbrev givens : Givens
givens = record { tick = 0; alert = true; output_overdrive = false; reflected_overdrive = false; watchdog = false; temperature = Some (of_bits binary32 0x41c8_0000) }

-- replies that are all acknowledged, and an empty log of twenty rows: the shortest that the entry lets in
abbrev replies : List ℕ
replies = replicate 135 0

abbrev log : List ℕ
log = replicate 320 0

-- the threshold from 15.0 to 14.0: the output level, and then the power-up that the settings ask for. So byte 1 of the log is the interlock chip's address
address_seen : get_or (written log 0 (handle_settings (fresh first) second givens replies 0 0).rows) 1 0 ≡ 0x0E
unfolding handle_settings apply_settings write_changes write_output write_reflected write_bias on_fine on_applied following on_follow quietly answering after_event process_event carry planned table hardware start_powerup on_did pin pinch_off apply_output Dac7571.set_voltage Ad5627.set_voltage written put bytes laid done bind mapped note transfer on_got got_at data_at of_bits round neg eq ne lt le add sub mul div to_unsigned of_int
address_seen = refl

pub only_answers : OnlyAnswersFalls
only_answers h = let z = sym address_seen ∙ ap (λ (l : List ℕ). get_or l 1 0) (h (fresh first) second givens replies log (lit≤ tt) (lit≤ tt)) in omega (arith, z)

-- ---- a channel that never moves

pub never_moves : NeverMovesFalls
never_moves c out stays =
    let e = ap (state_after c) (sym (fault_blocks c 0 false OverTemperature)) ∙ stays (Fault OverTemperature) 0 false in
    subst T (ap is_blocked e ∙ out) tt
