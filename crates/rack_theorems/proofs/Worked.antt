-- The worked history, by computing it. Assumes nothing.
use native.Mathlib.Omega.{arith}
use mathlib.Core.Path.{refl}
use lib.Ieee.{round, neg, of_bits, le, lt, add, mul, div, sub, to_unsigned, of_int, ne}
use Rattle.bus.specs.Replies.{got_at, data_at}
use Rattle.bus.specs.Run.{done, bind, mapped, note, transfer, on_got}
use Rattle.mcp3221.specs.Voltage as Mcp3221
use Rattle.dac7571.specs.Voltage as Dac7571
use Rattle.ad5627.specs.Opening as Ad5627Opening
use Rattle.ad5627.specs.Voltage as Ad5627
use Rattle.ads7924.specs.Calls as Ads7924
use Rattle.rf_plan.specs.Table.{table}
use Rattle.rf_plan.specs.Plan.{planned}
use Rattle.rf_machine.specs.Hardware.{on_did, pin, pinch_off, start_powerup, reset_interlocks, hardware}
use Rattle.rf_machine.specs.Event.{carry, process_event}
use Rattle.rf_devices.specs.Devices.{apply_output, set_reflected}
use Rattle.rf_call.specs.Calls.{or_halt, after_event, answering, quietly, handle_startup}
use Rattle.rf_update.specs.Update.{on_check, fault_stage, trip_stage, after_stage, finishing, updating}
use Rattle.rf_start.specs.Start.{beginning, monitor, preparing, on_present, module_there, levels, settling, if_present, starting}
use Rattle.rf_calls.specs.Requests.{requested}
use Rattle.slot_call.specs.Step.{acts, stepped}
use Rattle.rack_call.specs.Calls.{called}
use Rattle.rack_theorems.specs.History.{goes_on, history}
use Rattle.rack_theorems.specs.Domain.{last_tick, Ordered}
use Rattle.rack_theorems.specs.Worked.{worked, answers, Worked}
use Rattle.rack_theorems.proofs.Domain.{wide}

ordered : Ordered 0 worked
unfolding Ordered
ordered = ((omega arith, omega arith), ((omega arith, omega arith), ((omega arith, omega arith), tt)))

pub works : Worked
unfolding answers last_tick history goes_on called stepped acts requested starting settling if_present levels module_there on_present preparing monitor beginning updating finishing after_stage trip_stage fault_stage on_check handle_startup quietly answering after_event or_halt apply_output set_reflected process_event carry planned table hardware reset_interlocks start_powerup pinch_off pin on_did Ads7924.opening Ads7924.get_voltage Ads7924.sample Ads7924.clear_alarm Ad5627.set_voltage Ad5627Opening.opening Dac7571.set_voltage Mcp3221.get_voltage on_got transfer note mapped bind done data_at got_at round neg of_bits le lt add mul div sub to_unsigned of_int ne
works = record { in_domain = wide worked ordered; tick = refl; done = refl; powered = refl }
