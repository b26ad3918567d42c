-- The halt, and the calls that are one event. Definitions only.
use Rattle.std.specs.Prelude.{false, Result, Ok, Err}
use Rattle.bus.specs.declared.Note.TheVariants.{SignalOn, EnablePower}
use Rattle.bus.specs.Run.{Run, done, bind, note}
use Rattle.rf_channel.specs.declared.Events.{Events}
use Rattle.rf_channel.specs.declared.Events.TheVariants.{InterlockReset, Disable}
use Rattle.rf_channel.specs.declared.RfChannel.{RfChannel}
use Rattle.rf_machine.specs.declared.Cause.{Cause}
use Rattle.rf_machine.specs.declared.Told.{Told}
use Rattle.rf_machine.specs.Event.{process_event}
use Rattle.rf_call.specs.declared.Answer.{Answer}
use Rattle.rf_call.specs.declared.Answer.TheVariants.{Done}
use Rattle.rf_call.specs.declared.Report.TheVariants.{Plain}
use Rattle.rf_call.specs.declared.Givens.{Givens}
use Rattle.rf_call.specs.declared.Outcome.{Outcome}
use Rattle.rf_call.specs.declared.Outcome.TheVariants.{Live, Halted}
use Rattle.rf_call.specs.Outcome.{reset_answer}

-- ---- the halt

-- the rows so far stay; then both output pins are set low
unfoldable pub halting : Cause → Run Outcome
halting cause = bind (note (SignalOn false)) (λ _. bind (note (EnablePower false)) (λ _. done (Halted cause)))

-- work on the hardware that goes on with k, or halts
unfoldable pub or_halt : Run Outcome → Result (Unit {0}) Cause → Run Outcome
or_halt k (Ok tt) = k
or_halt k (Err cause) = halting cause

-- an event that goes on with k, or halts
unfoldable pub after_event : (RfChannel → Told → Run Outcome) → Result (RfChannel × Told) Cause → Run Outcome
after_event k (Ok (c, told)) = k c told
after_event k (Err cause) = halting cause

-- ---- the calls

-- an event, and an answer to what the table said of it
unfoldable pub answering : (Told → Answer) → Events → RfChannel → Givens → Run Outcome
answering answer e c g = bind (process_event c e g.tick g.watchdog) (after_event (λ c' told. done (Live c' (answer told))))

-- an event that is answered 0 whether or not the table has it
unfoldable pub quietly : Events → RfChannel → Givens → Run Outcome
quietly e c g = answering (λ _. Done Plain) e c g

unfoldable pub interlock_reset : RfChannel → Givens → Run Outcome
interlock_reset c g = answering reset_answer InterlockReset c g

unfoldable pub handle_startup : RfChannel → Givens → Run Outcome
handle_startup c g = quietly InterlockReset c g

unfoldable pub standing : RfChannel → Givens → Run Outcome
standing c g = quietly Disable c g
