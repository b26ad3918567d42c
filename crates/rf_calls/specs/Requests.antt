-- What each request does to a channel, and to the caller's numbers. Definitions only.
use Rattle.std.specs.Prelude.{ℕ, List, Float}
use Rattle.bus.specs.Run.{Run}
use Rattle.rf_channel.specs.declared.RfChannel.{RfChannel}
use Rattle.rf_call.specs.declared.Givens.{Givens}
use Rattle.rf_call.specs.declared.Outcome.{Outcome}
use Rattle.rf_call.specs.Calls.{interlock_reset, handle_startup, standing}
use Rattle.rf_update.specs.Update.{updating}
use Rattle.rf_settings.specs.Settings.{handle_settings}
use Rattle.rf_status.specs.Numbers.{shown_of}
use Rattle.rf_status.specs.Status.{measuring, getting_status}
use Rattle.rf_calls.specs.declared.Request.{Request}
use Rattle.rf_calls.specs.declared.Request.TheVariants.{Startup, Update, Reset, Standby, Settings, Status}

unfoldable pub requested : RfChannel → Request → Givens → Run Outcome
requested c Startup g = handle_startup c g
requested c Update g = updating c g
requested c Reset g = interlock_reset c g
requested c Standby g = standing c g
requested c (Settings s) g = handle_settings c s g
requested c (Status d) g = getting_status c d g

-- how many numbers the caller must have place for
abbrev pub places : Request → ℕ
places Startup = 0
places Update = 0
places Reset = 0
places Standby = 0
places (Settings s) = 0
places (Status d) = 7

-- the caller's numbers afterwards
unfoldable pub shown_by : RfChannel → Request → Givens → List ℕ → ℕ → ℕ → List Float → List Float
shown_by c Startup g replies slot taken l = l
shown_by c Update g replies slot taken l = l
shown_by c Reset g replies slot taken l = l
shown_by c Standby g replies slot taken l = l
shown_by c (Settings s) g replies slot taken l = l
shown_by c (Status d) g replies slot taken l = shown_of (measuring c.settings d g.temperature replies slot taken).ans l
