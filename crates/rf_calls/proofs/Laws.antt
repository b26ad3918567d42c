-- No request asks for more than seven places. Assumes nothing.
use Prim.Native.Nat.{◌≤◌}
use lib.Dec.{lit≤}
use Rattle.rf_calls.specs.declared.Request.{Request}
use Rattle.rf_calls.specs.declared.Request.TheVariants.{Startup, Update, Reset, Standby, Settings, Status}
use Rattle.rf_calls.specs.Requests.{places}

pub seven_places : (r : Request) → places r ≤ 7
seven_places Startup = lit≤ tt
seven_places Update = lit≤ tt
seven_places Reset = lit≤ tt
seven_places Standby = lit≤ tt
seven_places (Settings s) = lit≤ tt
seven_places (Status d) = lit≤ tt
