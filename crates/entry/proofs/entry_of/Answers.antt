-- `entry::entry_of` meets its contract: the groups of tests one after the other. Assumes nothing.
use native.Mathlib.Omega.{arith}
use Rattle.bus.proofs.Runs.{erred}
use Rattle.entry.specs.Tests.{free_rows}
use Rattle.entry.proofs.Laws.{given_shut}
use Rattle.entry.proofs.entry_of.Goals as goal

pub returns-in_err-of_given : goal.returns-in_err-of_given
returns-in_err-of_given c = given_shut c.args.slot c.args.standing c.args.call (free_rows c.args.used c.args.log) c.args.replies c.args.numbers (omega arith) c.in_ok-admitted.ensures c.of_room.ensures c.in_ok-of_room.was c.of_given.ensures c.in_err-of_given.was (erred c.from_residual-in_err-of_given.ensures)
