-- Two impostors of a channel, and that each is false of the definitions. Definitions only.
use Rattle.std.specs.Prelude.{ℕ, ◌≤◌, ◌≡◌, Bool, false, List, length}
use Rattle.bus.specs.Rows.{written}
use Rattle.rf_channel.specs.declared.ChannelSettings.{ChannelSettings}
use Rattle.rf_channel.specs.declared.Events.{Events}
use Rattle.rf_channel.specs.declared.Plan.{Plan}
use Rattle.rf_channel.specs.declared.Plan.TheVariants.{NoTransition, GuardFalse, Go}
use Rattle.rf_channel.specs.declared.RfChannel.{RfChannel}
use Rattle.rf_channel.specs.declared.States.{States}
use Rattle.rf_plan.specs.Table.{table}
use Rattle.rf_plan.specs.Plan.{planned}
use Rattle.rf_call.specs.declared.Givens.{Givens}
use Rattle.rf_tests.specs.Tests.{is_blocked}
use Rattle.rf_settings.specs.Settings.{handle_settings}

-- the state after a plan
abbrev pub state_after : RfChannel → Plan → States
state_after c NoTransition = c.state
state_after c GuardFalse = c.state
state_after c (Go action next) = next

-- a channel that stays in its state, whatever event comes, falls to the table in every state but Blocked, which no event leaves
abbrev pub NeverMovesFalls : Type 0
NeverMovesFalls = (c : RfChannel) → is_blocked c.state ≡ false → ((e : Events) (tick : ℕ) (watchdog : Bool) → state_after c (planned table c e tick watchdog) ≡ c.state) → ⊥

-- a channel that takes new settings and only answers, the log left as it was, falls to the rows of settings: with replies and a log that the entry lets in
abbrev pub OnlyAnswersFalls : Type 0
OnlyAnswersFalls = ((c : RfChannel) (s : ChannelSettings) (g : Givens) (replies log : List ℕ) → 135 ≤ length replies → 320 ≤ length log → written log 0 (handle_settings c s g replies 0 0).rows ≡ log) → ⊥
