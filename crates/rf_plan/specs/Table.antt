-- The transition table, row for row in the order of the original's `statemachine!` block: state + event ⟦ guard ⟧ action ⇒ next state. Definitions only.
use Rattle.std.specs.Prelude.{List, [], ◌∷◌}
use Rattle.rf_channel.specs.declared.Action.{Action}
use Rattle.rf_channel.specs.declared.Action.TheVariants.{Nothing, StartPowerup, ResetInterlocks, EnableOutput, StartDisable, HandleFault, HandleTrip, DisableRfSwitch}

-- the states and the events without what they carry
pub data Shape : Type 0 where
  Off Powerup Powered Enabled Tripped Powerdown Blocked : Shape

pub data Name : Type 0 where
  InterlockReset Update Disable DisableRf Trip Fault : Name

pub data Guard : Type 0 where
  always guard_powerup check_timeout guard_enable : Guard

infix 40 ◌+◌⟦◌⟧◌⇒◌
pub data Line : Type 0 where
  ◌+◌⟦◌⟧◌⇒◌ : Shape → Name → Guard → Action → Shape → Line

unfoldable pub table : List Line
table =
    (Off + InterlockReset ⟦ guard_powerup ⟧ StartPowerup ⇒ Powerup)
    ∷ (Off + Disable ⟦ always ⟧ Nothing ⇒ Off)
    ∷ (Off + Fault ⟦ always ⟧ HandleFault ⇒ Blocked)
    ∷ (Powerup + Update ⟦ check_timeout ⟧ ResetInterlocks ⇒ Powered)
    ∷ (Powerup + Disable ⟦ always ⟧ StartDisable ⇒ Powerdown)
    ∷ (Powerup + Fault ⟦ always ⟧ HandleFault ⇒ Blocked)
    ∷ (Powered + Update ⟦ guard_enable ⟧ EnableOutput ⇒ Enabled)
    ∷ (Powered + Disable ⟦ always ⟧ StartDisable ⇒ Powerdown)
    ∷ (Powered + Fault ⟦ always ⟧ HandleFault ⇒ Blocked)
    ∷ (Enabled + InterlockReset ⟦ always ⟧ Nothing ⇒ Enabled)
    ∷ (Enabled + Trip ⟦ always ⟧ HandleTrip ⇒ Tripped)
    ∷ (Enabled + DisableRf ⟦ always ⟧ DisableRfSwitch ⇒ Powered)
    ∷ (Enabled + Disable ⟦ always ⟧ StartDisable ⇒ Powerdown)
    ∷ (Enabled + Fault ⟦ always ⟧ HandleFault ⇒ Blocked)
    ∷ (Tripped + InterlockReset ⟦ always ⟧ Nothing ⇒ Powered)
    ∷ (Tripped + DisableRf ⟦ always ⟧ Nothing ⇒ Powered)
    ∷ (Tripped + Disable ⟦ always ⟧ StartDisable ⇒ Powerdown)
    ∷ (Tripped + Fault ⟦ always ⟧ HandleFault ⇒ Blocked)
    ∷ (Powerdown + Update ⟦ check_timeout ⟧ Nothing ⇒ Off)
    ∷ (Powerdown + Fault ⟦ always ⟧ HandleFault ⇒ Blocked)
    ∷ (Blocked + Fault ⟦ always ⟧ HandleFault ⇒ Blocked)
    ∷ []
