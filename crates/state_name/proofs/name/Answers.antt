-- `state_name::name` meets its contract: each arm has the name of its state. Assumes nothing.
use Rattle.std.proofs.Common.{refl}
use Rattle.state_name.proofs.name.Goals as goal

pub returns-in-Blocked-OverTemperature : goal.returns-in-Blocked-OverTemperature
returns-in-Blocked-OverTemperature c = let arm = c.in-Blocked-OverTemperature in rw (arm.is, rw arm.is at arm.field-0-is) refl

pub returns-in-Blocked-UnderTemperature : goal.returns-in-Blocked-UnderTemperature
returns-in-Blocked-UnderTemperature c = let arm = c.in-Blocked-UnderTemperature in rw (arm.is, rw arm.is at arm.field-0-is) refl

pub returns-in-Blocked-SupplyAlert : goal.returns-in-Blocked-SupplyAlert
returns-in-Blocked-SupplyAlert c = let arm = c.in-Blocked-SupplyAlert in rw (arm.is, rw arm.is at arm.field-0-is) refl

pub returns-in-Off : goal.returns-in-Off
returns-in-Off c = let arm = c.in-Off in rw arm.is refl

pub returns-in-Powerup : goal.returns-in-Powerup
returns-in-Powerup c = let arm = c.in-Powerup in rw arm.is refl

pub returns-in-Powered : goal.returns-in-Powered
returns-in-Powered c = let arm = c.in-Powered in rw arm.is refl

pub returns-in-Enabled : goal.returns-in-Enabled
returns-in-Enabled c = let arm = c.in-Enabled in rw arm.is refl

pub returns-in-Tripped-Input : goal.returns-in-Tripped-Input
returns-in-Tripped-Input c = let arm = c.in-Tripped-Input in rw (arm.is, rw arm.is at arm.field-0-is) refl

pub returns-in-Tripped-Output : goal.returns-in-Tripped-Output
returns-in-Tripped-Output c = let arm = c.in-Tripped-Output in rw (arm.is, rw arm.is at arm.field-0-is) refl

pub returns-in-Tripped-Reflected : goal.returns-in-Tripped-Reflected
returns-in-Tripped-Reflected c = let arm = c.in-Tripped-Reflected in rw (arm.is, rw arm.is at arm.field-0-is) refl

pub returns-in-Powerdown : goal.returns-in-Powerdown
returns-in-Powerdown c = let arm = c.in-Powerdown in rw arm.is refl
