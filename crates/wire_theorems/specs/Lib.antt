-- What the interlock chip is sent by any call, and for what a start and new settings may be refused.
pub mod Wire
pub mod Refusals
