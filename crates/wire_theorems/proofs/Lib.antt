-- What the interlock chip is sent, and when a level may be refused.
pub mod Each
pub mod Chips
pub mod Calls
pub mod Wire
pub mod Refusals
