-- Theorems of a channel.
pub mod Keeps
pub mod Chips
pub mod Rule
pub mod Calls
pub mod Start
pub mod Events
pub mod Agree
pub mod Levels
pub mod Trips
pub mod Impostors
