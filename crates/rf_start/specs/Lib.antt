-- The start of a channel.
pub mod Start
