-- The statements that are proved of a channel: the pins, the events, the trip test, the trip levels, and what an impostor falls to.
pub mod Pins
pub mod Events
pub mod Trips
pub mod Levels
pub mod Impostors
pub mod Agree
