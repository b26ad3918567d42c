-- How a call ends, and the calls that are one event.
pub mod Outcome
pub mod Calls
