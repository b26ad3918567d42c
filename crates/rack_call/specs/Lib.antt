-- What a call does to a rack, and what it leaves.
pub mod Calls
