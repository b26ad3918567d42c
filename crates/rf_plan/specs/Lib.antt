-- The transition table, what an event does, and that no line needs what is not there.
pub mod Table
pub mod Plan
pub mod Whole
