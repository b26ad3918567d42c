-- The eight slots, and the numbers of the answers.
pub mod Slots
