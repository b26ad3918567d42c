-- What the replay writes for a whole input.
pub mod Whole
