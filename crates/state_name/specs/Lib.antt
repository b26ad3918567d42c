-- The names of the states.
pub mod Names
