-- The table has all that its lines need.
pub mod Whole
