-- The columns of a line.
pub mod Columns
