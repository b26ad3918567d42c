-- Laws of the names.
pub mod Lengths
