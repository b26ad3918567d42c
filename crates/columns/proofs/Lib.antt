-- Laws of a line's columns.
pub mod Laws
