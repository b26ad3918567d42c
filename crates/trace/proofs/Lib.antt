-- Laws of a line's call.
pub mod Laws
