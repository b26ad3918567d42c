-- Laws of what is written into a buffer.
pub mod Laws
