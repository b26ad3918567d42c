-- Laws of the slots.
pub mod Laws
