-- Laws of the gate and of what goes through it.
pub mod Laws
