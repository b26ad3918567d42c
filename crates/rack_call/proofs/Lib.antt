-- Laws of what a call leaves, and the uniqueness of its promise.
pub mod Laws
pub mod Only
