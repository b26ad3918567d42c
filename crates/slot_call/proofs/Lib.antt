-- Laws of what a call leaves, the uniqueness of its promise, and that a halt stays.
pub mod Laws
pub mod Only
pub mod HaltStays
