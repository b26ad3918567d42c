-- Which calls are let in, and what a driver's own entry answers and leaves.
pub mod Gate
pub mod Enter
pub mod Listed
