-- Laws of f32 numbers over whole numbers of steps.
pub mod Own
pub mod Closest
pub mod Round
pub mod Sizes
pub mod Truncation
pub mod Signed
pub mod Operations
pub mod Apart
pub mod Compare
pub mod Rounding
