-- What the transform computes.
pub mod Line
