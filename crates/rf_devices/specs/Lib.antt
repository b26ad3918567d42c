-- The input power and the two trip levels.
pub mod Devices
