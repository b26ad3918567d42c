-- Laws of what is written, and of numbers in decimal.
pub mod Writing
pub mod Decimals
