-- Laws of the conversions.
pub mod Cuts
