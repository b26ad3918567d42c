-- Laws of the lines, and some lines worked out.
pub mod Lengths
pub mod Parts
pub mod Examples
