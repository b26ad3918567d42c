-- What is written into a buffer that may be too short, and the texts that are written.
pub mod Ink
pub mod Pens
pub mod Marks
