-- What programming the output does and answers, the chip's frame, and both in document 01's bytes.
pub mod Voltage
pub mod Layout
pub mod Listed
