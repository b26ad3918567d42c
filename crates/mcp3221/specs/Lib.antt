-- What a measurement does and answers, the chip's reply, and both in document 01's bytes.
pub mod Voltage
pub mod Layout
pub mod Listed
