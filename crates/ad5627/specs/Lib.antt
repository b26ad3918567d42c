-- What the opening and programming an output do and answer, the chip's frames, and both in document 01's bytes.
pub mod Opening
pub mod Voltage
pub mod Layout
pub mod Listed
