-- The chip's registers, what each call does on the bus and answers, and that in document 01's bytes.
pub mod Layout
pub mod Calls
pub mod Listed
