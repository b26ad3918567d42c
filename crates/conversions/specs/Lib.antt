-- What each chip's conversion from volts to a code answers, and what a code is in volts.
pub mod Constants
pub mod Codes
