-- What one line of a trace does, and what is written for it.
pub mod Line
