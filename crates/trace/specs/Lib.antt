-- A line of a trace.
pub mod Trace
