-- Laws of the reads of a trace.
pub mod Laws
