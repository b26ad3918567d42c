-- What the reads of a trace whose bytes are known come to.
pub mod Run
