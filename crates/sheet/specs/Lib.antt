-- The lines that the replay writes.
pub mod Lines
