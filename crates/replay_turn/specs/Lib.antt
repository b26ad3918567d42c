-- What one read of a trace comes to, and what all reads of a trace come to.
pub mod Moves
pub mod Turn
pub mod Turns
