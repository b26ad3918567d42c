-- The bytes of a line that is being read.
pub mod Hold
