-- An f32 as a whole number of steps, and what rounding and cutting do to whole numbers.
pub mod Steps
pub mod Rounding
