-- That no second answer satisfies the promises of the public entries, and that what is sent is the chip's frames.
pub mod Only
pub mod Frame
