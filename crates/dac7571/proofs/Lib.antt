-- That no second answer satisfies the promise of the public entry, and that what is sent is the chip's frame.
pub mod Only
pub mod Frame
