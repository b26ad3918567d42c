-- That no second answer satisfies the promise of the public entry, and the chip's reply.
pub mod Only
pub mod Frame
