-- Laws of what a status shows, for the proof of the call.
pub mod Laws
