-- Laws of work that may stop, for the proofs of what is done in pieces, and a judgement on what runs end with.
pub mod Laws
pub mod Gives
