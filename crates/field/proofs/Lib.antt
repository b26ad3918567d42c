-- What the proofs of the numbers share.
pub mod Laws
