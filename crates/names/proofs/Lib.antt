-- What the proofs of the texts share.
pub mod Laws
