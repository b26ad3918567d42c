-- What the proofs of the cut share.
pub mod Fields
