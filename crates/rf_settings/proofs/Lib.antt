-- Laws of writes that may go wrong, for the proofs of the writes in a row, why they end as they do, and an impostor that this rules out.
pub mod Laws
pub mod Reasons
pub mod Impostors
