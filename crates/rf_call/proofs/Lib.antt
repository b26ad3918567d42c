-- Laws of calls.
pub mod Laws
