-- Laws of the tests, and of a number between the infinities.
pub mod Laws
