pub mod Laws
pub mod Only
pub mod Turns
