-- A law of requests, and the uniqueness of their promise.
pub mod Laws
pub mod Only
