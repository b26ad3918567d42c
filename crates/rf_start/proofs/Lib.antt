-- The uniqueness of the start's promise.
pub mod Only
