-- The uniqueness of the calls' promises.
pub mod Only
