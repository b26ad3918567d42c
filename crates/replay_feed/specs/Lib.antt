-- The replay, byte by byte.
pub mod Feed
