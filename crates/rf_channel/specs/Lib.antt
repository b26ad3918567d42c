-- The channel's clock and its guards.
pub mod Guards
