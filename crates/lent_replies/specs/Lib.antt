-- The replies that a call is lent.
pub mod Lent
