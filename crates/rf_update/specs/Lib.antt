-- The tests of an update, and the update.
pub mod Update
