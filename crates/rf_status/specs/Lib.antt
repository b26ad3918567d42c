-- The seven numbers of a status, and the status.
pub mod Numbers
pub mod Status
