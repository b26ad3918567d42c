-- How a driver's list is written: a call, and beside it what document 01 says of it.
pub mod Case
