-- What each request does.
pub mod Requests
