-- The rows of every start that is answered 0, and how many rows a request may have.
pub mod Start
pub mod Requests
