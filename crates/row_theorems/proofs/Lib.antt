-- Theorems of the rows of a start and of a request.
pub mod Lays
pub mod Start
pub mod Requests
