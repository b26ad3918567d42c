-- The replay of a whole input is the same for every cut of it into chunks.
pub mod Runs
pub mod Held
pub mod Cut
