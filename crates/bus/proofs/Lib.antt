-- Laws of the log and of runs, for the drivers' proofs.
pub mod Log
pub mod Runs
