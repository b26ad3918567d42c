-- Demand 3 and its consequences.
pub mod Chain
pub mod Numbers
pub mod Accepted
pub mod Volts
pub mod Demand3
pub mod Rising
pub mod Impostors
pub mod Edges
