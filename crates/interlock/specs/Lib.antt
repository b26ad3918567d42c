-- The code that a trip level becomes, and demand 3, which says what the comparator got.
pub mod Level
pub mod Demand3
pub mod Order
pub mod Edges
