-- What a call does to what stands in a slot, and that a halt stays.
pub mod Step
pub mod HaltStays
