-- Theorems of the rack, over any calls: the pin rule, what blocks stays blocked, the first demand, what an answer rests on, the second demand's clock and words.
pub mod Found
pub mod Seen
pub mod Pins
pub mod Blocked
pub mod Ends
pub mod Writes
pub mod Answers
pub mod AtMost
pub mod Costs
pub mod Bounds
pub mod Demand1
pub mod Rests
pub mod Domain
pub mod Words
pub mod Impostors
pub mod Worked
pub mod Wire
