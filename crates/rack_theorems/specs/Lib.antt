-- Calls on a rack one after the other; the pin rule, the first demand, what an answer rests on, the second demand's domain, the requests in the words of the table, an invented count, and demand 3 on the wire.
pub mod History
pub mod Demand1
pub mod Rests
pub mod Domain
pub mod Words
pub mod Impostors
pub mod Worked
pub mod Wire
