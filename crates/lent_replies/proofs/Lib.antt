-- A list that a closure made, an element at each index; bytes by their place, and the replies that they are.
pub mod Made
pub mod Nines
