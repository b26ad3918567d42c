-- What the texts of a line's fields are.
pub mod Names
