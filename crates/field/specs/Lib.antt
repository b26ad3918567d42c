-- What the numbers of a line's fields are.
pub mod Field
