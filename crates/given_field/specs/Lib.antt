-- What a line of a trace gives to a call.
pub mod Given
