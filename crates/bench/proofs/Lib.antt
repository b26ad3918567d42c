-- What holds of the constants.
pub mod Constants
