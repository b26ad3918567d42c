-- The bench sheet, and the decimal constants.
pub mod Sheet
pub mod Constants
