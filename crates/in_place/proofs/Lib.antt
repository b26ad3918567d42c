-- Of what is promised of a bay that is lent: its uniqueness, and that a halt is kept.
pub mod Only
pub mod HaltStays
