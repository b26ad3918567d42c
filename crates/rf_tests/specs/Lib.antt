-- The tests of an update, the fault test and the trip test, and the lights of the front panel.
pub mod Tests
