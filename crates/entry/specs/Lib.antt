-- The tests that a call has to pass, in their order.
pub mod Tests
