-- What a channel is asked without its bus.
pub mod Methods
