-- What an event does to the hardware and to the channel.
pub mod Hardware
pub mod Event
