-- What has changed in new settings, and the event that they raise.
pub mod Changes
