-- What has changed in new settings, the call that takes them, and why it ends as it does.
pub mod Settings
pub mod Reasons
