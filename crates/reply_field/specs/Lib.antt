-- The replies of a trace's line.
pub mod Replies
