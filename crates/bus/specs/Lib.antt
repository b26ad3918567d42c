-- The bus: the rows of the log, the replies, and what a run does with them.
pub mod Rows
pub mod Replies
pub mod Run
