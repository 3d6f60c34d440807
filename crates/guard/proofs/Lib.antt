pub mod Judge
pub mod Raise
pub mod Replies
