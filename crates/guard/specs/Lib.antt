pub mod Judge
pub mod Entry
pub mod Replies
