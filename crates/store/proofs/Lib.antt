pub mod Texts
pub mod Kept
pub mod Step
pub mod Running
pub mod One
pub mod Line
pub mod Acts
