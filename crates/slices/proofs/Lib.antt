pub mod Joined
pub mod Loops
pub mod Written
