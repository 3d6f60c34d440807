pub mod Once
pub mod Reading
pub mod Standing
pub mod Walking
pub mod Answers
