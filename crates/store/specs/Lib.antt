pub mod Runs
pub mod Ran
pub mod inner
