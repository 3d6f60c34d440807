pub mod Recover
pub mod inner
