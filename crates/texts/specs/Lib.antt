pub mod Text
pub mod Agree
pub mod inner
