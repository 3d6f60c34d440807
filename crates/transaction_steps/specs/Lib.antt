pub mod Steps
pub mod Again
pub mod Lent
pub mod inner
