pub mod WorkedOut
pub mod Engine
pub mod Lent
pub mod inner
