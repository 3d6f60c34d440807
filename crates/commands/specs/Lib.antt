pub mod Command
pub mod Bytes
