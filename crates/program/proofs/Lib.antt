pub mod Decimal
pub mod Puts
pub mod Lines
pub mod OneLine
pub mod Running
pub mod Answered
