pub mod Taken
pub mod Claims
pub mod Holders
pub mod Cases
pub mod Uses
