pub mod Progress
pub mod Holders
pub mod Cases
