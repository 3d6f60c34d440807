pub mod Finish
pub mod Cases
