pub mod Stamp
pub mod Cases
