pub mod Drop
pub mod Cases
