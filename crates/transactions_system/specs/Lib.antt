pub mod Together
pub mod Cases
