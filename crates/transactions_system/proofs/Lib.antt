pub mod Together
pub mod Cases
pub mod Uses
