pub mod Claims
pub mod Cases
pub mod Uses
