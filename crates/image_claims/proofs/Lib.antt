pub mod Claims
pub mod Cases
pub mod Conversion
pub mod Uses
