pub mod Claims
pub mod Uses
