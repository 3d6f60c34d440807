pub mod Show
pub mod Claims
pub mod Uses
