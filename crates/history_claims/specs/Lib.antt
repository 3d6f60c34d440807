pub mod Claims
pub mod Lent
pub mod Swaps
pub mod Cases
pub mod Edges
