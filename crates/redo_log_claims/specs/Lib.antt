pub mod Claims
pub mod Life
pub mod Cases
pub mod Edges
