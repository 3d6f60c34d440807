pub mod Recovery
pub mod Claims
pub mod Cases
pub mod Edges
