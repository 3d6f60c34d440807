pub mod Proposed
pub mod Exits
pub mod Languages
pub mod Cases
