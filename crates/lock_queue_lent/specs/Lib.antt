pub mod Slice
pub mod Arrays
pub mod Cases
