pub mod Written
pub mod Loaded
pub mod Arrays
pub mod Cases
