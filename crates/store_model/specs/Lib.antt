pub mod Serve
pub mod Words
pub mod Claims
pub mod Pairs
pub mod Cases
pub mod Meaning
pub mod Conversion
