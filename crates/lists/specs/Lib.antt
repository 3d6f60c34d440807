pub mod Parts
pub mod Table
pub mod Le
pub mod Claims
pub mod Search
pub mod Runs
