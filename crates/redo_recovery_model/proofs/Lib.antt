pub mod Steps
pub mod Sending
pub mod Pairs
pub mod Never
pub mod Versions
pub mod Texts
pub mod Cases
pub mod Uses
