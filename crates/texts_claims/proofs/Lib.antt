pub mod Near
pub mod Agree
pub mod Places
pub mod Claims
pub mod Deciding
pub mod Cases
pub mod Uses
