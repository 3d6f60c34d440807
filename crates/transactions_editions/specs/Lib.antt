pub mod Editions
pub mod Desks
pub mod Cases
