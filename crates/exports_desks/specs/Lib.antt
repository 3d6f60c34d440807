pub mod Desks
pub mod Numbers
pub mod Expiries
pub mod Cases
