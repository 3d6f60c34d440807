pub mod Admitted
pub mod Placed
pub mod Shown
