pub mod Raised
pub mod Walk
pub mod Extents
pub mod Requests
