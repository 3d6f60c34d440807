pub mod Queue
pub mod Good
pub mod Lease
pub mod Requests
pub mod inner
