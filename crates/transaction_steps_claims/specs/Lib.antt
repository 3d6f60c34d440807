pub mod Follower
pub mod Ends
pub mod Cases
pub mod AgainCases
