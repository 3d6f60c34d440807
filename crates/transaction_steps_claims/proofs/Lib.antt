pub mod Next
pub mod Sees
pub mod Follower
pub mod Ends
pub mod Taken
pub mod Cases
pub mod Uses
