pub mod Records
pub mod Reading
pub mod Placed
pub mod ReadBack
pub mod Stores
pub mod Budget
pub mod Steps
