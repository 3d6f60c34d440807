pub mod System
pub mod Claims
pub mod OneHistory
pub mod Progress
