pub mod Place
pub mod Commands
pub mod Walks
