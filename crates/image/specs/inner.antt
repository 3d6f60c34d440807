pub mod Tests
pub mod Write
