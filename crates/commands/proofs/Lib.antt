pub mod Rules
pub mod CommandBytes
pub mod Parsing
pub mod Languages
pub mod Marks
pub mod Opening
