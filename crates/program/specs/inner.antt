pub mod Put
pub mod Ready
