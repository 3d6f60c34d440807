pub mod Layout
pub mod Bytes
pub mod Image
pub mod Convert
pub mod inner
