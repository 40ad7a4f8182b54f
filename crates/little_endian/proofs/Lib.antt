pub mod Bytes
pub mod Samples
