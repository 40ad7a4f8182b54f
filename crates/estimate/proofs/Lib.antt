pub mod Places
pub mod Parts
pub mod Calls
pub mod Turned
pub mod Ranges
