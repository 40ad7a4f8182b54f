pub mod Mixing
pub mod Turned
pub mod Places
pub mod Calls
pub mod Rows
