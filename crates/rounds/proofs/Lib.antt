pub mod Turned
pub mod Calls
