pub mod Update
pub mod Calls
pub mod Places
