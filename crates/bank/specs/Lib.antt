pub mod Planes
pub mod Calls
