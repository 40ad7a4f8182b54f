pub mod Estimates
pub mod Calls
