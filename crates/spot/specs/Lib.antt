pub mod Spot
pub mod Calls
pub mod Histories
