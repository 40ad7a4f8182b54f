pub mod Parts
pub mod Calls
pub mod Histories
pub mod Turned
pub mod Demand3
