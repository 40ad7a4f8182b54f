pub mod Finishing
pub mod Calls
pub mod Histories
pub mod Turnings
