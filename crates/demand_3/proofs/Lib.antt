pub mod Histories
pub mod Moving
