pub mod Projection
pub mod Outside
pub mod Parts
pub mod Levels
pub mod Unheld
