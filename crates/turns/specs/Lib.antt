pub mod Pictures
pub mod Frames
pub mod Operations
pub mod Turning
pub mod Filling
