pub mod Pictures
pub mod Commuting
pub mod Colours
pub mod Frames
pub mod Calls
