pub mod Rounds
pub mod Calls
pub mod Colours
