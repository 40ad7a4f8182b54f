pub mod Rounds
pub mod Colours
