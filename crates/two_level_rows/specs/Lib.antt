pub mod TwoLevels
