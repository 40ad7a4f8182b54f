pub mod Rows
pub mod Stages
pub mod Rings
pub mod Parts
pub mod Planes
