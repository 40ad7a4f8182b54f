pub mod Planes
pub mod Rows
pub mod Stages
