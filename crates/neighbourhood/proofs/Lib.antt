pub mod Arithmetic
pub mod Choosing
pub mod Neighbours
pub mod Places
