pub mod Taps
pub mod Quotients
pub mod Reconstruction
pub mod Ranges
pub mod Linearity
pub mod Turned
