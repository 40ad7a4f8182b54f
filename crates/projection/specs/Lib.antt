pub mod Projection
pub mod Fast
