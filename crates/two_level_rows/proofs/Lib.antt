pub mod Sums
pub mod Sweep
