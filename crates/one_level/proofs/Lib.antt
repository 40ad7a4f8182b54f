pub mod Projected
