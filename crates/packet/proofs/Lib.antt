pub mod Stores
pub mod Writing
pub mod Repeating
pub mod RoundTrips
